-- How many obligations a specification has: at most 12,208.
use Rattle.std.proofs.Common.{◌≡◌, ℕ, zero, suc, ◌+◌, ◌-◌, ◌*◌, ◌<◌, ◌≤◌, Bool, true, cond, nat_le, inl, inr, List, [], ◌∷◌, ◌++◌, map, length, refl, sym, ap, subst, arith, length-append}
use Rattle.spec_core.specs.Limits.{most_relations, most_counters, most_invariants, most_operations}
use Rattle.std.specs.List.{filter, flat_map}
use Rattle.std.proofs.lemmas.Bool.{leb-true, cases_Bool}
use Rattle.std.proofs.lemmas.Grind.{flat_map-append}
use Rattle.std.proofs.lemmas.List.{length-map}
use Rattle.std.proofs.lemmas.List.Elements.{filter-append}
use Rattle.std.proofs.lemmas.List.Sums.{length-filter, count_by-le-length}
use Rattle.spec_core.specs.declared.update.Thing.TheVariants as thing
use Rattle.spec_core.specs.Specification.{Specification, op_of}
use Rattle.spec_core.specs.World.{below}
use Rattle.spec_core.specs.Typed.{is_specification}
use Rattle.spec_core.proofs.Parts.{parts_of}
use Rattle.obligation_list.specs.declared.obligation.Obligation.TheVariants.{Init, Safety, Commute, Stable}
use Rattle.obligation_list.specs.Obligations.{either_writes, things, init_obligations, safety_of, commute_of, commute_from, stable_of, stable_from, obligations_of}
use Rattle.obligation_list.proofs.LineFits.{few_requires}

-- ---- lists over the numbers below a size
length-below : (n : ℕ) → length (below n) ≡ n
length-below zero = refl
length-below (suc n) = let e = length-append (below n) (n ∷ []) in let h = length-below n in omega (arith, e, h)

length-flat_map_below : {X : Type 0} (f : ℕ → List X) (n : ℕ) → length (flat_map f (below (suc n))) ≡ length (flat_map f (below n)) + length (f n)
length-flat_map_below f n =
    let a = ap length (flat_map-append f (below n) (n ∷ [])) in
    let b = length-append (flat_map f (below n)) (flat_map f (n ∷ [])) in
    let c = length-append (f n) [] in
    omega (arith, a, b, c)

-- at most m for each of n numbers
each_at_most : {X : Type 0} (f : ℕ → List X) (m n : ℕ) → ((k : ℕ) → k < n → length (f k) ≤ m) → length (flat_map f (below n)) ≤ m * n
each_at_most f m zero h = omega arith
each_at_most f m (suc n) h =
    let more = length-flat_map_below f n in let last = h n (omega arith) in
    let before = each_at_most f m n (λ k lt. h k (omega (arith, lt))) in
    omega (arith, more, last, before)

-- at most m for each member of a list
all_at_most : {X Y : Type 0} (f : Y → List X) (m : ℕ) (ys : List Y) → ((y : Y) → length (f y) ≤ m) → length (flat_map f ys) ≤ m * length ys
all_at_most f m [] h = omega arith
all_at_most f m (y ∷ ys) h =
    let e = length-append (f y) (flat_map f ys) in let here = h y in let more = all_at_most f m ys h in
    omega (arith, e, here, more)

-- ---- an operation and each later one
length-later : (o n : ℕ) → length (filter (nat_le o) (below n)) ≤ n - o
length-later o zero = omega arith
length-later o (suc n) =
    let e = ap length (filter-append (nat_le o) (below n) (n ∷ [])) in
    let s = length-append (filter (nat_le o) (below n)) (filter (nat_le o) (n ∷ [])) in
    let before = length-later o n in
    elim (cases_Bool (nat_le o n)) [
      | inl le ↦ (let more = leb-true o n le in let one = ap (λ (b : Bool). length (cond b (n ∷ []) [])) le in omega (arith, e, s, before, more, one))
      | inr gt ↦ (let none = ap (λ (b : Bool). length (cond b (n ∷ []) [])) gt in omega (arith, e, s, before, none))
    ]

-- 24 and 23 and so on, that many summands
pairs : ℕ → ℕ
pairs zero = 0
pairs (suc n) = pairs n + (24 - n)

pairs-more : (m n : ℕ) → pairs m ≤ pairs (m + n)
unfolding pairs
pairs-more m zero = let e : m + 0 ≡ m = omega arith in subst (λ k. pairs m ≤ pairs k) (sym e) (omega arith)
pairs-more m (suc n) = let e : m + suc n ≡ suc (m + n) = omega arith in let h = pairs-more m n in subst (λ k. pairs m ≤ pairs k) (sym e) (omega (arith, h))

pairs-all : (n : ℕ) → n ≤ 24 → pairs n ≤ 300
unfolding pairs
pairs-all n le = let e : n + (24 - n) ≡ 24 = omega (arith, le) in let h = subst (λ k. pairs n ≤ pairs k) e (pairs-more n (24 - n)) in h

falling : {X : Type 0} (f : ℕ → List X) (n : ℕ) → ((k : ℕ) → k < n → length (f k) ≤ 24 * (24 - k)) → length (flat_map f (below n)) ≤ 24 * pairs n
unfolding pairs
falling f zero h = omega arith
falling f (suc n) h =
    let more = length-flat_map_below f n in let last = h n (omega arith) in
    let before = falling f n (λ k lt. h k (omega (arith, lt))) in
    omega (arith, more, last, before)

module _ (d : Specification) (well : is_specification d ≡ true) where
  few_operations : length d.operations ≤ 24
  few_operations = leb-true (length d.operations) most_operations (parts_of d well).few_operations

  few_invariants : length d.invariants ≤ 16
  few_invariants = leb-true (length d.invariants) most_invariants (parts_of d well).few_invariants

  few_things : length (things d) ≤ 24
  few_things =
      let a = length-append (map (λ k. thing.Relation k) (below (length d.relations))) (map (λ k. thing.Counter k) (below (length d.counters))) in
      let r = length-map (below (length d.relations)) (λ k. thing.Relation k) in let c = length-map (below (length d.counters)) (λ k. thing.Counter k) in
      let rs = length-below (length d.relations) in let cs = length-below (length d.counters) in
      let p = leb-true (length d.relations) most_relations (parts_of d well).few_relations in let q = leb-true (length d.counters) most_counters (parts_of d well).few_counters in
      omega (arith, a, r, c, rs, cs, p, q)

  few_init : length (init_obligations d) ≤ 16
  few_init =
      let m = length-map (below (length d.invariants)) (λ i. Init i) in let b = length-below (length d.invariants) in let h = few_invariants in omega (arith, m, b, h)

  few_safety : length (flat_map (safety_of d) (below (length d.operations))) ≤ 384
  few_safety =
      let each = each_at_most (safety_of d) 16 (length d.operations) (λ o lt. let m = length-map (below (length d.invariants)) (λ i. Safety o i) in let b = length-below (length d.invariants) in let h = few_invariants in omega (arith, m, b, h)) in
      let h = few_operations in omega (arith, each, h)

  few_commute_of : (o p : ℕ) → length (commute_of d o p) ≤ 24
  few_commute_of o p =
      let m = length-map (filter (either_writes d o p) (things d)) (λ x. Commute o p x) in
      let f = length-filter (either_writes d o p) (things d) in let c = count_by-le-length (either_writes d o p) (things d) in let h = few_things in
      omega (arith, m, f, c, h)

  few_commute_from : (o : ℕ) → length (commute_from d o) ≤ 24 * (24 - o)
  few_commute_from o =
      let each = all_at_most (commute_of d o) 24 (filter (nat_le o) (below (length d.operations))) (few_commute_of o) in
      let later = length-later o (length d.operations) in let h = few_operations in
      omega (arith, each, later, h)

  few_commute : length (flat_map (commute_from d) (below (length d.operations))) ≤ 7200
  few_commute =
      let each = falling (commute_from d) (length d.operations) (λ o lt. few_commute_from o) in let h = pairs-all (length d.operations) few_operations in omega (arith, each, h)

  few_stable_of : (o l : ℕ) → length (stable_of d o l) ≤ 24
  few_stable_of o l =
      let m = length-map (below (length d.operations)) (λ p. Stable o l p) in let b = length-below (length d.operations) in let h = few_operations in omega (arith, m, b, h)

  few_stable_from : (o : ℕ) → length (stable_from d o) ≤ 192
  few_stable_from o =
      let each = each_at_most (stable_of d o) 24 (length (op_of d o).requires_) (λ l below. few_stable_of o l) in
      let h = few_requires d well o in
      omega (arith, each, h)

  few_stable : length (flat_map (stable_from d) (below (length d.operations))) ≤ 4608
  few_stable =
      let each = each_at_most (stable_from d) 192 (length d.operations) (λ o lt. few_stable_from o) in let h = few_operations in omega (arith, each, h)

  pub few_obligations : length (obligations_of d) ≤ 12208
  few_obligations =
      let i = init_obligations d in let s = flat_map (safety_of d) (below (length d.operations)) in let c = flat_map (commute_from d) (below (length d.operations)) in let t = flat_map (stable_from d) (below (length d.operations)) in
      let a = length-append i s in let b = length-append (i ++ s) c in let e = length-append (i ++ s ++ c) t in
      let p = few_init in let q = few_safety in let r = few_commute in let u = few_stable in
      omega (arith, a, b, e, p, q, r, u)
