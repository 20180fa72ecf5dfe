-- A state that is filled in from the numbers of an obligation reads what they say of the entry.
use Rattle.std.proofs.Common.{◌≡◌, ℕ, suc, ◌+◌, ◌<◌, nat_lt, ℤ, pos, Bool, true, false, cond, ◌&&◌, ◌||◌, inl, inr, List, [], ◌∷◌, map, length, get_or, refl, sym, ◌∙◌, ap, subst, arith}
use Rattle.std.proofs.lemmas.Bool.{and_parts, and_from, lt-ltb}
use Rattle.spec_core.specs.declared.update.Thing.TheVariants as thing
use Rattle.spec_core.specs.Specification.{Specification}
use Rattle.spec_core.specs.State.{Reads, nothing, is_in, with_has, with_count}
use Rattle.spec_core.specs.Fits.{AgreeOn}
use Rattle.spec_core.specs.Typed.{is_specification}
use Rattle.obligation_list.specs.declared.obligation.Obligation.{Obligation}
use Rattle.obligation_list.specs.Obligations.{IsObligation}
use Rattle.proof_lines.specs.Problems.{Meaning}
use Rattle.ground_problem.specs.Symbols.{Integer, argument, reading, partial, Interpretation, all_true}
use Rattle.ground_problem.specs.Problem.{formulas_of}
use Rattle.ground_problem.specs.Readback.{element_at, named_at, world_of, held, held_count, entry_of}
use Rattle.ground_problem.proofs.Given as given
use Rattle.ground_numbers.specs.Numbers.{Atom, same_atom, has_atom, row_atom, same_atoms, same_integers, Table, has_number, has_integer, number_of, integer_of}
use Rattle.ground_numbers.specs.Problem.{table_of, interpretation_of}
use Rattle.ground_numbers.proofs.Lookups.{position-below}
use Rattle.model_back.proofs.Numbered.{no_atom, no_integer, atom-there, integer-there}
use Rattle.ground_numbers.proofs.Sameness.{same_atoms-refl, same_integers-refl}
use Rattle.model_back.specs.Filling.{filled, fill_integer, filled_integers, fill_atom}
use Rattle.model_back.proofs.Naming.{table-named, named-numbered}
use Rattle.model_back.proofs.Places.{IsReading, any-at, table-placed}
use Rattle.model_back.proofs.Filled.{told, told-tells, says-it, filled-has, counted, counted-cases, filled-count, held-some, some-held, held_count-cases}

iff : (a b : Bool) → (a ≡ true → b ≡ true) → (b ≡ true → a ≡ true) → a ≡ b
iff a b f g = grind arith

zero_more : (n : ℕ) → 0 + n ≡ n
zero_more n = omega arith

integers-has : (d : Specification) (val : ℕ → ℕ) (v : ℕ → ℤ) (n : ℕ) (ints : List Integer) (r : Reads) (k : ℕ) (t : List ℕ) → (filled_integers d val v n ints r).has k t ≡ r.has k t
integers-has d val v n [] r k t = refl
integers-has d val v n (x ∷ more) r k t = integers-has d val v (suc n) more (fill_integer d val (v n) x r) k t ∙ one x
  where
    one : (x : Integer) → (fill_integer d val (v n) x r).has k t ≡ r.has k t
    one (argument c p) = refl
    one (reading [] j u) = by_test (nat_lt j (length d.counters))
      where
        by_test : (b : Bool) → (cond b (with_count r j (map val u) (v n)) r).has k t ≡ r.has k t
        by_test true = refl
        by_test false = refl
    one (reading (a ∷ s) j u) = refl
    one (partial m s j u) = refl

atoms-count : (d : Specification) (val : ℕ → ℕ) (v : ℕ → Bool) (n : ℕ) (atoms : List Atom) (r : Reads) (k : ℕ) (t : List ℕ) → (filled d val v n atoms r).count k t ≡ r.count k t
atoms-count d val v n [] r k t = refl
atoms-count d val v n (a ∷ more) r k t = atoms-count d val v (suc n) more (fill_atom d val (v n) a r) k t ∙ one (v n) a
  where
    one : (b : Bool) (a : Atom) → (fill_atom d val b a r).count k t ≡ r.count k t
    one b (same_atom x y) = refl
    one b (has_atom [] j u) = by_test (b && nat_lt j (length d.relations))
      where
        by_test : (c : Bool) → (cond c (with_has r j (map val u) true) r).count k t ≡ r.count k t
        by_test true = refl
        by_test false = refl
    one b (has_atom (x ∷ s) j u) = refl
    one b (row_atom q) = refl

module _ (d : Specification) (ob : Obligation) (mu : Meaning) (t : is_specification d ≡ true) (io : IsObligation d ob) (h : all_true (interpretation_of (table_of d ob) mu) (formulas_of d ob) ≡ true) where
  abbrev o : Table
  o = table_of d ob

  abbrev m : Interpretation
  m = interpretation_of o mu

  abbrev val : ℕ → ℕ
  val = element_at d ob m

  -- ---- relations
  number-is : (i : ℕ) (a : Atom) → i < length o.atoms → get_or o.atoms i no_atom ≡ a → number_of o a ≡ i
  number-is i a l e = subst (λ (x : Atom). number_of o x ≡ i) e ((table-placed d ob).atoms i l tt)

  number-there : (i : ℕ) (a : Atom) → i < length o.atoms → get_or o.atoms i no_atom ≡ a → has_number o a ≡ true
  number-there i a l e = any-at (same_atoms a) o.atoms i no_atom l (subst (λ (x : Atom). same_atoms a x ≡ true) (sym e) (same_atoms-refl a))

  has-back : (k : ℕ) (u : List ℕ) → nat_lt k (length d.relations) ≡ true → told d val mu.truth k u 0 o.atoms ≡ held (map val) (m.has [] k) (named_at d ob (thing.Relation k)) u
  has-back k u in_range = iff _ _ forth back
    where
      forth : told d val mu.truth k u 0 o.atoms ≡ true → held (map val) (m.has [] k) (named_at d ob (thing.Relation k)) u ≡ true
      forth e =
          let p = told-tells d val mu.truth k u 0 o.atoms e in
          let a = has_atom [] k p.1 in
          let there = number-there p.0 a p.2 p.3 in
          let number = number-is p.0 a p.2 p.3 in
          some-held (map val) (m.has [] k) (named_at d ob (thing.Relation k)) u p.1 ((table-named d ob).atoms a there refl) p.5
          (and_from (has_number o a) (mu.truth (number_of o a)) there (ap mu.truth (number ∙ sym (zero_more p.0)) ∙ p.4))

      back : held (map val) (m.has [] k) (named_at d ob (thing.Relation k)) u ≡ true → told d val mu.truth k u 0 o.atoms ≡ true
      back e =
          let p = held-some (map val) (m.has [] k) (named_at d ob (thing.Relation k)) u e in
          let a = has_atom [] k p.0 in
          let q = and_parts (has_number o a) (mu.truth (number_of o a)) p.3 in
          says-it d val mu.truth k u in_range 0 (number_of o a) p.0 o.atoms (position-below (same_atoms a) o.atoms q.0) (atom-there o a q.0) (ap mu.truth (zero_more (number_of o a)) ∙ q.1) p.2

  -- ---- counters
  integer-is : (i k : ℕ) (u : List ℕ) → i < length o.ints → get_or o.ints i no_integer ≡ reading [] k u → integer_of o (reading [] k u) ≡ i
  integer-is i k u l e = subst (λ (x : Integer). integer_of o x ≡ i) e ((table-placed d ob).ints i l (subst IsReading (sym e) tt))

  integer-in : (i : ℕ) (x : Integer) → i < length o.ints → get_or o.ints i no_integer ≡ x → has_integer o x ≡ true
  integer-in i x l e = any-at (same_integers x) o.ints i no_integer l (subst (λ (y : Integer). same_integers x y ≡ true) (sym e) (same_integers-refl x))

  value-is : (i k : ℕ) (u : List ℕ) → i < length o.ints → get_or o.ints i no_integer ≡ reading [] k u → m.int (reading [] k u) ≡ mu.number (0 + i)
  value-is i k u l e = ap (λ (b : Bool). cond b (mu.number (integer_of o (reading [] k u))) (pos 0)) (integer-in i (reading [] k u) l e) ∙ ap mu.number (integer-is i k u l e ∙ sym (zero_more i))

  count-back : (k : ℕ) (u : List ℕ) (there : nat_lt k (length d.counters) ≡ true) → counted d val mu.number k u there 0 o.ints (pos 0) ≡ held_count (map val) (λ w. m.int (reading [] k w)) (named_at d ob (thing.Counter k)) u
  count-back k u there = elim (counted-cases d val mu.number k u there 0 o.ints (pos 0)) [
    | inl p ↦ elim (held_count-cases (map val) (λ w. m.int (reading [] k w)) (named_at d ob (thing.Counter k)) u) [
      | inl q ↦ sym p.4 ∙ sym (value-is p.0 k p.1 p.2 p.3) ∙ given.entry_same d ob m h t io (thing.Counter k) p.1 q.0 (name p.0 p.1 p.2 p.3) q.1 (p.5 ∙ sym q.2) ∙ sym q.3
      | inr q ↦ absurd (q.0 p.1 (name p.0 p.1 p.2 p.3) p.5)
    ]
    | inr p ↦ elim (held_count-cases (map val) (λ w. m.int (reading [] k w)) (named_at d ob (thing.Counter k)) u) [
      | inl q ↦ absurd (let e = named-numbered d ob (thing.Counter k) q.0 q.1 in p.0 (integer_of o (reading [] k q.0)) q.0 (position-below (same_integers (reading [] k q.0)) o.ints e) (integer-there o (reading [] k q.0) e) q.2)
      | inr q ↦ p.1 ∙ sym q.1
    ]
  ]
    where
      name : (i : ℕ) (w : List ℕ) → i < length o.ints → get_or o.ints i no_integer ≡ reading [] k w → is_in w (named_at d ob (thing.Counter k)) ≡ true
      name i w l e = (table-named d ob).ints (reading [] k w) (integer-in i (reading [] k w) l e) refl

  -- ---- both
  abbrev read_in : Reads
  read_in = filled_integers d val mu.number 0 o.ints (filled d val mu.truth 0 o.atoms nothing)

  or_none : (b : Bool) → (b || false) ≡ b
  or_none b = grind arith

  pub filled-is-entry : AgreeOn d (world_of d ob m) read_in (entry_of d ob m)
  filled-is-entry = record {
    has = λ k u l f. integers-has d val mu.number 0 o.ints (filled d val mu.truth 0 o.atoms nothing) k u ∙ filled-has d val mu.truth k u 0 o.atoms nothing ∙ or_none (told d val mu.truth k u 0 o.atoms) ∙ has-back k u (lt-ltb k (length d.relations) l);
    count = λ k u l f. (let there = lt-ltb k (length d.counters) l in
        filled-count d val mu.number k u there 0 o.ints (filled d val mu.truth 0 o.atoms nothing) ∙ ap (counted d val mu.number k u there 0 o.ints) (atoms-count d val mu.truth 0 o.atoms nothing k u) ∙ count-back k u there);
  }
