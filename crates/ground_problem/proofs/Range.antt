-- The values that an interpretation gives are read from it.
use Rattle.std.proofs.Common.{◌≡◌, ℕ, zero, suc, ◌+◌, ◌≤◌, ℤ, pos, Bool, true, false, cond, inl, inr, Option, None, Some, unwrap_or, List, [], ◌∷◌, ◌++◌, map, length, get_or, slice_get, slice_index, slice_index_or, refl, sym, ◌∙◌, ap, subst, arith}
use Rattle.std.specs.List.{list_all, range_with_len}
use Rattle.std.proofs.lemmas.Bool.{and_from}
use Rattle.spec_core.specs.declared.spec.Counter.{Counter}
use Rattle.spec_core.specs.declared.update.Thing.TheVariants as thing
use Rattle.spec_core.specs.declared.world.World.{World}
use Rattle.spec_core.specs.declared.world.Call.{Call}
use Rattle.spec_core.specs.Specification.{Specification, op_of, no_counter}
use Rattle.spec_core.specs.World.{size_of, tuples}
use Rattle.spec_core.specs.Meaning.{initial}
use Rattle.spec_core.specs.Typed.{is_number, is_specification}
use Rattle.obligation_list.specs.declared.obligation.Obligation.{Obligation}
use Rattle.obligation_list.specs.Obligations.{IsObligation}
use Rattle.obligation_list.specs.Breaking.{operations_of}
use Rattle.ground_problem.specs.Symbols.{Integer, argument, reading, Interpretation, all_true}
use Rattle.ground_problem.specs.Constants.{of_sort}
use Rattle.ground_problem.specs.Formulas.{caller}
use Rattle.ground_problem.specs.Problem.{formulas_of}
use Rattle.ground_problem.specs.Readback.{all_listed, ReadFrom}
use Rattle.ground_problem.specs.Classes.{any_like, firsts}
use Rattle.ground_problem.proofs.Worlds.{like}
use Rattle.ground_problem.proofs.Values.{split_at, numbers_out, number_at}
use Rattle.ground_problem.proofs.Given as given

-- there are at most as many first ones as there are
firsts_few : (alike : ℕ → ℕ → Bool) (seen xs : List ℕ) → length (firsts alike seen xs) ≤ length xs
firsts_few alike seen [] = omega arith
firsts_few alike seen (x ∷ xs) = by_test (any_like alike x seen) (firsts_few alike seen xs) (firsts_few alike (seen ++ x ∷ []) xs)
  where
    by_test : (b : Bool) → length (firsts alike seen xs) ≤ length xs → length (firsts alike (seen ++ x ∷ []) xs) ≤ length xs → length (cond b (firsts alike seen xs) (x ∷ firsts alike (seen ++ x ∷ []) xs)) ≤ suc (length xs)
    by_test true p q = omega arith
    by_test false p q = omega arith

-- each of a list of one value passes where the value does
all_one : {X : Type 0} (test : ℤ → Bool) (v : ℤ) (xs : List X) (key : X → List ℕ) → test v ≡ true → list_all (λ (e : List ℕ × ℤ). test e.1) (map (λ x. (key x, v)) xs) ≡ true
all_one test v [] key h = refl
all_one test v (x ∷ xs) key h = and_from (test v) _ h (all_one test v xs key h)

-- the initial state lists stated initial values
pub start_counts : (d : Specification) (w : World) (test : ℤ → Bool) → ((k : ℕ) → test (get_or d.counters k no_counter).initial ≡ true) → all_listed test (initial d w) ≡ true
start_counts d w test h = each d.counters h
  where
    each : (xs : List Counter) → ((k : ℕ) → test (get_or xs k no_counter).initial ≡ true) → list_all (λ values. list_all (λ (e : List ℕ × ℤ). test e.1) values) (map (λ (c : Counter). map (λ key. (key, c.initial)) (tuples w c.keys)) xs) ≡ true
    each [] h = refl
    each (c ∷ xs) h = and_from _ _ (all_one test c.initial (tuples w c.keys) (λ key. key) (h 0)) (each xs (λ k. h (suc k)))

module _ (d : Specification) (ob : Obligation) (m : Interpretation) (h : all_true m (formulas_of d ob) ≡ true) (t : is_specification d ≡ true) (io : IsObligation d ob) where
  pub sizes_few : (n : ℕ) → size_of (given.w d ob m h t io) n ≤ length (of_sort 0 (given.z d ob m h t io).sorts n)
  sizes_few n = elim (split_at n (length d.sorts)) [
    | inl l ↦ (let e = given.size_at d ob m h t io n l in let f = firsts_few (like m) [] (of_sort 0 (given.z d ob m h t io).sorts n) in omega arith)
    | inr l ↦ (let e = numbers_out (given.size d ob m h t io) 0 (length d.sorts) n l in omega arith)
  ]

  pub listed_counts : (test : ℤ → Bool) → ((x : Integer) → test (m.int x) ≡ true) → all_listed test (given.listing d ob m h t io) ≡ true
  listed_counts test p = each 0 (length d.counters)
    where
      each_row : (i : ℕ) (us : List (List ℕ)) → list_all (λ (e : List ℕ × ℤ). test e.1) (map (λ v. (map (given.val d ob m h t io) v, m.int (reading [] i v))) us) ≡ true
      each_row i [] = refl
      each_row i (u ∷ us) = and_from (test (m.int (reading [] i u))) _ (p (reading [] i u)) (each_row i us)

      each : (from n : ℕ) → list_all (λ values. list_all (λ (e : List ℕ × ℤ). test e.1) values) (map (λ i. map (λ v. (map (given.val d ob m h t io) v, m.int (reading [] i v))) (given.rows d ob m h t io (thing.Counter i))) (range_with_len from n)) ≡ true
      each from zero = refl
      each from (suc n) = and_from _ _ (each_row from (given.rows d ob m h t io (thing.Counter from))) (each (from + 1) n)

  some_call : (from : ℕ) (os : List ℕ) (n : ℕ) (c : Call) → slice_get (given.calls_from d ob m h t io from os) n ≡ Some c → given.call_of d ob m h t io (from + n) (slice_index os n) ≡ c
  some_call from [] n c e = absurd cc
  some_call from (o ∷ os) zero c e = (let q : from + 0 ≡ from = omega arith in ap (λ (x : ℕ). given.call_of d ob m h t io x o) q ∙ some_same _ c e)
    where
      some_same : (a b : Call) → Some a ≡ Some b → a ≡ b
      some_same a b e = ap (λ (x : Option Call). unwrap_or x a) e
  some_call from (o ∷ os) (suc n) c e = (let q : from + suc n ≡ suc from + n = omega arith in ap (λ (x : ℕ). given.call_of d ob m h t io x (slice_index os n)) q ∙ some_call (suc from) os n c e)

  pub number_arguments : (n : ℕ) (c : Call) → slice_get (given.cs d ob m h t io) n ≡ Some c → (i : ℕ) → is_number (slice_get (op_of d c.op).params i) ≡ true → slice_index_or c.args i (pos 0) ≡ m.int (argument n i)
  number_arguments n c e i k =
      let q : 0 + n ≡ n = omega arith in
      let g : i ≡ 0 + i = omega arith in
      let here = ap (λ (x : ℕ). given.call_of d ob m h t io x (slice_index (operations_of ob) n)) (sym q) ∙ some_call 0 (operations_of ob) n c e in
      let params = (op_of d (slice_index (operations_of ob) n)).params in
      let number = subst (λ (x : Call). is_number (slice_get (op_of d x.op).params i) ≡ true) (sym here) k in
      subst (λ (x : Call). slice_index_or x.args i (pos 0) ≡ m.int (argument n i)) here
      (sym (ap (λ (x : ℕ). m.int (argument n x)) g ∙ number_at (λ i. given.val d ob m h t io (unwrap_or (get_or (caller (given.z d ob m h t io) n).params i None) 0)) (λ i. m.int (argument n i)) 0 params i number))

  -- the state that the interpretation gives, and the initial one
  pub read_from : ReadFrom d ob m (given.w d ob m h t io) (given.listing d ob m h t io) (given.cs d ob m h t io)
  read_from = record { sizes = sizes_few; counts = λ test p q. listed_counts test p; arguments = number_arguments }

  pub start_read_from : ReadFrom d ob m (given.w d ob m h t io) (initial d (given.w d ob m h t io)) (given.cs d ob m h t io)
  start_read_from = record { sizes = sizes_few; counts = λ test p q. start_counts d (given.w d ob m h t io) test q; arguments = number_arguments }
