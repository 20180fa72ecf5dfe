-- An interpretation and the values that it gives agree on all named readings: at the entry, after one call, and after two.
use Rattle.std.proofs.Common.{◌≡◌, ℕ, ◌<◌, ◌==◌, ℤ, pos, ◌+ℤ◌, ◌*ℤ◌, int_le, true, ◌&&◌, List, [], ◌∷◌, ◌++◌, map, length, slice_index, flat_map, filter, refl, sym, ◌∙◌, ap, subst, arith}
use Rattle.std.specs.List.{list_any}
use Rattle.std.proofs.lemmas.Int.{ints}
use Rattle.spec_core.specs.declared.formula.Elem.{Elem}
use Rattle.spec_core.specs.declared.update.Thing.{Thing}
use Rattle.spec_core.specs.declared.update.Thing.TheVariants as thing
use Rattle.spec_core.specs.UpdateLine.{UpdateLine}
use Rattle.spec_core.specs.Specification.{Specification, op_of, places_of}
use Rattle.spec_core.specs.State.{is_in}
use Rattle.spec_core.specs.Typed.{is_sort, sort_of, is_specification}
use Rattle.spec_core.proofs.Parts.{operation_parts}
use Rattle.obligation_list.specs.declared.obligation.Obligation.{Obligation}
use Rattle.obligation_list.specs.Obligations.{IsObligation}
use Rattle.obligation_list.specs.Breaking.{operations_of}
use Rattle.ground_problem.specs.Symbols.{Stage, Symbolic, reading, multiple, has, equal, Interpretation, all_true}
use Rattle.ground_problem.specs.Formulas.{caller, at_stage, const_of}
use Rattle.ground_problem.specs.Definitions.{Reading, same_reading, updates_of, updates_at, acts_on, value_after, values_defined, value_stays, define, definition, readings, readings_after}
use Rattle.ground_problem.specs.Problem.{formulas_of}
use Rattle.ground_problem.proofs.Means.{same_means}
use Rattle.ground_problem.proofs.Groups.{values}
use Rattle.ground_problem.proofs.First.{interpret}
use Rattle.ground_problem.proofs.Interpret.{definition_true}
use Rattle.ground_problem.proofs.Names.{Each, EachOf, StageIn, of_sum, of_readings}
use Rattle.ground_problem.proofs.Closed.{In, each_in, at_in, each_left, each_right, names_of, in_front, from_distinct, from_after, Defined, all_defined, in_rows}
use Rattle.ground_problem.proofs.Worlds.{HasSort, element_same}
use Rattle.ground_problem.proofs.Rows.{HaveSorts, has_found, count_found}
use Rattle.ground_problem.proofs.Deciding.{Same, Agreed, Pairs, UpdatesOf, updates_are_of, has_decided, values_decided}
use Rattle.ground_problem.proofs.Places.{Place}
use Rattle.ground_problem.proofs.Placed.{caller_sorted}
use Rattle.ground_problem.proofs.Existing.{operation_typed}
use Rattle.ground_problem.proofs.Given as given

abbrev made : Stage → Thing → List ℕ → Reading
made k x u = record { stage = k; thing = x; tuple = u }

-- what agrees at a stage, for any reading of that stage
pub at_stage_agrees : (m o : Interpretation) (Q : Reading → Type 0) (k : Stage) → ((x : Thing) (u : List ℕ) → Q (made k x u) → Same m o k x u) → (qs : List Reading) → Each Q qs → Each (λ q. q.stage ≡ k → Agreed m o q) qs
at_stage_agrees m o Q k f [] a = tt
at_stage_agrees m o Q k f (q ∷ qs) a = (λ e. subst (λ (s : Stage). Same m o s q.thing q.tuple) (sym e) (f q.thing q.tuple (subst (λ (s : Stage). Q (made s q.thing q.tuple)) e a.0)), at_stage_agrees m o Q k f qs a.1)

of_stage_agrees : (m o : Interpretation) (Q : Reading → Type 0) (k : Stage) → ((x : Thing) (u : List ℕ) → Q (made k x u) → Same m o k x u) → (fs : List Symbolic) → EachOf Q fs → EachOf (λ q. q.stage ≡ k → Agreed m o q) fs
of_stage_agrees m o Q k f [] a = tt
of_stage_agrees m o Q k f (s ∷ fs) a = (at_stage_agrees m o Q k f (readings s) a.0, of_stage_agrees m o Q k f fs a.1)

same_numbers : (a b x y : ℤ) → ((int_le (pos 1 *ℤ a +ℤ pos 0) ((pos 1 *ℤ b +ℤ pos 0) +ℤ pos 0) && int_le (pos 1 *ℤ b +ℤ pos 0) ((pos 1 *ℤ a +ℤ pos 0) +ℤ pos 0)) && true) ≡ true
    → ((int_le (pos 1 *ℤ x +ℤ pos 0) ((pos 1 *ℤ y +ℤ pos 0) +ℤ pos 0) && int_le (pos 1 *ℤ y +ℤ pos 0) ((pos 1 *ℤ x +ℤ pos 0) +ℤ pos 0)) && true) ≡ true → b ≡ y → a ≡ x
same_numbers a b x y h k e = grind (arith, ints)

module _ (d : Specification) (ob : Obligation) (m : Interpretation) (h : all_true m (formulas_of d ob) ≡ true) (t : is_specification d ≡ true) (io : IsObligation d ob) where
  abbrev pub sorts : List ℕ
  sorts = (given.z d ob m h t io).sorts

  -- the interpretation that the values give
  abbrev pub o : Interpretation
  o = interpret d (given.w d ob m h t io) (given.cs d ob m h t io) (given.r d ob m h t io) (given.val d ob m h t io)

  pub pair : Pairs sorts m o
  pair a b s ha hb = sym (element_same m sorts (given.axioms d ob m h t io) s a b ha hb) ∙ sym (same_means d o (given.val d ob m h t io) (given.w d ob m h t io) (values d ob (given.w d ob m h t io) (given.r d ob m h t io) (given.cs d ob m h t io) (given.val d ob m h t io) (given.setting d ob m h t io)) a b)

  -- ---- a definition that is true in both, where they agree on what stands before the call
  module _ (n : ℕ) (lt : n < length (operations_of ob)) (k : Stage) (Q : Reading → Type 0) (agree : (x : Thing) (u : List ℕ) → Q (made k x u) → Same m o k x u) where
    elem : (s : ℕ) (e : Elem) → is_sort (sort_of d (op_of d (slice_index (operations_of ob) n)).params [] e) s ≡ true → HasSort sorts s (const_of (caller (given.z d ob m h t io) n) [] e)
    elem s e q = caller_sorted d ob n lt [] [] tt s e q

    count_decided : (i : ℕ) (u : List ℕ) (us : List UpdateLine) → HaveSorts sorts (places_of d (thing.Counter i)) u → UpdatesOf d (op_of d (slice_index (operations_of ob) n)).params (thing.Counter i) us
        → EachOf (λ q. q.stage ≡ k → Agreed m o q) (value_stays (at_stage k) (n ∷ k) i u us ++ values_defined (at_stage k) (caller (given.z d ob m h t io) n) (n ∷ k) i u 1 (multiple (pos 1) (reading k i u) ∷ []) us)
        → all_true m (value_stays (at_stage k) (n ∷ k) i u us ++ values_defined (at_stage k) (caller (given.z d ob m h t io) n) (n ∷ k) i u 1 (multiple (pos 1) (reading k i u) ∷ []) us) ≡ true
        → all_true o (value_stays (at_stage k) (n ∷ k) i u us ++ values_defined (at_stage k) (caller (given.z d ob m h t io) n) (n ∷ k) i u 1 (multiple (pos 1) (reading k i u) ∷ []) us) ≡ true → m.int (reading (n ∷ k) i u) ≡ o.int (reading (n ∷ k) i u)
    count_decided i u [] so ty named a b = same_numbers (m.int (reading (n ∷ k) i u)) (m.int (reading k i u)) (o.int (reading (n ∷ k) i u)) (o.int (reading k i u)) a b (named.0.1.0 refl)
    count_decided i u (x ∷ us) so ty named a b =
        let before = multiple (pos 1) (reading k i u) ∷ [] in
        let next = multiple (pos 1) (value_after us 1 (n ∷ k) i u) ∷ [] in
        let acting = acts_on (at_stage k) (caller (given.z d ob m h t io) n) u x in
        let sums = each_right (λ q. q.stage ≡ k → Agreed m o q) (readings acting) (readings (equal next before)) named.1.0 in
        let same = each_right (λ q. q.stage ≡ k → Agreed m o q) (of_sum next) (of_sum before) (each_left (λ q. q.stage ≡ k → Agreed m o q) (of_sum next ++ of_sum before) (of_sum before ++ of_sum next) sums) in
        values_decided d sorts m o pair k (op_of d (slice_index (operations_of ob) n)).params (caller (given.z d ob m h t io) n) (given.integers d ob m h t io n lt) elem (thing.Counter i) (n ∷ k) i u 1 before x us so ty (refl, tt) named
        (ap (λ (y : ℤ). pos 1 *ℤ y +ℤ pos 0) (same.0 refl)) a b

    decides : (x : Thing) (u : List ℕ) → HaveSorts sorts (places_of d x) u → all_true m (define d ob (given.z d ob m h t io) (n ∷ k) x u) ≡ true → all_true o (define d ob (given.z d ob m h t io) (n ∷ k) x u) ≡ true
        → EachOf Q (define d ob (given.z d ob m h t io) (n ∷ k) x u) → Same m o (n ∷ k) x u
    decides (thing.Relation i) u so a b named = has_decided d sorts m o pair k (op_of d (slice_index (operations_of ob) n)).params (caller (given.z d ob m h t io) n) (given.integers d ob m h t io n lt) elem i u (updates_at d ob n) (has (n ∷ k) i u) so
        (updates_are_of d (op_of d (slice_index (operations_of ob) n)).params (thing.Relation i) (updates_at d ob n) (operation_parts d (op_of d (slice_index (operations_of ob) n)) (operation_typed d ob t io n lt)).updates)
        (of_stage_agrees m o Q k agree (define d ob (given.z d ob m h t io) (n ∷ k) (thing.Relation i) u) named) a b
    decides (thing.Counter i) u so a b named = count_decided i u (updates_of (thing.Counter i) (updates_at d ob n)) so
        (updates_are_of d (op_of d (slice_index (operations_of ob) n)).params (thing.Counter i) (updates_at d ob n) (operation_parts d (op_of d (slice_index (operations_of ob) n)) (operation_typed d ob t io n lt)).updates)
        (of_stage_agrees m o Q k agree (define d ob (given.z d ob m h t io) (n ∷ k) (thing.Counter i) u) named) a b

  -- ---- at the entry
  abbrev pub NamedAll : Reading → Type 0
  NamedAll q = In q (flat_map readings (given.all d ob m h t io))

  abbrev pub NamedTwo : Reading → Type 0
  NamedTwo q = In q (flat_map readings (given.two d ob m h t io))

  abbrev pub NamedOne : Reading → Type 0
  NamedOne q = In q (flat_map readings (given.one d ob m h t io))

  row_agrees : (x : Thing) (u : List ℕ) → is_in u (given.rows d ob m h t io x) ≡ true → Same m o [] x u
  row_agrees (thing.Relation i) u k = sym (has_found (map (given.val d ob m h t io)) (m.has [] i) (given.rows d ob m h t io (thing.Relation i)) (λ u v a b e. given.entry_same d ob m h t io (thing.Relation i) u v a b e) u k)
  row_agrees (thing.Counter i) u k = sym (count_found (map (given.val d ob m h t io)) (λ v. m.int (reading [] i v)) (given.rows d ob m h t io (thing.Counter i)) (λ u v a b e. given.entry_same d ob m h t io (thing.Counter i) u v a b e) u k)

  in_entry_rows : (q : Reading) → NamedAll q → q.stage ≡ [] → is_in q.tuple (given.rows d ob m h t io q.thing) ≡ true
  in_entry_rows q k e =
      let F = λ (q : Reading). is_in q.tuple (given.rows d ob m h t io q.thing) ≡ true in
      let names = flat_map readings (given.all d ob m h t io) in
      at_in (λ q. length q.stage ≡ 0 → F q) names (from_after F 0 names (from_distinct F [] (filter (λ q. length q.stage == 0) names) (λ q n. absurd (no q n)) (each_in F (given.entries d ob m h t io) (λ q l. in_rows (given.entries d ob m h t io) q l)))) q k (ap length e)
    where
      no : (q : Reading) → list_any (same_reading q) [] ≡ true → ⊥
      no q n = cc

  pub entry_agrees : (x : Thing) (u : List ℕ) → NamedAll (made [] x u) → Same m o [] x u
  entry_agrees x u k = row_agrees x u (in_entry_rows (made [] x u) k refl)

  -- ---- after one call, and after two
  two_staged : Each (StageIn ob) (flat_map readings (given.two d ob m h t io))
  two_staged = of_readings (StageIn ob) (given.two d ob m h t io) (given.two_stages d ob m h t io)

  two_placed : Each (Place d sorts) (flat_map readings (given.two d ob m h t io))
  two_placed = of_readings (Place d sorts) (given.two d ob m h t io) (given.two_places d ob m h t io)

  pub one_call : (n : ℕ) (x : Thing) (u : List ℕ) → NamedTwo (made (n ∷ []) x u) → Same m o (n ∷ []) x u
  one_call n x u k =
      let names = flat_map readings (given.two d ob m h t io) in
      let s = at_in (StageIn ob) names two_staged (made (n ∷ []) x u) k in
      let so = at_in (Place d sorts) names two_placed (made (n ∷ []) x u) k in
      let df = at_in (λ q. length q.stage ≡ 1 → Defined m NamedAll d ob q) names (all_defined m NamedAll d ob 1 (given.two d ob m h t io) (given.all_holds d ob m h t io) (names_of (given.all d ob m h t io))) (made (n ∷ []) x u) k refl in
      decides n s.0 [] NamedAll entry_agrees x u so df.0 (definition_true d ob (given.w d ob m h t io) (given.r d ob m h t io) (given.cs d ob m h t io) (given.val d ob m h t io) (given.setting d ob m h t io) (n ∷ []) x u s) df.1

  pub two_calls : (n k : ℕ) (x : Thing) (u : List ℕ) → NamedOne (made (n ∷ k ∷ []) x u) → Same m o (n ∷ k ∷ []) x u
  two_calls n k x u l =
      let names = flat_map readings (given.one d ob m h t io) in
      let more = flat_map readings (given.two d ob m h t io) in
      let l2 = in_front (given.one d ob m h t io) (flat_map (definition d ob (given.z d ob m h t io)) (readings_after 2 (given.one d ob m h t io))) (made (n ∷ k ∷ []) x u) l in
      let s = at_in (StageIn ob) more two_staged (made (n ∷ k ∷ []) x u) l2 in
      let so = at_in (Place d sorts) more two_placed (made (n ∷ k ∷ []) x u) l2 in
      let df = at_in (λ q. length q.stage ≡ 2 → Defined m NamedTwo d ob q) names (all_defined m NamedTwo d ob 2 (given.one d ob m h t io) (given.two_holds d ob m h t io) (names_of (given.two d ob m h t io))) (made (n ∷ k ∷ []) x u) l refl in
      decides n s.0 (k ∷ []) NamedTwo (one_call k) x u so df.0 (definition_true d ob (given.w d ob m h t io) (given.r d ob m h t io) (given.cs d ob m h t io) (given.val d ob m h t io) (given.setting d ob m h t io) (n ∷ k ∷ []) x u s) df.1
