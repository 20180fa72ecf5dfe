-- An interpretation that makes the list of an obligation true gives values that break it.
use Rattle.std.proofs.Common.{◌≡◌, ℕ, zero, suc, ◌+◌, ◌<◌, nat_lt, ℤ, pos, ◌+ℤ◌, ◌*ℤ◌, int_le, negsuc, Bool, true, false, not, ◌&&◌, ◌||◌, List, [], ◌∷◌, ◌++◌, map, length, slice_get, slice_index, flat_map, refl, sym, ◌∙◌, ap, subst, arith}
use Rattle.std.specs.List.{list_all}
use Rattle.std.proofs.lemmas.Bool.{and_parts, and_from, not-true}
use Rattle.std.proofs.lemmas.Int.{ints}
use Rattle.spec_core.specs.declared.formula.Elem.{Elem}
use Rattle.spec_core.specs.declared.formula.Body.{Body}
use Rattle.spec_core.specs.declared.formula.Body.TheVariants as body
use Rattle.spec_core.specs.declared.formula.Summand.{Summand}
use Rattle.spec_core.specs.declared.formula.Cmp.{Cmp}
use Rattle.spec_core.specs.declared.formula.Cmp.TheVariants.{Less, AtMost, Equal, Unequal, AtLeast, Greater}
use Rattle.spec_core.specs.declared.operation.Operation.{Operation}
use Rattle.spec_core.specs.declared.spec.Invariant.{Invariant}
use Rattle.spec_core.specs.declared.update.Thing.{Thing}
use Rattle.spec_core.specs.declared.update.Thing.TheVariants as thing
use Rattle.spec_core.specs.declared.world.World.{World}
use Rattle.spec_core.specs.declared.world.Call.{Call}
use Rattle.spec_core.specs.Form.{Form, true_form, false_form, not_form, and_form, or_form, implies_form, has_form, same_form, differ_form, compare_form}
use Rattle.spec_core.specs.Line.{Line}
use Rattle.spec_core.specs.Specification.{Specification, op_of, no_line, places_of}
use Rattle.spec_core.specs.State.{Listing, Reads, reads}
use Rattle.spec_core.specs.Truth.{int_eq, is_exists, line_true, lines_true}
use Rattle.spec_core.specs.Meaning.{invariant_line, inv, pre, initial}
use Rattle.spec_core.specs.Fits.{fits_places, is_state, AgreeOn}
use Rattle.spec_core.specs.Typed.{is_number, sort_of, same_sort, body_typed, summand_typed, term_typed, form_typed, is_line, is_invariant, is_specification}
use Rattle.spec_core.proofs.Lists.{list_all-get_or}
use Rattle.spec_core.proofs.Parts.{parts_of, operation_parts}
use Rattle.spec_core.proofs.Agreeing.{inv_agrees, pre_agrees}
use Rattle.effectors.specs.Effect.{after}
use Rattle.effectors.proofs.Reading.{initial_is_state}
use Rattle.token_rules.specs.Conflict.{conflicts}
use Rattle.obligation_list.specs.declared.obligation.Obligation.{Obligation}
use Rattle.obligation_list.specs.declared.obligation.Obligation.TheVariants.{Init, Safety, Commute, Stable}
use Rattle.obligation_list.specs.Obligations.{IsThing, IsObligation}
use Rattle.obligation_list.specs.Breaking.{operations_of, elements_of, requires_line, failing_vars, line_at, reads_same, bool_eq, IsCallOf, BreaksInit, Breaks}
use Rattle.ground_problem.specs.Symbols.{argument, Part, Symbolic, Interpretation, part_value, sum_value, is_true, all_true, same_const}
use Rattle.ground_problem.specs.Constants.{Constants, chosen_vars}
use Rattle.ground_problem.specs.Formulas.{caller, nobody, at_stage, at_start, const_of, part_of_body, part_of, parts_of as symbolic_parts, comparison, formula, instances}
use Rattle.ground_problem.specs.Entry.{invariants_hold, lines_hold, calls_ready, rule_unmatched, calls_free, entry, before_conclusion}
use Rattle.ground_problem.specs.Conclusion.{line_fails, differ, conclusion}
use Rattle.ground_problem.specs.Definitions.{definition, readings, readings_after}
use Rattle.ground_problem.specs.Problem.{formulas_of}
use Rattle.ground_problem.specs.Readback.{world_of, calls_of, elements_at, IsEntry, ReadFrom}
use Rattle.ground_problem.proofs.Means.{one_sort}
use Rattle.ground_problem.proofs.Free.{Side, rules_mean}
use Rattle.ground_problem.proofs.Agree.{after_everywhere, start_everywhere, start_agrees}
use Rattle.ground_problem.proofs.First.{call_at, state_at}
use Rattle.ground_problem.proofs.Groups.{values, shows_start, stands_nobody, stands, means}
use Rattle.ground_problem.proofs.Interpret.{invariant_typed, conflict_of, line_at_agrees, call_agrees}
use Rattle.ground_problem.proofs.Names.{Each, EachOf}
use Rattle.ground_problem.proofs.Closed.{names_of, of_left, of_right}
use Rattle.ground_problem.proofs.Worlds.{append_left, append_right}
use Rattle.ground_problem.proofs.Rows.{HaveSorts}
use Rattle.ground_problem.proofs.Sorted.{OwnSorted, AllSorted, chosen_sorted}
use Rattle.ground_problem.proofs.Placed.{nobody_sorted, caller_sorted}
use Rattle.ground_problem.proofs.Existing.{operation_typed}
use Rattle.ground_problem.proofs.Ruled.{Speaker, rules_agree}
use Rattle.ground_problem.proofs.Given as given
use Rattle.ground_problem.proofs.Carried.{o, pair, NamedAll, NamedTwo, NamedOne, entry_agrees, one_call, two_calls}
use Rattle.ground_problem.proofs.Range.{read_from, start_read_from}
use Rattle.ground_problem.proofs.Back.{have_length, fails_back, forall_back, lines_back, same_truth}

-- two interpretations that give two sums the same values agree on comparing them
comparison_agrees : (m o : Interpretation) (c : Cmp) (t u : List Part) → sum_value m t ≡ sum_value o t → sum_value m u ≡ sum_value o u → is_true m (comparison c t u) ≡ is_true o (comparison c t u)
comparison_agrees m o Less t u p q = cc
comparison_agrees m o AtMost t u p q = cc
comparison_agrees m o Equal t u p q = cc
comparison_agrees m o Unequal t u p q = cc
comparison_agrees m o AtLeast t u p q = cc
comparison_agrees m o Greater t u p q = cc

module _ (d : Specification) (ob : Obligation) (m : Interpretation) (h : all_true m (formulas_of d ob) ≡ true) (t : is_specification d ≡ true) (io : IsObligation d ob) where
  abbrev z : Constants
  z = given.z d ob m h t io

  abbrev w : World
  w = given.w d ob m h t io

  abbrev r : Reads
  r = given.r d ob m h t io

  abbrev cs : List Call
  cs = given.cs d ob m h t io

  abbrev es : List ℕ
  es = given.es d ob m h t io

  abbrev val : ℕ → ℕ
  val = given.val d ob m h t io

  abbrev op_n : ℕ → Operation
  op_n n = op_of d (slice_index (operations_of ob) n)

  -- ---- the parts of the list's front
  abbrev ready : List Symbolic
  ready = calls_ready d z 0 (operations_of ob) z.chosen

  abbrev free : List Symbolic
  free = calls_free d z (operations_of ob)

  before_holds : all_true m (before_conclusion d ob z) ≡ true
  before_holds = append_left m (before_conclusion d ob z) (conclusion d ob z) (given.one_holds d ob m h t io)

  pub entry_holds : all_true m (entry d ob z) ≡ true
  entry_holds = append_left m (entry d ob z) (ready ++ free) before_holds

  ready_holds : all_true m ready ≡ true
  ready_holds = append_left m ready free (append_right m (entry d ob z) (ready ++ free) before_holds)

  pub free_holds : all_true m free ≡ true
  free_holds = append_right m ready free (append_right m (entry d ob z) (ready ++ free) before_holds)

  pub conclusion_holds : all_true m (conclusion d ob z) ≡ true
  conclusion_holds = append_right m (before_conclusion d ob z) (conclusion d ob z) (given.one_holds d ob m h t io)

  two_named : EachOf (NamedAll d ob m h t io) (given.two d ob m h t io)
  two_named = of_left (NamedAll d ob m h t io) (given.two d ob m h t io) (flat_map (definition d ob z) (readings_after 1 (given.two d ob m h t io))) (names_of (given.all d ob m h t io))

  before_named : EachOf (NamedAll d ob m h t io) (before_conclusion d ob z)
  before_named = of_left (NamedAll d ob m h t io) (before_conclusion d ob z) (conclusion d ob z) (of_left (NamedAll d ob m h t io) (given.one d ob m h t io) (flat_map (definition d ob z) (readings_after 2 (given.one d ob m h t io))) two_named)

  pub entry_named : EachOf (NamedAll d ob m h t io) (entry d ob z)
  entry_named = of_left (NamedAll d ob m h t io) (entry d ob z) (ready ++ free) before_named

  ready_named : EachOf (NamedAll d ob m h t io) ready
  ready_named = of_left (NamedAll d ob m h t io) ready free (of_right (NamedAll d ob m h t io) (entry d ob z) (ready ++ free) before_named)

  pub conclusion_named : EachOf (NamedTwo d ob m h t io) (conclusion d ob z)
  conclusion_named = of_right (NamedTwo d ob m h t io) (before_conclusion d ob z) (conclusion d ob z) (of_left (NamedTwo d ob m h t io) (given.one d ob m h t io) (flat_map (definition d ob z) (readings_after 2 (given.one d ob m h t io))) (names_of (given.two d ob m h t io)))

  pub conclusion_named_first : EachOf (NamedOne d ob m h t io) (conclusion d ob z)
  conclusion_named_first = of_right (NamedOne d ob m h t io) (before_conclusion d ob z) (conclusion d ob z) (names_of (given.one d ob m h t io))

  -- ---- 1
  no_integers : (p : ℕ) → is_number (slice_get [] p) ≡ true → m.int (argument 0 p) ≡ (o d ob m h t io).int (argument 0 p)
  no_integers p k = absurd cc

  invariants_back : (is : List Invariant) → list_all (is_invariant d) is ≡ true → EachOf (NamedAll d ob m h t io) (flat_map (λ i. instances z (at_stage []) nobody i.line.vars i.line.body) is) → all_true m (flat_map (λ i. instances z (at_stage []) nobody i.line.vars i.line.body) is) ≡ true
      → lines_true w r [] (map (λ i. i.line) is) ≡ true
  invariants_back [] lt nf hl = refl
  invariants_back (i ∷ is) lt nf hl =
      let lt2 = and_parts (is_invariant d i) (list_all (is_invariant d) is) lt in
      let lt3 = and_parts (not (is_exists i.line.prefix)) (is_line d [] i.line) lt2.0 in
      let here = instances z (at_stage []) nobody i.line.vars i.line.body in
      let more = flat_map (λ i. instances z (at_stage []) nobody i.line.vars i.line.body) is in
      and_from (line_true w r [] i.line) (lines_true w r [] (map (λ i. i.line) is))
      (forall_back d ob m h t io [] nobody [] (at_stage []) r (NamedAll d ob m h t io) (same_truth d ob m h t io [] nobody [] (stands_nobody d ob w r cs val (given.setting d ob m h t io)) no_integers (nobody_sorted d ob) [] (NamedAll d ob m h t io) (entry_agrees d ob m h t io))
      i.line (not-true (is_exists i.line.prefix) lt3.0) lt3.1 (of_left (NamedAll d ob m h t io) here more nf) (append_left m here more hl))
      (invariants_back is lt2.1 (of_right (NamedAll d ob m h t io) here more nf) (append_right m here more hl))

  pub invariant_back : (s : Reads) → AgreeOn d w s r → EachOf (NamedAll d ob m h t io) (invariants_hold d z) → all_true m (invariants_hold d z) ≡ true → inv d w s ≡ true
  invariant_back s agree nf hl = inv_agrees d w s r t (given.world d ob m h t io) agree ∙ invariants_back d.invariants (parts_of d t).invariants nf hl

  -- ---- 2
  calls_back : (n : ℕ) (os : List ℕ) (owns : List (List (List ℕ))) → ((j : ℕ) → slice_index (operations_of ob) (n + j) ≡ slice_index os j) → n + length os ≡ length (operations_of ob) → AllSorted z.sorts (map (λ o. map chosen_vars (op_of d o).requires_) os) owns
      → EachOf (NamedAll d ob m h t io) (calls_ready d z n os owns) → all_true m (calls_ready d z n os owns) ≡ true → (j : ℕ) → j < length os → lines_true w r (call_at cs (n + j)).args (op_n (n + j)).requires_ ≡ true
  calls_back n [] owns e l so nf hl j k = absurd (omega arith)
  calls_back n (o ∷ os) [] e l so nf hl j k = absurd so
  calls_back n (p ∷ os) (own ∷ owns) e l so nf hl zero k =
      let lt : n < length (operations_of ob) = omega arith in
      let here : n + 0 ≡ n = omega arith in
      let same_op : slice_index (operations_of ob) n ≡ p = ap (slice_index (operations_of ob)) (sym here) ∙ e 0 in
      let one = lines_hold z (caller z n) (op_of d p).requires_ own in
      let more = calls_ready d z (suc n) os owns in
      subst (λ (x : ℕ). lines_true w r (call_at cs x).args (op_n x).requires_ ≡ true) (sym here)
      (lines_back d ob m h t io (op_n n).params (caller z n) (call_at cs n).args (at_stage []) r (NamedAll d ob m h t io)
      (same_truth d ob m h t io (op_n n).params (caller z n) (call_at cs n).args (stands d ob w r cs val (given.setting d ob m h t io) n lt) (given.integers d ob m h t io n lt) (caller_sorted d ob n lt) [] (NamedAll d ob m h t io) (entry_agrees d ob m h t io))
      refl (op_n n).requires_ own (operation_parts d (op_n n) (operation_typed d ob t io n lt)).requires_
      (subst (λ (y : ℕ). OwnSorted z.sorts (map chosen_vars (op_of d y).requires_) own) (sym same_op) so.0)
      (subst (λ (y : ℕ). EachOf (NamedAll d ob m h t io) (lines_hold z (caller z n) (op_of d y).requires_ own)) (sym same_op) (of_left (NamedAll d ob m h t io) one more nf))
      (subst (λ (y : ℕ). all_true m (lines_hold z (caller z n) (op_of d y).requires_ own) ≡ true) (sym same_op) (append_left m one more hl)))
  calls_back n (p ∷ os) (own ∷ owns) e l so nf hl (suc j) k =
      let one = lines_hold z (caller z n) (op_of d p).requires_ own in
      let more = calls_ready d z (suc n) os owns in
      let shift : suc n + j ≡ n + suc j = omega arith in
      subst (λ (x : ℕ). lines_true w r (call_at cs x).args (op_n x).requires_ ≡ true) shift
      (calls_back (suc n) os owns (λ i. (let s : suc n + i ≡ n + suc i = omega arith in ap (slice_index (operations_of ob)) s ∙ e (suc i))) (omega arith) so.1 (of_right (NamedAll d ob m h t io) one more nf) (append_right m one more hl) j (omega arith))

  call_ready : (n : ℕ) → n < length (operations_of ob) → lines_true w r (call_at cs n).args (op_n n).requires_ ≡ true
  call_ready n lt = (let e : 0 + n ≡ n = omega arith in subst (λ (x : ℕ). lines_true w r (call_at cs x).args (op_n x).requires_ ≡ true) e
      (calls_back 0 (operations_of ob) z.chosen (λ j. (let e : 0 + j ≡ j = omega arith in ap (slice_index (operations_of ob)) e)) (omega arith) (chosen_sorted d ob) ready_named ready_holds n lt))

  abbrev pub call_n : ℕ → Call
  call_n n = given.call_of d ob m h t io n (slice_index (operations_of ob) n)

  pub is_call_n : (n : ℕ) → n < length (operations_of ob) → IsCallOf d w (slice_index (operations_of ob) n) (call_n n)
  is_call_n n lt = record { operation = refl; fits = given.call_fits_here d ob m h t io n lt }

  pub pre_back : (s : Reads) → AgreeOn d w s r → (n : ℕ) → n < length (operations_of ob) → pre d w (call_n n) s ≡ true
  pre_back s agree n lt = pre_agrees d w s r t (given.world d ob m h t io) agree (call_n n) (given.call_fits_here d ob m h t io n lt)
      ∙ subst (λ (c : Call). lines_true w r c.args (op_n n).requires_ ≡ true) (given.call_here d ob m h t io n lt) (call_ready n lt)

  -- ---- 3
  pub apart_back : (zeroth : 0 < length (operations_of ob)) (first : 1 < length (operations_of ob)) → all_true m (flat_map (rule_unmatched (caller z 0) (op_n 0).takes (caller z 1) (op_n 1).takes) d.rules) ≡ true → conflicts d w (call_n 0) (call_n 1) ≡ false
  apart_back zeroth first hl =
      let set = given.setting d ob m h t io in
      let left : Side d (o d ob m h t io) val = record { caller = caller z 0; params = (op_n 0).params; args = (call_at cs 0).args; stands = stands d ob w r cs val set 0 zeroth } in
      let right : Side d (o d ob m h t io) val = record { caller = caller z 1; params = (op_n 1).params; args = (call_at cs 1).args; stands = stands d ob w r cs val set 1 first } in
      let one : Speaker d z.sorts = record { caller = caller z 0; params = (op_n 0).params; sorted = λ s e k. caller_sorted d ob 0 zeroth [] [] tt s e k } in
      let other : Speaker d z.sorts = record { caller = caller z 1; params = (op_n 1).params; sorted = λ s e k. caller_sorted d ob 1 first [] [] tt s e k } in
      let rules = (parts_of d t).rules in
      let takes = (operation_parts d (op_n 0) (operation_typed d ob t io 0 zeroth)).takes in
      let more = (operation_parts d (op_n 1) (operation_typed d ob t io 1 first)).takes in
      let mean = rules_mean d (o d ob m h t io) val w (values d ob w r cs val set) left right d.rules (op_n 0).takes (op_n 1).takes rules takes more in
      let same = rules_agree d z.sorts m (o d ob m h t io) (pair d ob m h t io) one other d.rules (op_n 0).takes (op_n 1).takes rules takes more in
      subst (λ (a : Call). conflict_of d w (slice_index (operations_of ob) 0) a.args (slice_index (operations_of ob) 1) (call_n 1).args ≡ false) (given.call_here d ob m h t io 0 zeroth)
      (subst (λ (b : Call). conflict_of d w (slice_index (operations_of ob) 0) (call_at cs 0).args (slice_index (operations_of ob) 1) b.args ≡ false) (given.call_here d ob m h t io 1 first)
      (not-true (conflict_of d w (slice_index (operations_of ob) 0) (call_at cs 0).args (slice_index (operations_of ob) 1) (call_at cs 1).args) (sym mean ∙ sym same ∙ hl)))

  -- ---- 4
  pub invariant_fails : (n i : ℕ) → elements_of d ob ≡ failing_vars (invariant_line d i) → EachOf (NamedTwo d ob m h t io) (line_fails z (at_stage (n ∷ [])) nobody (invariant_line d i)) → all_true m (line_fails z (at_stage (n ∷ [])) nobody (invariant_line d i)) ≡ true
      → line_at w (state_at d w cs r (n ∷ [])) [] (invariant_line d i) es ≡ false
  invariant_fails n i e nf hl = fails_back d ob m h t io [] nobody [] (at_stage (n ∷ [])) (state_at d w cs r (n ∷ [])) (NamedTwo d ob m h t io)
      (same_truth d ob m h t io [] nobody [] (stands_nobody d ob w r cs val (given.setting d ob m h t io)) no_integers (nobody_sorted d ob) (n ∷ []) (NamedTwo d ob m h t io) (one_call d ob m h t io n))
      (invariant_line d i) e (invariant_typed d t i) nf hl

  pub requires_fails : (n k : ℕ) → n < length (operations_of ob) → (l : Line) → is_line d (op_n n).params l ≡ true → elements_of d ob ≡ failing_vars l → EachOf (NamedTwo d ob m h t io) (line_fails z (at_stage (k ∷ [])) (caller z n) l) → all_true m (line_fails z (at_stage (k ∷ [])) (caller z n) l) ≡ true
      → line_at w (state_at d w cs r (k ∷ [])) (call_at cs n).args l es ≡ false
  requires_fails n k lt l typed e nf hl = fails_back d ob m h t io (op_n n).params (caller z n) (call_at cs n).args (at_stage (k ∷ [])) (state_at d w cs r (k ∷ [])) (NamedTwo d ob m h t io)
      (same_truth d ob m h t io (op_n n).params (caller z n) (call_at cs n).args (stands d ob w r cs val (given.setting d ob m h t io) n lt) (given.integers d ob m h t io n lt) (caller_sorted d ob n lt) (k ∷ []) (NamedTwo d ob m h t io) (one_call d ob m h t io k))
      l e typed nf hl

  pub differ_back : (x : Thing) (a b e f : ℕ) → Each (NamedOne d ob m h t io) (readings (differ x (a ∷ b ∷ []) (e ∷ f ∷ []) z.elements)) → all_true m (differ x (a ∷ b ∷ []) (e ∷ f ∷ []) z.elements ∷ []) ≡ true → reads_same x es (state_at d w cs r (a ∷ b ∷ [])) (state_at d w cs r (e ∷ f ∷ [])) ≡ false
  differ_back (thing.Relation i) a b e f nf hl = by_tests _ _ _ _ (two_calls d ob m h t io a b (thing.Relation i) z.elements nf.0) (two_calls d ob m h t io e f (thing.Relation i) z.elements nf.1.0) hl
    where
      by_tests : (x y u v : Bool) → x ≡ u → y ≡ v → (((x && not y) || (not x && y)) && true) ≡ true → bool_eq u v ≡ false
      by_tests x y true true p q h = absurd (grind arith)
      by_tests x y true false p q h = refl
      by_tests x y false true p q h = refl
      by_tests x y false false p q h = absurd (grind arith)
  differ_back (thing.Counter i) a b e f nf hl = by_numbers _ _ _ _ (two_calls d ob m h t io a b (thing.Counter i) z.elements nf.0) (two_calls d ob m h t io e f (thing.Counter i) z.elements nf.1.0) hl
    where
      by_numbers : (x y u v : ℤ) → x ≡ u → y ≡ v → ((int_le (pos 1 *ℤ x +ℤ pos 0) ((pos 1 *ℤ y +ℤ pos 0) +ℤ negsuc 0) || int_le (pos 1 *ℤ y +ℤ pos 0) ((pos 1 *ℤ x +ℤ pos 0) +ℤ negsuc 0)) && true) ≡ true → int_eq u v ≡ false
      by_numbers x y u v p q h = grind (arith, ints)

  -- ---- in the initial state
  start_body : (vs vars : List ℕ) (n : ℤ) (b : Body) → body_typed d [] vars b ≡ true → part_value m (part_of_body (at_start d) nobody vs n b) ≡ part_value (o d ob m h t io) (part_of_body (at_start d) nobody vs n b)
  start_body vs vars n body.One k = refl
  start_body vs vars n (body.Param p) k = absurd cc
  start_body vs vars n (body.Count i ls) k = refl

  start_sum : (vs vars : List ℕ) (ss : List Summand) → list_all (summand_typed d [] vars) ss ≡ true → sum_value m (map (part_of (at_start d) nobody vs) ss) ≡ sum_value (o d ob m h t io) (map (part_of (at_start d) nobody vs) ss)
  start_sum vs vars [] k = refl
  start_sum vs vars (s ∷ ss) k =
      let k2 = and_parts (summand_typed d [] vars s) (list_all (summand_typed d [] vars) ss) k in
      let p = start_body vs vars s.coef s.body (and_parts _ (body_typed d [] vars s.body) k2.0).1 in
      let q = start_sum vs vars ss k2.1 in
      λ i. p i +ℤ q i

  start_same : (vars vs : List ℕ) → HaveSorts z.sorts vars vs → (a b : Elem) → same_sort (sort_of d [] vars a) (sort_of d [] vars b) ≡ true → is_true m (same_const (const_of nobody vs a) (const_of nobody vs b)) ≡ is_true (o d ob m h t io) (same_const (const_of nobody vs a) (const_of nobody vs b))
  start_same vars vs so a b k = (let s = one_sort (sort_of d [] vars a) (sort_of d [] vars b) k in pair d ob m h t io (const_of nobody vs a) (const_of nobody vs b) s.0 (nobody_sorted d ob vars vs so s.0 a s.1) (nobody_sorted d ob vars vs so s.0 b s.2))

  start_form : (vars vs : List ℕ) → HaveSorts z.sorts vars vs → (f : Form) → form_typed d [] vars f ≡ true → is_true m (formula (at_start d) nobody vs f) ≡ is_true (o d ob m h t io) (formula (at_start d) nobody vs f)
  start_form vars vs so true_form k = refl
  start_form vars vs so false_form k = refl
  start_form vars vs so (not_form f) k = ap not (start_form vars vs so f k)
  start_form vars vs so (and_form f g) k = (let k2 = and_parts (form_typed d [] vars f) (form_typed d [] vars g) k in let p = start_form vars vs so f k2.0 in let q = start_form vars vs so g k2.1 in λ i. p i && q i)
  start_form vars vs so (or_form f g) k = (let k2 = and_parts (form_typed d [] vars f) (form_typed d [] vars g) k in let p = start_form vars vs so f k2.0 in let q = start_form vars vs so g k2.1 in λ i. p i || q i)
  start_form vars vs so (implies_form f g) k = (let k2 = and_parts (form_typed d [] vars f) (form_typed d [] vars g) k in let p = start_form vars vs so f k2.0 in let q = start_form vars vs so g k2.1 in λ i. not (p i) || q i)
  start_form vars vs so (has_form i ls) k = refl
  start_form vars vs so (same_form a b) k = start_same vars vs so a b k
  start_form vars vs so (differ_form a b) k = ap not (start_same vars vs so a b k)
  start_form vars vs so (compare_form a c b) k =
      let k2 = and_parts (term_typed d [] vars a) (term_typed d [] vars b) k in
      comparison_agrees m (o d ob m h t io) c (symbolic_parts (at_start d) nobody vs a) (symbolic_parts (at_start d) nobody vs b) (start_sum vs vars a.summands (and_parts _ _ k2.0).1) (start_sum vs vars b.summands (and_parts _ _ k2.1).1)

  pub start_fails : (i : ℕ) → elements_of d ob ≡ failing_vars (invariant_line d i) → EachOf (NamedTwo d ob m h t io) (line_fails z (at_start d) nobody (invariant_line d i)) → all_true m (line_fails z (at_start d) nobody (invariant_line d i)) ≡ true
      → line_at w (start_everywhere d) [] (invariant_line d i) es ≡ false
  start_fails i e nf hl = fails_back d ob m h t io [] nobody [] (at_start d) (start_everywhere d) (NamedTwo d ob m h t io)
      (λ vars vs so f ft nf. start_form vars vs so f ft ∙ means d ob w r cs val (given.setting d ob m h t io) [] nobody [] (stands_nobody d ob w r cs val (given.setting d ob m h t io)) (at_start d) (start_everywhere d) (shows_start d ob w r cs val (given.setting d ob m h t io)) vars vs f (have_length z.sorts vars vs so) ft)
      (invariant_line d i) e (invariant_typed d t i) nf hl

-- things of the specification read differently also where the readings agree within the world alone
reads_same_back : (d : Specification) (w : World) (x : Thing) (es : List ℕ) → IsThing d x → fits_places w (places_of d x) es ≡ true → (a b r s : Reads) → AgreeOn d w a r → AgreeOn d w b s → reads_same x es r s ≡ false → reads_same x es a b ≡ false
reads_same_back d w (thing.Relation k) es l f a b r s p q h = (let u = p.has k es l f in let v = q.has k es l f in (λ i. bool_eq (u i) (v i)) ∙ h)
reads_same_back d w (thing.Counter k) es l f a b r s p q h = (let u = p.count k es l f in let v = q.count k es l f in (λ i. int_eq (u i) (v i)) ∙ h)

-- What an interpretation that makes the list true gives breaks the obligation, with any state that reads what it says of the entry.
pub entry_breaks : (d : Specification) (ob : Obligation) (m : Interpretation) (s : Listing) → is_specification d ≡ true → IsObligation d ob → all_true m (formulas_of d ob) ≡ true → is_state d (world_of d ob m) s ≡ true → IsEntry d ob m s
    → Breaks d ob (world_of d ob m) s (calls_of d ob m) (elements_at d ob m)
entry_breaks d (Init i) m s t io h fits entry =
    let w = given.w d (Init i) m h t io in
    let es = given.es d (Init i) m h t io in
    let fit = given.elements_fit_here d (Init i) m h t io in
    let fails = start_fails d (Init i) m h t io i refl (conclusion_named d (Init i) m h t io) (conclusion_holds d (Init i) m h t io) in
    record {
      world = given.world d (Init i) m h t io;
      state = fits;
      elements = fit;
      broken = subst (λ (r : Reads). BreaksInit d i w r es) (sym entry) (record { start = refl; fails = line_at_agrees d w (given.world d (Init i) m h t io) [] [] refl (reads (initial d w)) (start_everywhere d) (start_agrees d w) (invariant_line d i) (invariant_typed d t i) es fit ∙ fails });
    }
entry_breaks d (Safety n i) m s t io h fits entry =
    let ob = Safety n i in
    let w = given.w d ob m h t io in
    let r = given.r d ob m h t io in
    let es = given.es d ob m h t io in
    let fit = given.elements_fit_here d ob m h t io in
    let zeroth : 0 < length (operations_of ob) = omega arith in
    let a = call_n d ob m h t io 0 in
    let is_a = is_call_n d ob m h t io 0 zeroth in
    let fails = invariant_fails d ob m h t io 0 i refl (conclusion_named d ob m h t io) (conclusion_holds d ob m h t io) in
    let agree = call_agrees d w t (given.world d ob m h t io) n a is_a (reads s) r entry in
    record {
      world = given.world d ob m h t io;
      state = fits;
      elements = fit;
      broken = record {
        call = is_a;
        invariant = invariant_back d ob m h t io (reads s) entry (entry_named d ob m h t io) (entry_holds d ob m h t io);
        ready = pre_back d ob m h t io (reads s) entry 0 zeroth;
        fails = line_at_agrees d w (given.world d ob m h t io) [] [] refl (after d w a (reads s)) (after_everywhere d w a r) agree (invariant_line d i) (invariant_typed d t i) es fit ∙ fails;
      };
    }
entry_breaks d (Commute n p x) m s t io h fits entry =
    let ob = Commute n p x in
    let w = given.w d ob m h t io in
    let r = given.r d ob m h t io in
    let es = given.es d ob m h t io in
    let world = given.world d ob m h t io in
    let fit = given.elements_fit_here d ob m h t io in
    let zeroth : 0 < length (operations_of ob) = omega arith in
    let first : 1 < length (operations_of ob) = omega arith in
    let a = call_n d ob m h t io 0 in
    let b = call_n d ob m h t io 1 in
    let is_a = is_call_n d ob m h t io 0 zeroth in
    let is_b = is_call_n d ob m h t io 1 first in
    let agree = entry in
    let after_a = call_agrees d w t world n a is_a (reads s) r agree in
    let after_b = call_agrees d w t world p b is_b (reads s) r agree in
    let one = call_agrees d w t world p b is_b (after d w a (reads s)) (after_everywhere d w a r) after_a in
    let other = call_agrees d w t world n a is_a (after d w b (reads s)) (after_everywhere d w b r) after_b in
    let fails = differ_back d ob m h t io x 1 0 0 1 (conclusion_named_first d ob m h t io).0 (conclusion_holds d ob m h t io) in
    record {
      world = world;
      state = fits;
      elements = fit;
      broken = record {
        first = is_a;
        second = is_b;
        together = record {
          invariant = invariant_back d ob m h t io (reads s) entry (entry_named d ob m h t io) (entry_holds d ob m h t io);
          first = pre_back d ob m h t io (reads s) entry 0 zeroth;
          second = pre_back d ob m h t io (reads s) entry 1 first;
          apart = apart_back d ob m h t io zeroth first (free_holds d ob m h t io);
        };
        fails = reads_same_back d w x es io.2 fit (after d w b (after d w a (reads s))) (after d w a (after d w b (reads s))) (after_everywhere d w b (after_everywhere d w a r)) (after_everywhere d w a (after_everywhere d w b r)) one other fails;
      };
    }
entry_breaks d (Stable n l p) m s t io h fits entry =
    let ob = Stable n l p in
    let w = given.w d ob m h t io in
    let r = given.r d ob m h t io in
    let es = given.es d ob m h t io in
    let world = given.world d ob m h t io in
    let fit = given.elements_fit_here d ob m h t io in
    let zeroth : 0 < length (operations_of ob) = omega arith in
    let first : 1 < length (operations_of ob) = omega arith in
    let a = call_n d ob m h t io 0 in
    let b = call_n d ob m h t io 1 in
    let is_a = is_call_n d ob m h t io 0 zeroth in
    let is_b = is_call_n d ob m h t io 1 first in
    let typed : is_line d (op_of d n).params (requires_line d n l) ≡ true = list_all-get_or (is_line d (op_of d n).params) (op_of d n).requires_ (operation_parts d (op_of d n) (operation_typed d ob t io 0 zeroth)).requires_ l no_line refl in
    let agree = call_agrees d w t world p b is_b (reads s) r entry in
    let fails = requires_fails d ob m h t io 0 1 zeroth (requires_line d n l) typed refl (conclusion_named d ob m h t io) (conclusion_holds d ob m h t io) in
    record {
      world = world;
      state = fits;
      elements = fit;
      broken = record {
        first = is_a;
        second = is_b;
        together = record {
          invariant = invariant_back d ob m h t io (reads s) entry (entry_named d ob m h t io) (entry_holds d ob m h t io);
          first = pre_back d ob m h t io (reads s) entry 0 zeroth;
          second = pre_back d ob m h t io (reads s) entry 1 first;
          apart = apart_back d ob m h t io zeroth first (free_holds d ob m h t io);
        };
        fails = line_at_agrees d w world (op_of d n).params a.args (and_parts (nat_lt n (length d.operations)) _ is_a.fits).1 (after d w b (reads s)) (after_everywhere d w b r) agree (requires_line d n l) typed es fit ∙ fails;
      };
    }

-- what breaks an obligation, read from an interpretation
abbrev pub BrokenBy : Specification → Obligation → Interpretation → Type 0
BrokenBy d ob m = (w : World) × (s : Listing) × (cs : List Call) × (es : List ℕ) × Breaks d ob w s cs es × ReadFrom d ob m w s cs

pub second_direction : (d : Specification) (ob : Obligation) (m : Interpretation) → is_specification d ≡ true → IsObligation d ob → all_true m (formulas_of d ob) ≡ true → BrokenBy d ob m
second_direction d (Init i) m t io h =
    let ob = Init i in
    let s = initial d (world_of d ob m) in
    (world_of d ob m, s, calls_of d ob m, elements_at d ob m, entry_breaks d ob m s t io h (initial_is_state d (world_of d ob m)) refl, start_read_from d ob m h t io)
second_direction d (Safety n i) m t io h =
    let ob = Safety n i in
    let s = given.listing d ob m h t io in
    (world_of d ob m, s, calls_of d ob m, elements_at d ob m, entry_breaks d ob m s t io h (given.state d ob m h t io) (given.state_reads d ob m h t io), read_from d ob m h t io)
second_direction d (Commute n p x) m t io h =
    let ob = Commute n p x in
    let s = given.listing d ob m h t io in
    (world_of d ob m, s, calls_of d ob m, elements_at d ob m, entry_breaks d ob m s t io h (given.state d ob m h t io) (given.state_reads d ob m h t io), read_from d ob m h t io)
second_direction d (Stable n l p) m t io h =
    let ob = Stable n l p in
    let s = given.listing d ob m h t io in
    (world_of d ob m, s, calls_of d ob m, elements_at d ob m, entry_breaks d ob m s t io h (given.state d ob m h t io) (given.state_reads d ob m h t io), read_from d ob m h t io)
