-- Values that break an obligation give an interpretation of its list.
use Rattle.std.proofs.Common.{◌≡◌, ℕ, zero, suc, ◌+◌, ◌<◌, ◌≤◌, nat_lt, ℤ, Bool, true, false, not, cond, ◌||◌, option_map, List, [], ◌∷◌, ◌++◌, map, length, slice_get, slice_index, flat_map, refl, sym, ◌∙◌, ap, subst, arith, append-nil}
use Rattle.std.specs.List.{filter, list_any}
use Rattle.std.proofs.lemmas.List.{get_or_append_left, length-map}
use Rattle.std.proofs.lemmas.List.FromFn.{length-range_with_len}
use Rattle.std.proofs.lemmas.Bool.{and_parts}
use Rattle.std.proofs.lemmas.Bool.Decides.{nat_tests}
use Rattle.spec_core.specs.declared.operation.Param.{Param as Parameter}
use Rattle.spec_core.specs.declared.spec.Const.{Const as Constant}
use Rattle.spec_core.specs.declared.update.Thing.{Thing}
use Rattle.spec_core.specs.declared.update.Thing.TheVariants as thing
use Rattle.spec_core.specs.declared.world.World.{World}
use Rattle.spec_core.specs.declared.world.Call.{Call}
use Rattle.spec_core.specs.Line.{Line}
use Rattle.spec_core.specs.Specification.{Specification, op_of, no_line, no_invariant, places_of}
use Rattle.spec_core.specs.State.{Listing, Reads, reads}
use Rattle.spec_core.specs.Truth.{int_eq, truth, is_exists, line_true}
use Rattle.spec_core.specs.Meaning.{invariant_line, initial}
use Rattle.spec_core.specs.Fits.{fits_places, is_world, are_arguments, AgreeOn}
use Rattle.spec_core.specs.Typed.{is_sort, is_line, is_invariant, is_specification}
use Rattle.spec_core.proofs.Lists.{list_all-get_or}
use Rattle.spec_core.proofs.Parts.{parts_of, operation_parts}
use Rattle.spec_core.proofs.Fitting.{formula_fits, line_fits_typed}
use Rattle.spec_core.proofs.Operations.{call_parts}
use Rattle.spec_core.proofs.Agreeing.{truth_agrees, line_agrees}
use Rattle.effectors.specs.Effect.{is_thing, after}
use Rattle.effectors.proofs.Reading.{has_undeclared, count_undeclared}
use Rattle.token_rules.specs.Conflict.{lines_match, conflicts}
use Rattle.obligation_list.specs.declared.obligation.Obligation.{Obligation}
use Rattle.obligation_list.specs.declared.obligation.Obligation.TheVariants.{Init, Safety, Commute, Stable}
use Rattle.obligation_list.specs.Obligations.{things}
use Rattle.obligation_list.specs.Breaking.{operations_of, elements_of, requires_line, failing_vars, line_at, reads_same, bool_eq, IsCallOf, BreaksIn, Breaks}
use Rattle.ground_problem.specs.Symbols.{Stage, Symbolic, Interpretation, all_true}
use Rattle.ground_problem.specs.Constants.{constants_of, chosen_of, concatenated}
use Rattle.ground_problem.specs.Formulas.{caller, nobody, at_stage, at_start}
use Rattle.ground_problem.specs.Entry.{calls_ready, rule_unmatched, calls_free, entry, before_conclusion}
use Rattle.ground_problem.specs.Conclusion.{line_fails, conclusion}
use Rattle.ground_problem.specs.Definitions.{Reading, define, definition, readings_after, with_definitions}
use Rattle.ground_problem.specs.Equality.{equality, rising, congruent_pairs, congruence}
use Rattle.ground_problem.specs.Problem.{stated, formulas_of}
use Rattle.ground_problem.proofs.Choices.{InSorts, InAll, fits_from, in_sorts_append, in_sorts_length, in_all_concatenated}
use Rattle.ground_problem.proofs.Seats.{Tail, tail_whole, tail_past, tail_at, range_reads, all_chosen_reads}
use Rattle.ground_problem.proofs.Free.{Side, rules_mean}
use Rattle.ground_problem.proofs.Agree.{agree_same, after_everywhere, start_everywhere, after_agrees, start_agrees}
use Rattle.ground_problem.proofs.First.{call_at, state_at, interpret, Setting, ReadyCalls, ready_calls, ready_at, typed_call, elements_of_calls, sorts_of_calls, elements_of_calls_fit, calls_read, CallsHold, choose_calls}
use Rattle.ground_problem.proofs.Groups.{line_typed, all_append, all_each, values, shows, shows_start, stands_nobody, stands, line_fails_true, invariants_true, calls_ready_true, define_has_true, define_count_true, equality_true, congruent_pairs_true, differ_true}
use Rattle.ground_problem.proofs.Names.{Each, EachOf, StageIn, after_names, stated_names, with_names}

-- ---- the definitions, and the list once its first four groups are true

module _ (d : Specification) (ob : Obligation) (w : World) (r : Reads) (cs : List Call) (val : ℕ → ℕ) (st : Setting d ob w cs val) where
  pub definition_true : (k : Stage) (x : Thing) (t : List ℕ) → StageIn ob (record { stage = k; thing = x; tuple = t }) → all_true (interpret d w cs r val) (define d ob (constants_of d ob) k x t) ≡ true
  definition_true [] x t h = refl
  definition_true (n ∷ k) (thing.Relation i) t h = define_has_true d ob w r cs val st n k i t h.0
  definition_true (n ∷ k) (thing.Counter i) t h = define_count_true d ob w r cs val st n k i t h.0

  all_definitions_true : (qs : List Reading) → Each (StageIn ob) qs → all_true (interpret d w cs r val) (flat_map (definition d ob (constants_of d ob)) qs) ≡ true
  all_definitions_true [] h = refl
  all_definitions_true (q ∷ qs) h = all_append (interpret d w cs r val) (definition d ob (constants_of d ob) q) (flat_map (definition d ob (constants_of d ob)) qs) (definition_true q.stage q.thing q.tuple h.0) (all_definitions_true qs h.1)

  with_true : (n : ℕ) (list : List Symbolic) → EachOf (StageIn ob) list → all_true (interpret d w cs r val) list ≡ true → all_true (interpret d w cs r val) (with_definitions d ob (constants_of d ob) n list) ≡ true
  with_true n list p h = all_append (interpret d w cs r val) list (flat_map (definition d ob (constants_of d ob)) (readings_after n list)) h (all_definitions_true (readings_after n list) (after_names (StageIn ob) n list p))

  pub list_true : all_true (interpret d w cs r val) (stated d ob (constants_of d ob)) ≡ true → all_true (interpret d w cs r val) (formulas_of d ob) ≡ true
  list_true h =
      let m = interpret d w cs r val in
      let z = constants_of d ob in
      let two = with_definitions d ob z 2 (stated d ob z) in
      let list = with_definitions d ob z 1 two in
      let named = readings_after 0 list in
      all_append m list (equality 0 z.sorts ++ congruence named (things d))
      (with_true 1 two (with_names d ob 2 (stated d ob z) (stated_names d ob)) (with_true 2 (stated d ob z) (stated_names d ob) h))
      (all_append m (equality 0 z.sorts) (congruence named (things d)) (equality_true d ob w r cs val st 0 z.sorts)
      (all_each m (λ x. congruent_pairs x (rising (filter (λ q. is_thing q.thing x) named))) (things d) (λ x. congruent_pairs_true d ob w r cs val st x (rising (filter (λ q. is_thing q.thing x) named)))))

-- ---- 1

invariant_true : (d : Specification) (ob : Obligation) (w : World) (r : Reads) (cs : List Call) (es : List ℕ) (val : ℕ → ℕ) (st : Setting d ob w cs val) → BreaksIn d ob w r cs es → all_true (interpret d w cs r val) (entry d ob (constants_of d ob)) ≡ true
invariant_true d (Init i) w r cs es val st b = refl
invariant_true d (Safety o i) w r [] es val st b = absurd b
invariant_true d (Safety o i) w r (a ∷ []) es val st b = invariants_true d (Safety o i) w r (a ∷ []) val st d.invariants (parts_of d st.typed).invariants b.invariant
invariant_true d (Safety o i) w r (a ∷ c ∷ cs) es val st b = absurd b
invariant_true d (Commute o p x) w r [] es val st b = absurd b
invariant_true d (Commute o p x) w r (a ∷ []) es val st b = absurd b
invariant_true d (Commute o p x) w r (a ∷ c ∷ []) es val st b = invariants_true d (Commute o p x) w r (a ∷ c ∷ []) val st d.invariants (parts_of d st.typed).invariants b.together.invariant
invariant_true d (Commute o p x) w r (a ∷ c ∷ e ∷ cs) es val st b = absurd b
invariant_true d (Stable o l p) w r [] es val st b = absurd b
invariant_true d (Stable o l p) w r (a ∷ []) es val st b = absurd b
invariant_true d (Stable o l p) w r (a ∷ c ∷ []) es val st b = invariants_true d (Stable o l p) w r (a ∷ c ∷ []) val st d.invariants (parts_of d st.typed).invariants b.together.invariant
invariant_true d (Stable o l p) w r (a ∷ c ∷ e ∷ cs) es val st b = absurd b

-- ---- 3

-- conflict of calls, where their operations are known
abbrev pub conflict_of : Specification → World → ℕ → List ℤ → ℕ → List ℤ → Bool
conflict_of d w o one p other =
    list_any (λ rule. list_any (λ t. list_any (λ u. lines_match w one other rule t u) (op_of d p).takes) (op_of d o).takes) d.rules
    || list_any (λ rule. list_any (λ u. list_any (λ t. lines_match w other one rule u t) (op_of d o).takes) (op_of d p).takes) d.rules

two_free : (d : Specification) (ob : Obligation) (w : World) (r : Reads) (a b : Call) (val : ℕ → ℕ) (st : Setting d ob w (a ∷ b ∷ []) val) (o p : ℕ) → operations_of ob ≡ o ∷ p ∷ [] → IsCallOf d w o a → IsCallOf d w p b → conflicts d w a b ≡ false
    → all_true (interpret d w (a ∷ b ∷ []) r val) (flat_map (rule_unmatched (caller (constants_of d ob) 0) (op_of d o).takes (caller (constants_of d ob) 1) (op_of d p).takes) d.rules) ≡ true
two_free d ob w r a b val st o p same ca cb h =
    let len : length (operations_of ob) ≡ 2 = ap length same in
    let zeroth : 0 < length (operations_of ob) = omega arith in
    let first : 1 < length (operations_of ob) = omega arith in
    let op0 : slice_index (operations_of ob) 0 ≡ o = ap (λ (x : List ℕ). slice_index x 0) same in
    let op1 : slice_index (operations_of ob) 1 ≡ p = ap (λ (x : List ℕ). slice_index x 1) same in
    let m = interpret d w (a ∷ b ∷ []) r val in
    let oa = slice_index (operations_of ob) 0 in
    let ob2 = slice_index (operations_of ob) 1 in
    let left : Side d m val = record { caller = caller (constants_of d ob) 0; params = (op_of d oa).params; args = a.args; stands = stands d ob w r (a ∷ b ∷ []) val st 0 zeroth } in
    let right : Side d m val = record { caller = caller (constants_of d ob) 1; params = (op_of d ob2).params; args = b.args; stands = stands d ob w r (a ∷ b ∷ []) val st 1 first } in
    let means = rules_mean d m val w (values d ob w r (a ∷ b ∷ []) val st) left right d.rules (op_of d oa).takes (op_of d ob2).takes (parts_of d st.typed).rules
    (operation_parts d (op_of d oa) (st.operation 0 zeroth)).takes (operation_parts d (op_of d ob2) (st.operation 1 first)).takes in
    let none : conflict_of d w oa a.args ob2 b.args ≡ false = ap (λ (x : ℕ). conflict_of d w x a.args ob2 b.args) (op0 ∙ sym ca.operation) ∙ ap (λ (x : ℕ). conflict_of d w a.op a.args x b.args) (op1 ∙ sym cb.operation) ∙ h in
    subst (λ (x : ℕ). all_true m (flat_map (rule_unmatched (caller (constants_of d ob) 0) (op_of d x).takes (caller (constants_of d ob) 1) (op_of d p).takes) d.rules) ≡ true) op0
    (subst (λ (x : ℕ). all_true m (flat_map (rule_unmatched (caller (constants_of d ob) 0) (op_of d oa).takes (caller (constants_of d ob) 1) (op_of d x).takes) d.rules) ≡ true) op1
    (means ∙ ap not none))

free_true : (d : Specification) (ob : Obligation) (w : World) (r : Reads) (cs : List Call) (es : List ℕ) (val : ℕ → ℕ) (st : Setting d ob w cs val) → BreaksIn d ob w r cs es → all_true (interpret d w cs r val) (calls_free d (constants_of d ob) (operations_of ob)) ≡ true
free_true d (Init i) w r cs es val st b = refl
free_true d (Safety o i) w r cs es val st b = refl
free_true d (Commute o p x) w r [] es val st b = absurd b
free_true d (Commute o p x) w r (a ∷ []) es val st b = absurd b
free_true d (Commute o p x) w r (a ∷ c ∷ []) es val st b = two_free d (Commute o p x) w r a c val st o p refl b.first b.second b.together.apart
free_true d (Commute o p x) w r (a ∷ c ∷ e ∷ cs) es val st b = absurd b
free_true d (Stable o l p) w r [] es val st b = absurd b
free_true d (Stable o l p) w r (a ∷ []) es val st b = absurd b
free_true d (Stable o l p) w r (a ∷ c ∷ []) es val st b = two_free d (Stable o l p) w r a c val st o p refl b.first b.second b.together.apart
free_true d (Stable o l p) w r (a ∷ c ∷ e ∷ cs) es val st b = absurd b

-- ---- 4

-- a line reads the same in states that agree
pub line_at_agrees : (d : Specification) (w : World) → is_world d w ≡ true → (ps : List Parameter) (args : List ℤ) → are_arguments w ps args ≡ true → (r s : Reads) → AgreeOn d w r s → (l : Line) → is_line d ps l ≡ true → (es : List ℕ) → fits_places w (failing_vars l) es ≡ true
    → line_at w r args l es ≡ line_at w s args l es
line_at_agrees d w world ps args fit r s a l h es f = by_test (is_exists l.prefix) f
  where
    by_test : (b : Bool) → fits_places w (cond b [] l.vars) es ≡ true → cond b (line_true w r args l) (truth w r args es l.body) ≡ cond b (line_true w s args l) (truth w s args es l.body)
    by_test true f = line_agrees d w r s a args l (line_fits_typed d w world ps args fit l h)
    by_test false f = truth_agrees d w r s a args es l.body (formula_fits d w world ps args fit l.vars es f l.body (and_parts _ _ h).1)

-- the effect of a call that fits
pub call_agrees : (d : Specification) (w : World) → is_specification d ≡ true → is_world d w ≡ true → (o : ℕ) (c : Call) → IsCallOf d w o c → (r s : Reads) → AgreeOn d w r s → AgreeOn d w (after d w c r) (after_everywhere d w c s)
call_agrees d w t v o c h r s a = (let p = call_parts d w c t v h.fits in after_agrees d w v c p.arguments (operation_parts d (op_of d c.op) p.operation).updates r s a)

pub invariant_typed : (d : Specification) → is_specification d ≡ true → (i : ℕ) → is_line d [] (invariant_line d i) ≡ true
invariant_typed d t i = (and_parts _ _ (list_all-get_or (is_invariant d) d.invariants (parts_of d t).invariants i no_invariant refl)).1

-- undeclared things read the same after any call
reads_same_agrees : (d : Specification) (w : World) (x : Thing) (es : List ℕ) → fits_places w (places_of d x) es ≡ true → (a b c e : Call) (ra rb r s : Reads)
    → AgreeOn d w (after d w b ra) r → AgreeOn d w (after d w e rb) s → reads_same x es (after d w b ra) (after d w e rb) ≡ false → reads_same x es r s ≡ false
reads_same_agrees d w (thing.Relation k) es f a b c e ra rb r s p q h = by_test (nat_lt k (length d.relations)) refl
  where
    by_test : (o : Bool) → nat_lt k (length d.relations) ≡ o → bool_eq (r.has k es) (s.has k es) ≡ false
    by_test true l = (let lt : k < length d.relations = grind (arith, nat_tests) in let u = p.has k es lt f in let v = q.has k es lt f in cc)
    by_test false l = (let le : length d.relations ≤ k = grind (arith, nat_tests) in let u = has_undeclared d w b ra k es le in let v = has_undeclared d w e rb k es le in absurd cc)
reads_same_agrees d w (thing.Counter k) es f a b c e ra rb r s p q h = by_test (nat_lt k (length d.counters)) refl
  where
    by_test : (o : Bool) → nat_lt k (length d.counters) ≡ o → int_eq (r.count k es) (s.count k es) ≡ false
    by_test true l = (let lt : k < length d.counters = grind (arith, nat_tests) in let u = p.count k es lt f in let v = q.count k es lt f in cc)
    by_test false l = (let le : length d.counters ≤ k = grind (arith, nat_tests) in let u = count_undeclared d w b ra k es le in let v = count_undeclared d w e rb k es le in absurd cc)

module _ (d : Specification) (w : World) (r : Reads) (val : ℕ → ℕ) (es : List ℕ) where
  invariant_fails : (ob : Obligation) (cs : List Call) (st : Setting d ob w cs val) (i : ℕ) → elements_of d ob ≡ failing_vars (invariant_line d i) → map val (constants_of d ob).elements ≡ es → fits_places w (failing_vars (invariant_line d i)) es ≡ true
      → (s : Reads) (k : Stage) → AgreeOn d w s (state_at d w cs r k) → line_at w s [] (invariant_line d i) es ≡ false → all_true (interpret d w cs r val) (line_fails (constants_of d ob) (at_stage k) nobody (invariant_line d i)) ≡ true
  invariant_fails ob cs st i same e f s k a h =
      line_fails_true d ob w r cs val st [] nobody [] (stands_nobody d ob w r cs val st) (at_stage k) (state_at d w cs r k) (shows d ob w r cs val st k) (invariant_line d i) es
      (line_typed d [] (invariant_line d i) (invariant_typed d st.typed i)) e (length-range_with_len _ (length (elements_of d ob)) ∙ ap length same)
      (sym (line_at_agrees d w st.world [] [] refl s (state_at d w cs r k) a (invariant_line d i) (invariant_typed d st.typed i) es f) ∙ h)

conclusion_true : (d : Specification) (ob : Obligation) (w : World) (r : Reads) (cs : List Call) (es : List ℕ) (val : ℕ → ℕ) (st : Setting d ob w cs val) → map val (constants_of d ob).elements ≡ es → fits_places w (elements_of d ob) es ≡ true → BreaksIn d ob w r cs es → all_true (interpret d w cs r val) (conclusion d ob (constants_of d ob)) ≡ true
conclusion_true d (Init i) w r [] es val st e f b =
    line_fails_true d (Init i) w r [] val st [] nobody [] (stands_nobody d (Init i) w r [] val st) (at_start d) (start_everywhere d) (shows_start d (Init i) w r [] val st) (invariant_line d i) es
    (line_typed d [] (invariant_line d i) (invariant_typed d st.typed i)) e (length-range_with_len _ (length (elements_of d (Init i))))
    (sym (line_at_agrees d w st.world [] [] refl (reads (initial d w)) (start_everywhere d) (start_agrees d w) (invariant_line d i) (invariant_typed d st.typed i) es f) ∙ subst (λ (x : Reads). line_at w x [] (invariant_line d i) es ≡ false) b.start b.fails)
conclusion_true d (Init i) w r (a ∷ cs) es val st e f b = absurd b
conclusion_true d (Safety o i) w r [] es val st e f b = absurd b
conclusion_true d (Safety o i) w r (a ∷ []) es val st e f b = invariant_fails d w r val es (Safety o i) (a ∷ []) st i refl e f (after d w a r) (0 ∷ []) (call_agrees d w st.typed st.world o a b.call r r (agree_same d w r)) b.fails
conclusion_true d (Safety o i) w r (a ∷ c ∷ cs) es val st e f b = absurd b
conclusion_true d (Commute o p x) w r [] es val st e f b = absurd b
conclusion_true d (Commute o p x) w r (a ∷ []) es val st e f b = absurd b
conclusion_true d (Commute o p x) w r (a ∷ c ∷ []) es val st e f b =
    let one = call_agrees d w st.typed st.world o a b.first r r (agree_same d w r) in
    let two = call_agrees d w st.typed st.world p c b.second r r (agree_same d w r) in
    let left = call_agrees d w st.typed st.world p c b.second (after d w a r) (after_everywhere d w a r) one in
    let right = call_agrees d w st.typed st.world o a b.first (after d w c r) (after_everywhere d w c r) two in
    differ_true d (Commute o p x) w r (a ∷ c ∷ []) val st x (1 ∷ 0 ∷ []) (0 ∷ 1 ∷ []) es e
    (reads_same_agrees d w x es f a c c a (after d w a r) (after d w c r) (after_everywhere d w c (after_everywhere d w a r)) (after_everywhere d w a (after_everywhere d w c r)) left right b.fails)
conclusion_true d (Commute o p x) w r (a ∷ c ∷ g ∷ cs) es val st e f b = absurd b
conclusion_true d (Stable o l p) w r [] es val st e f b = absurd b
conclusion_true d (Stable o l p) w r (a ∷ []) es val st e f b = absurd b
conclusion_true d (Stable o l p) w r (a ∷ c ∷ []) es val st e f b =
    let zeroth : 0 < length (operations_of (Stable o l p)) = omega arith in
    let typed : is_line d (op_of d o).params (requires_line d o l) ≡ true = list_all-get_or (is_line d (op_of d o).params) (op_of d o).requires_ (operation_parts d (op_of d o) (st.operation 0 zeroth)).requires_ l no_line refl in
    let one = call_agrees d w st.typed st.world p c b.second r r (agree_same d w r) in
    line_fails_true d (Stable o l p) w r (a ∷ c ∷ []) val st (op_of d o).params (caller (constants_of d (Stable o l p)) 0) a.args (stands d (Stable o l p) w r (a ∷ c ∷ []) val st 0 zeroth) (at_stage (1 ∷ [])) (after_everywhere d w c r) (shows d (Stable o l p) w r (a ∷ c ∷ []) val st (1 ∷ [])) (requires_line d o l) es
    (line_typed d (op_of d o).params (requires_line d o l) typed) e (length-range_with_len _ (length (elements_of d (Stable o l p))))
    (sym (line_at_agrees d w st.world (op_of d o).params a.args (st.arguments 0 zeroth) (after d w c r) (after_everywhere d w c r) one (requires_line d o l) typed es f) ∙ b.fails)
conclusion_true d (Stable o l p) w r (a ∷ c ∷ g ∷ cs) es val st e f b = absurd b

-- ---- the values of the constants

-- a declared constant has its value in the world
pub const_value : (w : World) (d : Specification) (n s : ℕ) → is_sort (option_map (λ c. c.sort) (slice_get d.consts n)) s ≡ true → n < length d.consts
const_value w d n s h = within d.consts n h
  where
    within : (cs : List Constant) (n : ℕ) → is_sort (option_map (λ (c : Constant). c.sort) (slice_get cs n)) s ≡ true → n < length cs
    within [] n h = absurd cc
    within (c ∷ cs) zero h = omega arith
    within (c ∷ cs) (suc n) h = (let p = within cs n h in omega arith)

module _ (d : Specification) (ob : Obligation) (w : World) (s : Listing) (cs : List Call) (es : List ℕ) (typed : is_specification d ≡ true) (br : Breaks d ob w s cs es) where
  abbrev ops : List ℕ
  ops = operations_of ob

  abbrev r : Reads
  r = reads s

  ready : ReadyCalls d w (reads s) (operations_of ob) cs
  ready = ready_calls d ob w (reads s) cs es br.broken

  -- with the choices as a variable
  module _ (owns : List (List (List ℕ))) (there : InAll w (chosen_of d ob) owns) (fine : CallsHold d w (reads s) (operations_of ob) cs owns) where
    abbrev declared : List ℕ
    declared = map (λ c. c.sort) d.consts

    abbrev args : List ℕ
    args = elements_of_calls d (operations_of ob) cs

    abbrev chosen : List ℕ
    chosen = flat_map concatenated owns

    abbrev vals : List ℕ
    vals = w.consts ++ (args ++ (chosen ++ es))

    consts_in : InSorts w declared w.consts
    consts_in = (and_parts _ _ br.world).1

    args_in : InSorts w (sorts_of_calls d (operations_of ob)) args
    args_in = elements_of_calls_fit d w (reads s) (operations_of ob) cs typed br.world ready

    chosen_in : InSorts w (flat_map concatenated (chosen_of d ob)) chosen
    chosen_in = in_all_concatenated w (chosen_of d ob) owns there

    vals_in : InSorts w (constants_of d ob).sorts vals
    vals_in = in_sorts_append w declared (sorts_of_calls d (operations_of ob) ++ (flat_map concatenated (chosen_of d ob) ++ elements_of d ob)) w.consts (args ++ (chosen ++ es)) consts_in
        (in_sorts_append w (sorts_of_calls d (operations_of ob)) (flat_map concatenated (chosen_of d ob) ++ elements_of d ob) args (chosen ++ es) args_in
        (in_sorts_append w (flat_map concatenated (chosen_of d ob)) (elements_of d ob) chosen es chosen_in br.elements))

    args_tail : Tail vals (length declared) (args ++ (chosen ++ es))
    args_tail = tail_at vals (0 + length w.consts) (length declared) (args ++ (chosen ++ es)) (let e = in_sorts_length w declared w.consts consts_in in omega arith) (tail_past vals 0 w.consts (args ++ (chosen ++ es)) (tail_whole vals))

    chosen_tail : Tail vals (length declared + length (sorts_of_calls d (operations_of ob))) (chosen ++ es)
    chosen_tail = tail_at vals (length declared + length args) (length declared + length (sorts_of_calls d (operations_of ob))) (chosen ++ es) (ap (λ (x : ℕ). length declared + x) (in_sorts_length w (sorts_of_calls d (operations_of ob)) args args_in)) (tail_past vals (length declared) args (chosen ++ es) args_tail)

    es_tail : Tail vals (length declared + length (sorts_of_calls d (operations_of ob)) + length (flat_map concatenated (chosen_of d ob))) es
    es_tail = tail_at vals (length declared + length (sorts_of_calls d (operations_of ob)) + length chosen) (length declared + length (sorts_of_calls d (operations_of ob)) + length (flat_map concatenated (chosen_of d ob))) es (ap (λ (x : ℕ). length declared + length (sorts_of_calls d (operations_of ob)) + x) (in_sorts_length w (flat_map concatenated (chosen_of d ob)) chosen chosen_in)) (tail_past vals (length declared + length (sorts_of_calls d (operations_of ob))) chosen es chosen_tail)

    setting : Setting d ob w cs (slice_index vals)
    setting = record {
      typed = typed;
      world = br.world;
      consts = λ n k h. get_or_append_left w.consts (args ++ (chosen ++ es)) 0 n (let e = in_sorts_length w declared w.consts consts_in in let f = length-map d.consts (λ c. c.sort) in let l = const_value w d n k h in omega arith);
      fit = fits_from w (constants_of d ob).sorts vals vals_in;
      ops = λ n h. (ready_at d w (reads s) (operations_of ob) cs n ready h).call.operation;
      operation = λ n h. (typed_call d w (slice_index (operations_of ob) n) (call_at cs n) typed br.world (ready_at d w (reads s) (operations_of ob) cs n ready h).call).operation;
      arguments = λ n h. (typed_call d w (slice_index (operations_of ob) n) (call_at cs n) typed br.world (ready_at d w (reads s) (operations_of ob) cs n ready h).call).arguments;
      elements = λ n h i k q. calls_read d w (reads s) vals (length declared) (operations_of ob) cs (chosen ++ es) typed br.world ready args_tail n h i k q;
    }

    calls_true : all_true (interpret d w cs (reads s) (slice_index vals)) (calls_ready d (constants_of d ob) 0 (operations_of ob) (constants_of d ob).chosen) ≡ true
    calls_true = calls_ready_true d ob w (reads s) cs (slice_index vals) setting 0 (operations_of ob) cs (constants_of d ob).chosen (λ j. (let e : 0 + j ≡ j = omega arith in ap (slice_index (operations_of ob)) e)) (omega arith) (λ j. (let e : 0 + j ≡ j = omega arith in ap (call_at cs) e))
        (subst (λ (x : List (List (List ℕ))). CallsHold d w (reads s) (operations_of ob) cs x) (sym (all_chosen_reads w vals (length declared + length (sorts_of_calls d (operations_of ob))) (chosen_of d ob) owns es there chosen_tail)) fine)

    stated_true : all_true (interpret d w cs (reads s) (slice_index vals)) (stated d ob (constants_of d ob)) ≡ true
    stated_true =
        let m = interpret d w cs (reads s) (slice_index vals) in
        let z = constants_of d ob in
        let may = calls_ready d z 0 (operations_of ob) z.chosen in
        let free = calls_free d z (operations_of ob) in
        all_append m (before_conclusion d ob z) (conclusion d ob z)
        (all_append m (entry d ob z) (may ++ free) (invariant_true d ob w (reads s) cs es (slice_index vals) setting br.broken)
        (all_append m may free calls_true (free_true d ob w (reads s) cs es (slice_index vals) setting br.broken)))
        (conclusion_true d ob w (reads s) cs es (slice_index vals) setting
        (range_reads vals _ es [] (length (elements_of d ob)) (sym (in_sorts_length w (elements_of d ob) es br.elements)) (λ j. es_tail j ∙ ap (λ (x : List ℕ). slice_index x j) (sym (append-nil es)))) br.elements br.broken)

    first : (m : Interpretation) × (all_true m (formulas_of d ob) ≡ true)
    first = (interpret d w cs (reads s) (slice_index vals), list_true d ob w (reads s) cs (slice_index vals) setting stated_true)

  pub first_direction : (m : Interpretation) × (all_true m (formulas_of d ob) ≡ true)
  first_direction = let c = choose_calls d w (reads s) (operations_of ob) cs ready in first c.0 c.1 c.2
