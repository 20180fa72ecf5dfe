-- Each group of the list is true in the interpretation of values.
use Rattle.std.proofs.Common.{◌≡◌, ℕ, suc, ◌+◌, ◌<◌, ◌==◌, ℤ, pos, negsuc, ◌+ℤ◌, int_le, Bool, true, false, not, cond, ◌&&◌, ◌||◌, List, [], ◌∷◌, ◌++◌, map, length, slice_index, flat_map, refl, sym, ◌∙◌, ap, subst, arith}
use Rattle.std.specs.List.{list_all, list_any}
use Rattle.std.proofs.lemmas.List.{length-map}
use Rattle.std.proofs.lemmas.List.Folds.{list_all-append, list_all-map}
use Rattle.std.proofs.lemmas.Bool.{and_parts, and_from, or_right, not-true}
use Rattle.std.proofs.lemmas.Bool.Decides.{nat_tests}
use Rattle.std.proofs.lemmas.Int.{ints}
use Rattle.spec_core.specs.declared.operation.Operation.{Operation}
use Rattle.spec_core.specs.declared.operation.Param.{Param as Parameter}
use Rattle.spec_core.specs.declared.spec.Invariant.{Invariant}
use Rattle.spec_core.specs.declared.update.Thing.{Thing}
use Rattle.spec_core.specs.declared.update.Thing.TheVariants as thing
use Rattle.spec_core.specs.declared.world.World.{World}
use Rattle.spec_core.specs.declared.world.Call.{Call}
use Rattle.spec_core.specs.Form.{Form}
use Rattle.spec_core.specs.Line.{Line}
use Rattle.spec_core.specs.UpdateLine.{UpdateLine}
use Rattle.spec_core.specs.Specification.{Specification, op_of}
use Rattle.spec_core.specs.World.{tuples}
use Rattle.spec_core.specs.State.{Reads, is_in}
use Rattle.spec_core.specs.Truth.{int_eq, truth, is_exists, line_true, lines_true}
use Rattle.spec_core.specs.Typed.{form_typed, is_line, is_update, is_invariant}
use Rattle.spec_core.proofs.Parts.{operation_parts}
use Rattle.spec_core.proofs.States.{list_all-from_is_in, list_all-is_in}
use Rattle.spec_core.proofs.Members.{is_in-tuples}
use Rattle.obligation_list.specs.declared.obligation.Obligation.{Obligation}
use Rattle.obligation_list.specs.Breaking.{operations_of, reads_same, bool_eq, failing_vars}
use Rattle.ground_problem.specs.Symbols.{Stage, reading, partial, multiple, Symbolic, has, negated, Interpretation, is_true, all_true, all_parts, same_const, equal}
use Rattle.ground_problem.specs.Constants.{Constants, constants_of, of_sort, assignments}
use Rattle.ground_problem.specs.Formulas.{Caller, caller, nobody, Readings, at_stage, at_start, formula, instances}
use Rattle.ground_problem.specs.Entry.{line_holds, lines_hold, calls_ready}
use Rattle.ground_problem.specs.Conclusion.{line_fails, differ}
use Rattle.ground_problem.specs.Definitions.{updates_of, has_updated, values_defined, value_stays, define}
use Rattle.ground_problem.specs.Equality.{three_agree, agree_with_pairs, equality, tuples_same, readings_same, congruent, congruent_pairs}
use Rattle.ground_problem.proofs.Means.{Shows, StandsFor, Values, count_first, has_over, count_over, has_after-over, count_after-over, all_filter, same_means, form_means}
use Rattle.ground_problem.proofs.Updated.{parts_mean, single, equal_true, has_updated_means, values_true}
use Rattle.ground_problem.proofs.Choices.{in_choices, members_length, assigned_fits, some_at}
use Rattle.ground_problem.proofs.Agree.{start_everywhere}
use Rattle.ground_problem.proofs.First.{call_at, state_at, interpret, Setting, HoldsBy, LinesHold, CallsHold}

pub line_typed : (d : Specification) (ps : List Parameter) (l : Line) → is_line d ps l ≡ true → form_typed d ps l.vars l.body ≡ true
line_typed d ps l h = (and_parts _ _ (and_parts _ _ h).1).1

pub all_append : (m : Interpretation) (xs ys : List Symbolic) → all_true m xs ≡ true → all_true m ys ≡ true → all_true m (xs ++ ys) ≡ true
all_append m xs ys h k = list_all-append (is_true m) xs ys ∙ and_from (all_true m xs) (all_true m ys) h k

pub all_each : {X : Type 0} (m : Interpretation) (g : X → List Symbolic) (xs : List X) → ((x : X) → all_true m (g x) ≡ true) → all_true m (flat_map g xs) ≡ true
all_each m g [] h = refl
all_each m g (x ∷ xs) h = all_append m (g x) (flat_map g xs) (h x) (all_each m g xs h)

pub alone : (m : Interpretation) (f : Symbolic) → is_true m f ≡ true → all_true m (f ∷ []) ≡ true
alone m f h = and_from (is_true m f) true h refl

module _ (d : Specification) (ob : Obligation) (w : World) (r : Reads) (cs : List Call) (val : ℕ → ℕ) (st : Setting d ob w cs val) where
  abbrev pub m : Interpretation
  m = interpret d w cs r val

  abbrev pub z : Constants
  z = constants_of d ob

  abbrev pub ops : List ℕ
  ops = operations_of ob

  abbrev pub op_n : ℕ → Operation
  op_n n = op_of d (slice_index ops n)

  pub values : Values d m val w
  values = record { consts = st.consts; same = λ a b. refl }

  pub shows : (k : Stage) → Shows m val (at_stage k) (state_at d w cs r k)
  shows k = record { has = λ i t. refl; count = λ n i t. refl }

  pub shows_start : Shows m val (at_start d) (start_everywhere d)
  shows_start = record { has = λ i t. refl; count = λ n i t. refl }

  pub stands_nobody : StandsFor m val [] nobody []
  stands_nobody = record { elements = λ n s h. absurd cc; ints = λ n h. absurd cc }

  pub stands : (n : ℕ) → n < length ops → StandsFor m val (op_n n).params (caller z n) (call_at cs n).args
  stands n h = record { elements = st.elements n h; ints = λ p l. refl }

  -- ---- formulas, and a formula at each assignment
  module _ (ps : List Parameter) (y : Caller) (args : List ℤ) (sf : StandsFor m val ps y args) (rs : Readings) (s : Reads) (sh : Shows m val rs s) where
    pub means : (vars vs : List ℕ) (f : Form) → length vs ≡ length vars → form_typed d ps vars f ≡ true → is_true m (formula rs y vs f) ≡ truth w s args (map val vs) f
    means vars vs f e h = form_means d m val w values ps y args sf vars vs e rs s sh f h

    pub assigned_length : (vars vs : List ℕ) → is_in vs (assignments z vars) ≡ true → length vs ≡ length vars
    assigned_length vars vs k = members_length (map (of_sort 0 z.sorts) vars) vs (sym (in_choices (map (of_sort 0 z.sorts) vars) vs) ∙ k) ∙ length-map vars (of_sort 0 z.sorts)

    pub assigned_there : (vars vs : List ℕ) → is_in vs (assignments z vars) ≡ true → is_in (map val vs) (tuples w vars) ≡ true
    assigned_there vars vs k = is_in-tuples w vars (map val vs) ∙ assigned_fits w z.sorts val st.fit vars vs (sym (in_choices (map (of_sort 0 z.sorts) vars) vs) ∙ k)

    pub instances_true : (vars : List ℕ) (f : Form) → form_typed d ps vars f ≡ true → list_all (λ vs. truth w s args vs f) (tuples w vars) ≡ true → all_true m (instances z rs y vars f) ≡ true
    instances_true vars f h k = list_all-map (is_true m) (λ vs. formula rs y vs f) (assignments z vars) ∙ list_all-from_is_in (λ vs. is_true m (formula rs y vs f)) (assignments z vars)
        (λ vs l. means vars vs f (assigned_length vars vs l) h ∙ list_all-is_in (λ vs. truth w s args vs f) (tuples w vars) (map val vs) k (assigned_there vars vs l))

    pub instances_false : (vars : List ℕ) (f : Form) → form_typed d ps vars f ≡ true → list_any (λ vs. truth w s args vs f) (tuples w vars) ≡ false → all_true m (map negated (instances z rs y vars f)) ≡ true
    instances_false vars f h k = list_all-map (is_true m) negated (map (λ vs. formula rs y vs f) (assignments z vars)) ∙ list_all-map (λ g. not (is_true m g)) (λ vs. formula rs y vs f) (assignments z vars) ∙ list_all-from_is_in (λ vs. not (is_true m (formula rs y vs f))) (assignments z vars)
        (λ vs l. ap not (means vars vs f (assigned_length vars vs l) h ∙ none_at (map val vs) (assigned_there vars vs l)))
      where
        none_at : (t : List ℕ) → is_in t (tuples w vars) ≡ true → truth w s args t f ≡ false
        none_at t l = by_test (truth w s args t f) refl
          where
            by_test : (b : Bool) → truth w s args t f ≡ b → truth w s args t f ≡ false
            by_test false e = e
            by_test true e = absurd (let p = some_at (λ vs. truth w s args vs f) (tuples w vars) t l e in cc)

    -- 2: a requires line
    pub line_holds_true : (l : Line) (own : List ℕ) → rs ≡ at_stage [] → is_line d ps l ≡ true → HoldsBy (is_exists l.prefix) w s args l (map val own) → all_true m (line_holds z y l own) ≡ true
    line_holds_true l own e h k = by_test (is_exists l.prefix) k
      where
        by_test : (b : Bool) → HoldsBy b w s args l (map val own) → all_true m (cond b (formula (at_stage []) y own l.body ∷ []) (instances z (at_stage []) y l.vars l.body)) ≡ true
        by_test true k = subst (λ (x : Readings). all_true m (formula x y own l.body ∷ []) ≡ true) e (alone m (formula rs y own l.body) (means l.vars own l.body (sym (length-map own val) ∙ k.1) (line_typed d ps l h) ∙ k.0))
        by_test false k = subst (λ (x : Readings). all_true m (instances z x y l.vars l.body) ≡ true) e (instances_true l.vars l.body (line_typed d ps l h) k)

    pub lines_hold_true : (ls : List Line) (owns : List (List ℕ)) → rs ≡ at_stage [] → list_all (is_line d ps) ls ≡ true → LinesHold w s args ls (map (map val) owns) → all_true m (lines_hold z y ls owns) ≡ true
    lines_hold_true [] owns e h k = refl
    lines_hold_true (l ∷ ls) [] e h k = absurd k
    lines_hold_true (l ∷ ls) (own ∷ owns) e h k = (let h2 = and_parts (is_line d ps l) (list_all (is_line d ps) ls) h in all_append m (line_holds z y l own) (lines_hold z y ls owns) (line_holds_true l own e h2.0 k.0) (lines_hold_true ls owns e h2.1 k.1))

    -- 4: a line that fails
    pub line_fails_true : (l : Line) (es : List ℕ) → form_typed d ps l.vars l.body ≡ true → map val z.elements ≡ es → length z.elements ≡ length (failing_vars l)
        → cond (is_exists l.prefix) (line_true w s args l) (truth w s args es l.body) ≡ false → all_true m (line_fails z rs y l) ≡ true
    line_fails_true l es h e n k = by_test (is_exists l.prefix) n k
      where
        by_test : (b : Bool) → length z.elements ≡ length (cond b [] l.vars) → cond b (cond b (list_any (λ vs. truth w s args vs l.body) (tuples w l.vars)) (list_all (λ vs. truth w s args vs l.body) (tuples w l.vars))) (truth w s args es l.body) ≡ false
            → all_true m (cond b (map negated (instances z rs y l.vars l.body)) (negated (formula rs y z.elements l.body) ∷ [])) ≡ true
        by_test true n k = instances_false l.vars l.body h k
        by_test false n k = alone m (negated (formula rs y z.elements l.body)) (ap not (means l.vars z.elements l.body n h ∙ ap (λ (x : List ℕ). truth w s args x l.body) e ∙ k))

  -- ---- 1
  pub invariants_true : (is : List Invariant) → list_all (is_invariant d) is ≡ true → lines_true w r [] (map (λ i. i.line) is) ≡ true → all_true m (flat_map (λ i. instances z (at_stage []) nobody i.line.vars i.line.body) is) ≡ true
  invariants_true [] h k = refl
  invariants_true (i ∷ is) h k =
      let h2 = and_parts (is_invariant d i) (list_all (is_invariant d) is) h in
      let h3 = and_parts (not (is_exists i.line.prefix)) (is_line d [] i.line) h2.0 in
      let k2 = and_parts (line_true w r [] i.line) (lines_true w r [] (map (λ i. i.line) is)) k in
      all_append m (instances z (at_stage []) nobody i.line.vars i.line.body) (flat_map (λ i. instances z (at_stage []) nobody i.line.vars i.line.body) is)
      (instances_true [] nobody [] stands_nobody (at_stage []) r (shows []) i.line.vars i.line.body (line_typed d [] i.line h3.1) (by_test (is_exists i.line.prefix) (not-true (is_exists i.line.prefix) h3.0) k2.0))
      (invariants_true is h2.1 k2.1)
    where
      by_test : (b : Bool) → b ≡ false → cond b (list_any (λ vs. truth w r [] vs i.line.body) (tuples w i.line.vars)) (list_all (λ vs. truth w r [] vs i.line.body) (tuples w i.line.vars)) ≡ true → list_all (λ vs. truth w r [] vs i.line.body) (tuples w i.line.vars) ≡ true
      by_test true e h = absurd cc
      by_test false e h = h

  -- ---- 2
  pub calls_ready_true : (n : ℕ) (os : List ℕ) (rest : List Call) (owns : List (List (List ℕ)))
      → ((j : ℕ) → slice_index ops (n + j) ≡ slice_index os j) → n + length os ≡ length ops → ((j : ℕ) → call_at cs (n + j) ≡ call_at rest j)
      → CallsHold d w r os rest (map (map (map val)) owns) → all_true m (calls_ready d z n os owns) ≡ true
  calls_ready_true n [] rest owns e l f h = refl
  calls_ready_true n (o ∷ os) [] owns e l f h = absurd h
  calls_ready_true n (o ∷ os) (x ∷ rest) [] e l f h = absurd h
  calls_ready_true n (o ∷ os) (x ∷ rest) (own ∷ owns) e l f h =
      let lt : n < length ops = omega arith in
      let here : n + 0 ≡ n = omega arith in
      let same_op = ap (slice_index ops) (sym here) ∙ e 0 in
      let same_call = ap (call_at cs) (sym here) ∙ f 0 in
      all_append m (lines_hold z (caller z n) (op_of d o).requires_ own) (calls_ready d z (suc n) os owns)
      (subst (λ (y : ℕ). all_true m (lines_hold z (caller z n) (op_of d y).requires_ own) ≡ true) same_op
      (lines_hold_true (op_n n).params (caller z n) (call_at cs n).args (stands n lt) (at_stage []) r (shows []) (op_n n).requires_ own refl (operation_parts d (op_n n) (st.operation n lt)).requires_
      (subst (λ (y : ℕ). LinesHold w r (call_at cs n).args (op_of d y).requires_ (map (map val) own)) (sym same_op) (subst (λ (y : Call). LinesHold w r y.args (op_of d o).requires_ (map (map val) own)) (sym same_call) h.0))))
      (calls_ready_true (suc n) os rest owns (λ j. (let s : suc n + j ≡ n + suc j = omega arith in ap (slice_index ops) s ∙ e (suc j))) (omega arith) (λ j. (let s : suc n + j ≡ n + suc j = omega arith in ap (call_at cs) s ∙ f (suc j))) h.1)

  -- ---- 5
  pub updates_typed : (n : ℕ) (x : Thing) → n < length ops → list_all (is_update d (op_n n).params) (updates_of x (op_n n).updates) ≡ true
  updates_typed n x lt = all_filter (is_update d (op_n n).params) _ (op_n n).updates (operation_parts d (op_n n) (st.operation n lt)).updates

  pub define_has_true : (n : ℕ) (k : Stage) (i : ℕ) (t : List ℕ) → n < length ops → all_true m (define d ob z (n ∷ k) (thing.Relation i) t) ≡ true
  define_has_true n k i t lt =
      let us = updates_of (thing.Relation i) (op_n n).updates in
      let s = state_at d w cs r k in
      let args = (call_at cs n).args in
      let p = has_updated_means d m val w values (op_n n).params (caller z n) args (stands n lt) (at_stage k) s (shows k) t us (has k i t) _ (updates_typed n (thing.Relation i) lt) refl in
      let q = has_after-over w s args i (map val t) (op_of d (call_at cs n).op).updates (s.has i (map val t)) ∙ ap (λ (o : ℕ). has_over w s args (map val t) (updates_of (thing.Relation i) (op_of d o).updates) (s.has i (map val t))) (st.ops n lt) in
      iff (is_true m (has (n ∷ k) i t)) (is_true m (has_updated (at_stage k) (caller z n) t us (has k i t))) (q ∙ sym p)
    where
      iff : (a b : Bool) → a ≡ b → ((not a || b) && ((a || not b) && true)) ≡ true
      iff a b e = grind arith

  pub define_count_true : (n : ℕ) (k : Stage) (i : ℕ) (t : List ℕ) → n < length ops → all_true m (define d ob z (n ∷ k) (thing.Counter i) t) ≡ true
  define_count_true n k i t lt = all_append m (value_stays (at_stage k) (n ∷ k) i t us) (values_defined (at_stage k) (caller z n) (n ∷ k) i t 1 (multiple (pos 1) (reading k i t) ∷ []) us) (stays us by_op) changed
    where
      us : List UpdateLine
      us = updates_of (thing.Counter i) (op_n n).updates

      s : Reads
      s = state_at d w cs r k

      args : List ℤ
      args = (call_at cs n).args

      v0 : ℤ
      v0 = (state_at d w cs r k).count i (map val t)

      by_op : m.int (reading (n ∷ k) i t) ≡ count_over w (state_at d w cs r k) (call_at cs n).args (map val t) (updates_of (thing.Counter i) (op_n n).updates) ((state_at d w cs r k).count i (map val t))
      by_op = count_after-over w (state_at d w cs r k) (call_at cs n).args i (map val t) (op_of d (call_at cs n).op).updates ((state_at d w cs r k).count i (map val t))
          ∙ ap (λ (o : ℕ). count_over w (state_at d w cs r k) (call_at cs n).args (map val t) (updates_of (thing.Counter i) (op_of d o).updates) ((state_at d w cs r k).count i (map val t))) (st.ops n lt)

      part_by_op : (j : ℕ) → m.int (partial (1 + j) (n ∷ k) i t) ≡ count_first w (state_at d w cs r k) (call_at cs n).args (map val t) (suc j) (updates_of (thing.Counter i) (op_n n).updates) ((state_at d w cs r k).count i (map val t))
      part_by_op j = (let e : 1 + j ≡ suc j = omega arith in ap (λ (o : ℕ). count_first w (state_at d w cs r k) (call_at cs n).args (map val t) (1 + j) (updates_of (thing.Counter i) (op_of d o).updates) ((state_at d w cs r k).count i (map val t))) (st.ops n lt)
          ∙ ap (λ (x : ℕ). count_first w (state_at d w cs r k) (call_at cs n).args (map val t) x (updates_of (thing.Counter i) (op_n n).updates) ((state_at d w cs r k).count i (map val t))) e)

      stays : (us : List UpdateLine) → m.int (reading (n ∷ k) i t) ≡ count_over w (state_at d w cs r k) (call_at cs n).args (map val t) us ((state_at d w cs r k).count i (map val t)) → all_true m (value_stays (at_stage k) (n ∷ k) i t us) ≡ true
      stays [] e = alone m (equal (multiple (pos 1) (reading (n ∷ k) i t) ∷ []) (multiple (pos 1) (reading k i t) ∷ [])) (equal_true m (multiple (pos 1) (reading (n ∷ k) i t) ∷ []) (multiple (pos 1) (reading k i t) ∷ []) (single m (reading (n ∷ k) i t) ∙ e ∙ sym (single m (reading k i t))))
      stays (u ∷ more) e = refl

      changed : all_true m (values_defined (at_stage k) (caller z n) (n ∷ k) i t 1 (multiple (pos 1) (reading k i t) ∷ []) (updates_of (thing.Counter i) (op_n n).updates)) ≡ true
      changed = values_true d m val w values (op_n n).params (caller z n) (call_at cs n).args (stands n lt) (at_stage k) (state_at d w cs r k) (shows k) (n ∷ k) i t 1 (multiple (pos 1) (reading k i t) ∷ []) ((state_at d w cs r k).count i (map val t)) (updates_of (thing.Counter i) (op_n n).updates) (updates_typed n (thing.Counter i) lt) (single m (reading k i t)) part_by_op by_op

  -- ---- 6
  pub three_true : (a b c : ℕ) → all_true m (three_agree a b c) ≡ true
  three_true a b c = by_numbers (val a) (val b) (val c)
    where
      by_numbers : (x y v : ℕ) → ((not ((x == y) && (y == v)) || (x == v)) && ((not ((x == y) && (x == v)) || (y == v)) && ((not ((x == v) && (y == v)) || (x == y)) && true))) ≡ true
      by_numbers x y v = grind (arith, nat_tests)

  pub pairs_agree_true : (a : ℕ) (cs : List ℕ) → all_true m (agree_with_pairs a cs) ≡ true
  pairs_agree_true a [] = refl
  pairs_agree_true a (b ∷ cs) = all_append m (flat_map (three_agree a b) cs) (agree_with_pairs a cs) (all_each m (three_agree a b) cs (three_true a b)) (pairs_agree_true a cs)

  pub equality_true : (n : ℕ) (sorts : List ℕ) → all_true m (equality n sorts) ≡ true
  equality_true n [] = refl
  equality_true n (s ∷ ts) = all_append m (agree_with_pairs n (of_sort (suc n) ts s)) (equality (suc n) ts) (pairs_agree_true n (of_sort (suc n) ts s)) (equality_true (suc n) ts)

  -- ---- 7
  pub tuples_same_true : (t u : List ℕ) → all_true m (tuples_same t u) ≡ true → map val t ≡ map val u
  tuples_same_true [] [] h = refl
  tuples_same_true [] (y ∷ u) h = absurd cc
  tuples_same_true (x ∷ t) [] h = absurd cc
  tuples_same_true (x ∷ t) (y ∷ u) h =
      let h2 = and_parts (is_true m (same_const x y)) (all_true m (tuples_same t u)) h in
      let e = same_value (val x) (val y) (sym (same_means d m val w values x y) ∙ h2.0) in
      let f = tuples_same_true t u h2.1 in cc
    where
      same_value : (a b : ℕ) → (a == b) ≡ true → a ≡ b
      same_value a b h = grind (arith, nat_tests)

  pub readings_same_true : (x : Thing) (t u : List ℕ) → map val t ≡ map val u → is_true m (readings_same x t u) ≡ true
  readings_same_true (thing.Relation i) t u e = iff (r.has i (map val t)) (r.has i (map val u)) (ap (r.has i) e)
    where
      iff : (a b : Bool) → a ≡ b → ((not a || b) && (a || not b)) ≡ true
      iff a b e = grind arith
  readings_same_true (thing.Counter i) t u e = equal_true m (multiple (pos 1) (reading [] i t) ∷ []) (multiple (pos 1) (reading [] i u) ∷ []) (single m (reading [] i t) ∙ ap (r.count i) e ∙ sym (single m (reading [] i u)))

  pub congruent_true : (x : Thing) (t u : List ℕ) → is_true m (congruent x t u) ≡ true
  congruent_true x t u = by_test (all_true m (tuples_same t u)) refl
    where
      left : (a b : Bool) → a ≡ false → (not a || b) ≡ true
      left a b h = grind arith

      by_test : (b : Bool) → all_true m (tuples_same t u) ≡ b → (not (is_true m (all_parts (tuples_same t u))) || is_true m (readings_same x t u)) ≡ true
      by_test true e = or_right (not (is_true m (all_parts (tuples_same t u)))) (is_true m (readings_same x t u)) (readings_same_true x t u (tuples_same_true t u e))
      by_test false e = left (is_true m (all_parts (tuples_same t u))) (is_true m (readings_same x t u)) (parts_mean m (tuples_same t u) ∙ e)

  pub congruent_pairs_true : (x : Thing) (ts : List (List ℕ)) → all_true m (congruent_pairs x ts) ≡ true
  congruent_pairs_true x [] = refl
  congruent_pairs_true x (t ∷ ts) = all_append m (map (congruent x t) ts) (congruent_pairs x ts) (list_all-map (is_true m) (congruent x t) ts ∙ list_all-from_is_in (λ u. is_true m (congruent x t u)) ts (λ u l. congruent_true x t u)) (congruent_pairs_true x ts)

  -- ---- 4, for two orders
  pub differ_true : (x : Thing) (j k : Stage) (es : List ℕ) → map val z.elements ≡ es → reads_same x es (state_at d w cs r j) (state_at d w cs r k) ≡ false → all_true m (differ x j k z.elements ∷ []) ≡ true
  differ_true (thing.Relation i) j k es e h = alone m (differ (thing.Relation i) j k z.elements) (by_test ((state_at d w cs r j).has i (map val z.elements)) ((state_at d w cs r k).has i (map val z.elements)) (ap (λ (x : List ℕ). bool_eq ((state_at d w cs r j).has i x) ((state_at d w cs r k).has i x)) e ∙ h))
    where
      by_test : (a b : Bool) → bool_eq a b ≡ false → ((a && not b) || (not a && b)) ≡ true
      by_test true true h = absurd cc
      by_test true false h = refl
      by_test false true h = refl
      by_test false false h = absurd cc
  differ_true (thing.Counter i) j k es e h = alone m (differ (thing.Counter i) j k z.elements) (by_numbers _ _ ((state_at d w cs r j).count i (map val z.elements)) ((state_at d w cs r k).count i (map val z.elements)) (single m (reading j i z.elements)) (single m (reading k i z.elements)) (ap (λ (x : List ℕ). int_eq ((state_at d w cs r j).count i x) ((state_at d w cs r k).count i x)) e ∙ h))
    where
      by_numbers : (u v a b : ℤ) → u ≡ a → v ≡ b → int_eq a b ≡ false → (int_le u (v +ℤ negsuc 0) || int_le v (u +ℤ negsuc 0)) ≡ true
      by_numbers u v a b p q h = grind (arith, ints)
