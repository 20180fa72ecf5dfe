-- All that the list of an obligation names has constants of the sorts of its places.
use Rattle.std.proofs.Common.{◌≡◌, ℕ, zero, suc, ◌+◌, ◌<◌, Bool, true, false, not, cond, Option, option_map, List, [], ◌∷◌, ◌++◌, map, length, slice_get, slice_index, flat_map, refl, sym, ◌∙◌, ap, subst, arith}
use Rattle.std.specs.List.{list_all}
use Rattle.std.proofs.lemmas.Bool.{and_parts, or_left, or_right, eqb-true}
use Rattle.std.proofs.lemmas.Slice.Eq.{bytes_eq-Decides}
use Rattle.std.specs.Str.{bytes_eq}
use Rattle.spec_core.specs.declared.formula.Elem.{Elem}
use Rattle.spec_core.specs.declared.formula.Elem.TheVariants.{Const, Param, Var}
use Rattle.spec_core.specs.declared.operation.Operation.{Operation}
use Rattle.spec_core.specs.declared.operation.Param.{Param as Parameter}
use Rattle.spec_core.specs.declared.spec.Const.{Const as Constant}
use Rattle.spec_core.specs.declared.spec.Invariant.{Invariant}
use Rattle.spec_core.specs.declared.update.Thing.{Thing}
use Rattle.spec_core.specs.declared.update.Thing.TheVariants as thing
use Rattle.spec_core.specs.Form.{Form}
use Rattle.spec_core.specs.Line.{Line}
use Rattle.spec_core.specs.Specification.{Specification, op_of, no_line}
use Rattle.spec_core.specs.State.{is_in}
use Rattle.spec_core.specs.Truth.{is_exists}
use Rattle.spec_core.specs.Meaning.{invariant_line}
use Rattle.spec_core.specs.Typed.{sort_of, is_sort, form_typed, is_line, is_invariant, is_specification}
use Rattle.spec_core.proofs.Lists.{list_all-get_or}
use Rattle.spec_core.proofs.Parts.{parts_of, operation_parts}
use Rattle.obligation_list.specs.declared.obligation.Obligation.{Obligation}
use Rattle.obligation_list.specs.declared.obligation.Obligation.TheVariants.{Init, Safety, Commute, Stable}
use Rattle.obligation_list.specs.Obligations.{IsObligation}
use Rattle.obligation_list.specs.Breaking.{operations_of, elements_of, requires_line, failing_vars}
use Rattle.ground_problem.specs.Symbols.{Stage, Symbolic, negated}
use Rattle.ground_problem.specs.Constants.{Constants, constants_of, chosen_vars, assignments}
use Rattle.ground_problem.specs.Formulas.{Caller, caller, nobody, at_stage, at_start, const_of, formula, instances}
use Rattle.ground_problem.specs.Entry.{line_holds, lines_hold, calls_ready, calls_free, entry, before_conclusion}
use Rattle.ground_problem.specs.Conclusion.{line_fails, conclusion}
use Rattle.ground_problem.specs.Definitions.{Reading, updates_at, define, definition, readings, readings_after, with_definitions}
use Rattle.ground_problem.specs.Problem.{stated}
use Rattle.ground_problem.proofs.Names.{Each, EachOf, StageIn, of_append, after_names, free_names, fails_names, allows_start, differ_names}
use Rattle.ground_problem.proofs.Worlds.{HasSort}
use Rattle.ground_problem.proofs.Rows.{HaveSorts}
use Rattle.ground_problem.proofs.Sorted.{OwnSorted, AllSorted, sorts, own_sort, params_sorted, chosen_sorted, elements_sorted, assigned_sorted}
use Rattle.ground_problem.proofs.Places.{Place, form_places, define_has_places, define_count_places}
use Rattle.ground_problem.proofs.Groups.{line_typed}
use Rattle.ground_problem.proofs.Interpret.{invariant_typed}
use Rattle.ground_problem.proofs.Existing.{operation_typed}

-- the readings of each member of a list of formulas
pub of_members : (P : Reading → Type 0) (g : List ℕ → Symbolic) (ts : List (List ℕ)) → ((t : List ℕ) → is_in t ts ≡ true → Each P (readings (g t))) → EachOf P (map g ts)
of_members P g [] h = tt
of_members P g (t ∷ ts) h = (h t (or_left (bytes_eq t t) (is_in t ts) ((bytes_eq-Decides t t).1 refl)), of_members P g ts (λ u l. h u (or_right (bytes_eq u t) (is_in u ts) l)))

of_negated : (P : Reading → Type 0) (fs : List Symbolic) → EachOf P fs → EachOf P (map negated fs)
of_negated P [] h = tt
of_negated P (f ∷ fs) h = (h.0, of_negated P fs h.1)

const_sorts : (cs : List Constant) (n : ℕ) → slice_get (map (λ (c : Constant). c.sort) cs) n ≡ option_map (λ (c : Constant). c.sort) (slice_get cs n)
const_sorts [] n = refl
const_sorts (c ∷ cs) zero = refl
const_sorts (c ∷ cs) (suc n) = const_sorts cs n

var_sorted : (all vars vs : List ℕ) (n s : ℕ) → HaveSorts all vars vs → is_sort (slice_get vars n) s ≡ true → HasSort all s (slice_index vs n)
var_sorted all [] vs n s so h = absurd cc
var_sorted all (v ∷ vars) [] n s so h = absurd so
var_sorted all (v ∷ vars) (x ∷ vs) zero s so h = subst (λ (y : ℕ). HasSort all y x) (eqb-true v s h) so.0
var_sorted all (v ∷ vars) (x ∷ vs) (suc n) s so h = var_sorted all vars vs n s so.1 h

-- what a caller names at constants of these sorts has the sorts that it is typed with
abbrev pub NamesSorted : Specification → Obligation → List Parameter → Caller → Type 0
NamesSorted d ob ps c = (vars vs : List ℕ) → HaveSorts (sorts d ob) vars vs → (s : ℕ) (e : Elem) → is_sort (sort_of d ps vars e) s ≡ true → HasSort (sorts d ob) s (const_of c vs e)

module _ (d : Specification) (ob : Obligation) where
  pub nobody_sorted : NamesSorted d ob [] nobody
  nobody_sorted vars vs so s (Const n) h = own_sort d ob n s (ap (λ (o : Option ℕ). is_sort o s) (const_sorts d.consts n) ∙ h)
  nobody_sorted vars vs so s (Param n) h = absurd cc
  nobody_sorted vars vs so s (Var n) h = var_sorted (sorts d ob) vars vs n s so h

  pub caller_sorted : (n : ℕ) → n < length (operations_of ob) → NamesSorted d ob (op_of d (slice_index (operations_of ob) n)).params (caller (constants_of d ob) n)
  caller_sorted n l vars vs so s (Const i) h = own_sort d ob i s (ap (λ (o : Option ℕ). is_sort o s) (const_sorts d.consts i) ∙ h)
  caller_sorted n l vars vs so s (Param i) h = params_sorted d ob n l i s h
  caller_sorted n l vars vs so s (Var i) h = var_sorted (sorts d ob) vars vs i s so h

  abbrev P : Reading → Type 0
  P = Place d (sorts d ob)

  abbrev z : Constants
  z = constants_of d ob

  module _ (k : Stage) (ps : List Parameter) (c : Caller) (named : NamesSorted d ob ps c) where
    instances_places : (vars : List ℕ) (f : Form) → form_typed d ps vars f ≡ true → EachOf P (instances z (at_stage k) c vars f)
    instances_places vars f h = of_members P (λ vs. formula (at_stage k) c vs f) (assignments z vars) (λ vs l. form_places d (sorts d ob) k ps c vars vs (named vars vs (assigned_sorted d ob vars vs l)) f h)

    fails_places : (l : Line) → elements_of d ob ≡ failing_vars l → is_line d ps l ≡ true → EachOf P (line_fails z (at_stage k) c l)
    fails_places l e h = by_test (is_exists l.prefix) (subst (λ (ss : List ℕ). HaveSorts (sorts d ob) ss z.elements) e (elements_sorted d ob))
      where
        by_test : (b : Bool) → HaveSorts (sorts d ob) (cond b [] l.vars) z.elements → EachOf P (cond b (map negated (instances z (at_stage k) c l.vars l.body)) (negated (formula (at_stage k) c z.elements l.body) ∷ []))
        by_test true so = of_negated P (instances z (at_stage k) c l.vars l.body) (instances_places l.vars l.body (line_typed d ps l h))
        by_test false so = (form_places d (sorts d ob) k ps c l.vars z.elements (named l.vars z.elements so) l.body (line_typed d ps l h), tt)

  module _ (ps : List Parameter) (c : Caller) (named : NamesSorted d ob ps c) where
    holds_places : (l : Line) (own : List ℕ) → is_line d ps l ≡ true → HaveSorts (sorts d ob) (chosen_vars l) own → EachOf P (line_holds z c l own)
    holds_places l own h so = by_test (is_exists l.prefix) so
      where
        by_test : (b : Bool) → HaveSorts (sorts d ob) (cond b l.vars []) own → EachOf P (cond b (formula (at_stage []) c own l.body ∷ []) (instances z (at_stage []) c l.vars l.body))
        by_test true so = (form_places d (sorts d ob) [] ps c l.vars own (named l.vars own so) l.body (line_typed d ps l h), tt)
        by_test false so = instances_places [] ps c named l.vars l.body (line_typed d ps l h)

    lines_places : (ls : List Line) (owns : List (List ℕ)) → list_all (is_line d ps) ls ≡ true → OwnSorted (sorts d ob) (map chosen_vars ls) owns → EachOf P (lines_hold z c ls owns)
    lines_places [] owns h so = tt
    lines_places (l ∷ ls) [] h so = tt
    lines_places (l ∷ ls) (own ∷ owns) h so = (let h2 = and_parts (is_line d ps l) (list_all (is_line d ps) ls) h in of_append P (line_holds z c l own) (lines_hold z c ls owns) (holds_places l own h2.0 so.0) (lines_places ls owns h2.1 so.1))

  invariants_places : (is : List Invariant) → list_all (is_invariant d) is ≡ true → EachOf P (flat_map (λ i. instances z (at_stage []) nobody i.line.vars i.line.body) is)
  invariants_places [] h = tt
  invariants_places (i ∷ is) h =
      let h2 = and_parts (is_invariant d i) (list_all (is_invariant d) is) h in
      of_append P (instances z (at_stage []) nobody i.line.vars i.line.body) (flat_map (λ i. instances z (at_stage []) nobody i.line.vars i.line.body) is)
      (instances_places [] [] nobody nobody_sorted i.line.vars i.line.body (line_typed d [] i.line (and_parts (not (is_exists i.line.prefix)) (is_line d [] i.line) h2.0).1)) (invariants_places is h2.1)

  module _ (t : is_specification d ≡ true) (io : IsObligation d ob) where
    abbrev op_n : ℕ → Operation
    op_n n = op_of d (slice_index (operations_of ob) n)

    calls_places : (n : ℕ) (os : List ℕ) (owns : List (List (List ℕ))) → ((j : ℕ) → slice_index (operations_of ob) (n + j) ≡ slice_index os j) → n + length os ≡ length (operations_of ob)
        → AllSorted (sorts d ob) (map (λ o. map chosen_vars (op_of d o).requires_) os) owns → EachOf P (calls_ready d z n os owns)
    calls_places n [] owns e l so = tt
    calls_places n (o ∷ os) [] e l so = tt
    calls_places n (o ∷ os) (own ∷ owns) e l so =
        let lt : n < length (operations_of ob) = omega arith in
        let here : n + 0 ≡ n = omega arith in
        let same_op : slice_index (operations_of ob) n ≡ o = ap (slice_index (operations_of ob)) (sym here) ∙ e 0 in
        of_append P (lines_hold z (caller z n) (op_of d o).requires_ own) (calls_ready d z (suc n) os owns)
        (subst (λ (y : ℕ). EachOf P (lines_hold z (caller z n) (op_of d y).requires_ own)) same_op
        (lines_places (op_n n).params (caller z n) (caller_sorted n lt) (op_n n).requires_ own (operation_parts d (op_n n) (operation_typed d ob t io n lt)).requires_
        (subst (λ (y : ℕ). OwnSorted (sorts d ob) (map chosen_vars (op_of d y).requires_) own) (sym same_op) so.0)))
        (calls_places (suc n) os owns (λ j. (let s : suc n + j ≡ n + suc j = omega arith in ap (slice_index (operations_of ob)) s ∙ e (suc j))) (omega arith) so.1)

    define_places : (k : Stage) (x : Thing) (u : List ℕ) → StageIn ob (record { stage = k; thing = x; tuple = u }) → P (record { stage = k; thing = x; tuple = u }) → EachOf P (define d ob z k x u)
    define_places [] x u s p = tt
    define_places (n ∷ k) (thing.Relation i) u s p = define_has_places d (sorts d ob) k (op_n n).params (caller z n) (caller_sorted n s.0 [] [] tt) (updates_at d ob n) (n ∷ k) i u (operation_parts d (op_n n) (operation_typed d ob t io n s.0)).updates p
    define_places (n ∷ k) (thing.Counter i) u s p = define_count_places d (sorts d ob) k (op_n n).params (caller z n) (caller_sorted n s.0 [] [] tt) (updates_at d ob n) (n ∷ k) i u (operation_parts d (op_n n) (operation_typed d ob t io n s.0)).updates p

    definitions_places : (qs : List Reading) → Each (StageIn ob) qs → Each P qs → EachOf P (flat_map (definition d ob z) qs)
    definitions_places [] s p = tt
    definitions_places (q ∷ qs) s p = of_append P (definition d ob z q) (flat_map (definition d ob z) qs) (define_places q.stage q.thing q.tuple s.0 p.0) (definitions_places qs s.1 p.1)

    pub with_places : (n : ℕ) (list : List Symbolic) → EachOf (StageIn ob) list → EachOf P list → EachOf P (with_definitions d ob z n list)
    with_places n list s p = of_append P list (flat_map (definition d ob z) (readings_after n list)) p (definitions_places (readings_after n list) (after_names (StageIn ob) n list s) (after_names P n list p))

entry_places : (d : Specification) (ob : Obligation) → is_specification d ≡ true → EachOf (Place d (sorts d ob)) (entry d ob (constants_of d ob))
entry_places d (Init i) t = tt
entry_places d (Safety o i) t = invariants_places d (Safety o i) d.invariants (parts_of d t).invariants
entry_places d (Commute o p x) t = invariants_places d (Commute o p x) d.invariants (parts_of d t).invariants
entry_places d (Stable o l p) t = invariants_places d (Stable o l p) d.invariants (parts_of d t).invariants

conclusion_places : (d : Specification) (ob : Obligation) → is_specification d ≡ true → IsObligation d ob → EachOf (Place d (sorts d ob)) (conclusion d ob (constants_of d ob))
conclusion_places d (Init i) t io = fails_names (Place d (sorts d (Init i))) (at_start d) (allows_start (Place d (sorts d (Init i))) d) nobody (constants_of d (Init i)) (invariant_line d i)
conclusion_places d (Safety o i) t io = fails_places d (Safety o i) (0 ∷ []) [] nobody (nobody_sorted d (Safety o i)) (invariant_line d i) refl (invariant_typed d t i)
conclusion_places d (Commute o p x) t io = (let so = elements_sorted d (Commute o p x) in (differ_names (Place d (sorts d (Commute o p x))) x (1 ∷ 0 ∷ []) (0 ∷ 1 ∷ []) (constants_of d (Commute o p x)).elements so so, tt))
conclusion_places d (Stable o l p) t io =
    let zeroth : 0 < length (operations_of (Stable o l p)) = omega arith in
    let typed : is_line d (op_of d o).params (requires_line d o l) ≡ true = list_all-get_or (is_line d (op_of d o).params) (op_of d o).requires_ (operation_parts d (op_of d o) (operation_typed d (Stable o l p) t io 0 zeroth)).requires_ l no_line refl in
    fails_places d (Stable o l p) (1 ∷ []) (op_of d o).params (caller (constants_of d (Stable o l p)) 0) (caller_sorted d (Stable o l p) 0 zeroth) (requires_line d o l) refl typed

pub stated_places : (d : Specification) (ob : Obligation) → is_specification d ≡ true → IsObligation d ob → EachOf (Place d (sorts d ob)) (stated d ob (constants_of d ob))
stated_places d ob t io =
    let P = Place d (sorts d ob) in
    let z = constants_of d ob in
    let ready = calls_ready d z 0 (operations_of ob) z.chosen in
    let free = calls_free d z (operations_of ob) in
    of_append P (before_conclusion d ob z) (conclusion d ob z)
    (of_append P (entry d ob z) (ready ++ free) (entry_places d ob t)
    (of_append P ready free (calls_places d ob t io 0 (operations_of ob) z.chosen (λ j. (let e : 0 + j ≡ j = omega arith in ap (slice_index (operations_of ob)) e)) (omega arith) (chosen_sorted d ob)) (free_names P d z (operations_of ob))))
    (conclusion_places d ob t io)
