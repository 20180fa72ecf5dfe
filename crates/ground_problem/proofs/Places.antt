-- What formulas of the specification name has constants of the sorts of its places.
use Rattle.std.proofs.Common.{◌≡◌, ℕ, suc, ℤ, pos, true, List, [], ◌∷◌, ◌++◌, map}
use Rattle.std.specs.List.{list_all}
use Rattle.std.proofs.lemmas.Bool.{and_parts}
use Rattle.spec_core.specs.declared.formula.Elem.{Elem}
use Rattle.spec_core.specs.declared.formula.Body.{Body}
use Rattle.spec_core.specs.declared.formula.Body.TheVariants as body
use Rattle.spec_core.specs.declared.formula.Summand.{Summand}
use Rattle.spec_core.specs.declared.operation.Param.{Param as Parameter}
use Rattle.spec_core.specs.declared.update.Thing.TheVariants as thing
use Rattle.spec_core.specs.declared.update.Spot.{Spot}
use Rattle.spec_core.specs.declared.update.Spot.TheVariants.{Every, One}
use Rattle.spec_core.specs.declared.update.Change.{Change}
use Rattle.spec_core.specs.declared.update.Change.TheVariants.{Insert, Remove, Add, Set}
use Rattle.spec_core.specs.Form.{Form, true_form, false_form, not_form, and_form, or_form, implies_form, has_form, same_form, differ_form, compare_form}
use Rattle.spec_core.specs.UpdateLine.{UpdateLine}
use Rattle.spec_core.specs.Specification.{Specification, relation_places, counter_keys, places_of}
use Rattle.spec_core.specs.Fits.{in_literal_range}
use Rattle.spec_core.specs.Typed.{sort_of, is_sort, elems_typed, body_typed, summand_typed, term_typed, form_typed, is_update}
use Rattle.ground_problem.specs.Symbols.{Stage, reading, Part, multiple, Symbolic, has, equal}
use Rattle.ground_problem.specs.Formulas.{Caller, at_stage, const_of, consts_of, part_of_body, part_of, parts_of, formula}
use Rattle.ground_problem.specs.Definitions.{updates_of, spots_hold, acts_on, has_then, has_updated, define_has, count_then, value_after, values_defined, value_stays, define_count, Reading, readings}
use Rattle.ground_problem.proofs.Means.{AmountTyped, update_parts, all_filter}
use Rattle.ground_problem.proofs.Names.{Each, EachOf, of_sum, each_append, of_append, sums, same_names, equal_names, comparison_names, parts_names}
use Rattle.ground_problem.proofs.Worlds.{HasSort}
use Rattle.ground_problem.proofs.Rows.{HaveSorts}

-- a reading at constants of the sorts of its thing
abbrev pub Place : Specification → List ℕ → Reading → Type 0
Place d sorts q = HaveSorts sorts (places_of d q.thing) q.tuple

module _ (d : Specification) (sorts : List ℕ) (k : Stage) (ps : List Parameter) (c : Caller) where
  module _ (vars vs : List ℕ) (elem : (s : ℕ) (e : Elem) → is_sort (sort_of d ps vars e) s ≡ true → HasSort sorts s (const_of c vs e)) where
    pub elems_sorted : (ss : List ℕ) (es : List Elem) → elems_typed d ps vars ss es ≡ true → HaveSorts sorts ss (consts_of c vs es)
    elems_sorted [] [] h = tt
    elems_sorted [] (e ∷ es) h = absurd cc
    elems_sorted (s ∷ ss) [] h = absurd cc
    elems_sorted (s ∷ ss) (e ∷ es) h = (let h2 = and_parts (is_sort (sort_of d ps vars e) s) (elems_typed d ps vars ss es) h in (elem s e h2.0, elems_sorted ss es h2.1))

    body_places : (n : ℤ) (b : Body) → body_typed d ps vars b ≡ true → Each (Place d sorts) (of_sum (part_of_body (at_stage k) c vs n b ∷ []))
    body_places n body.One h = tt
    body_places n (body.Param p) h = tt
    body_places n (body.Count i es) h = (elems_sorted (counter_keys d i) es (and_parts _ _ h).1, tt)

    pub sum_places : (ss : List Summand) → list_all (summand_typed d ps vars) ss ≡ true → Each (Place d sorts) (of_sum (map (part_of (at_stage k) c vs) ss))
    sum_places [] h = tt
    sum_places (s ∷ ss) h = (let h2 = and_parts (summand_typed d ps vars s) (list_all (summand_typed d ps vars) ss) h in sums (Place d sorts) (part_of (at_stage k) c vs s ∷ []) (map (part_of (at_stage k) c vs) ss) (body_places s.coef s.body (and_parts (in_literal_range s.coef) (body_typed d ps vars s.body) h2.0).1) (sum_places ss h2.1))

    pub form_places : (f : Form) → form_typed d ps vars f ≡ true → Each (Place d sorts) (readings (formula (at_stage k) c vs f))
    form_places true_form h = tt
    form_places false_form h = tt
    form_places (not_form f) h = form_places f h
    form_places (and_form f g) h = (let h2 = and_parts (form_typed d ps vars f) (form_typed d ps vars g) h in each_append (Place d sorts) (readings (formula (at_stage k) c vs f)) (readings (formula (at_stage k) c vs g)) (form_places f h2.0) (form_places g h2.1))
    form_places (or_form f g) h = (let h2 = and_parts (form_typed d ps vars f) (form_typed d ps vars g) h in each_append (Place d sorts) (readings (formula (at_stage k) c vs f)) (readings (formula (at_stage k) c vs g)) (form_places f h2.0) (form_places g h2.1))
    form_places (implies_form f g) h = (let h2 = and_parts (form_typed d ps vars f) (form_typed d ps vars g) h in each_append (Place d sorts) (readings (formula (at_stage k) c vs f)) (readings (formula (at_stage k) c vs g)) (form_places f h2.0) (form_places g h2.1))
    form_places (has_form i es) h = (elems_sorted (relation_places d i) es (and_parts _ _ h).1, tt)
    form_places (same_form x y) h = same_names (Place d sorts) (const_of c vs x) (const_of c vs y)
    form_places (differ_form x y) h = same_names (Place d sorts) (const_of c vs x) (const_of c vs y)
    form_places (compare_form t o u) h = (let h2 = and_parts (term_typed d ps vars t) (term_typed d ps vars u) h in comparison_names (Place d sorts) o (parts_of (at_stage k) c vs t) (parts_of (at_stage k) c vs u) (sum_places t.summands (and_parts _ _ h2.0).1) (sum_places u.summands (and_parts _ _ h2.1).1))

  -- ---- definitions
  module _ (elem : (s : ℕ) (e : Elem) → is_sort (sort_of d ps [] e) s ≡ true → HasSort sorts s (const_of c [] e)) where
    spots_places : (ss : List Spot) (t : List ℕ) → EachOf (Place d sorts) (spots_hold c ss t)
    spots_places [] [] = tt
    spots_places [] (x ∷ t) = (tt, tt)
    spots_places (s ∷ ss) [] = (tt, tt)
    spots_places (Every ∷ ss) (x ∷ t) = spots_places ss t
    spots_places (One e ∷ ss) (x ∷ t) = (same_names (Place d sorts) (const_of c [] e) x, spots_places ss t)

    acts_places : (t : List ℕ) (u : UpdateLine) → is_update d ps u ≡ true → Each (Place d sorts) (readings (acts_on (at_stage k) c t u))
    acts_places t u h = parts_names (Place d sorts) (spots_hold c u.at t ++ formula (at_stage k) c [] u.guard ∷ []) (of_append (Place d sorts) (spots_hold c u.at t) (formula (at_stage k) c [] u.guard ∷ []) (spots_places u.at t) (form_places [] [] elem u.guard (update_parts d ps u h).guard, tt))

    then_places : (ch : Change) (a e : Symbolic) → Each (Place d sorts) (readings a) → Each (Place d sorts) (readings e) → Each (Place d sorts) (readings (has_then ch a e))
    then_places Insert a e h q = each_append (Place d sorts) (readings a) (readings e) h q
    then_places Remove a e h q = each_append (Place d sorts) (readings a) (readings e) h q
    then_places (Add n) a e h q = q
    then_places (Set n) a e h q = q

    updated_places : (t : List ℕ) (us : List UpdateLine) (e : Symbolic) → list_all (is_update d ps) us ≡ true → Each (Place d sorts) (readings e) → Each (Place d sorts) (readings (has_updated (at_stage k) c t us e))
    updated_places t [] e h q = q
    updated_places t (u ∷ us) e h q = (let h2 = and_parts (is_update d ps u) (list_all (is_update d ps) us) h in updated_places t us (has_then u.change (acts_on (at_stage k) c t u) e) h2.1 (then_places u.change (acts_on (at_stage k) c t u) e (acts_places t u h2.0) q))

    pub define_has_places : (us : List UpdateLine) (s : Stage) (i : ℕ) (t : List ℕ) → list_all (is_update d ps) us ≡ true → HaveSorts sorts (relation_places d i) t → EachOf (Place d sorts) (define_has (at_stage k) c us (has s i t) i t)
    define_has_places us s i t h so =
        let e = updated_places t (updates_of (thing.Relation i) us) (has k i t) (all_filter (is_update d ps) _ us h) (so, tt) in
        (each_append (Place d sorts) (readings (has s i t)) _ (so, tt) e, (each_append (Place d sorts) (readings (has s i t)) _ (so, tt) e, tt))

    count_then_places : (ch : Change) (v : List Part) → AmountTyped d ps ch → Each (Place d sorts) (of_sum v) → Each (Place d sorts) (of_sum (count_then (at_stage k) c ch v))
    count_then_places Insert v h q = q
    count_then_places Remove v h q = q
    count_then_places (Add n) v h q = sums (Place d sorts) v (parts_of (at_stage k) c [] n) q (sum_places [] [] elem n.summands (and_parts _ _ h).1)
    count_then_places (Set n) v h q = sum_places [] [] elem n.summands (and_parts _ _ h).1

    next_places : (us : List UpdateLine) (n : ℕ) (s : Stage) (i : ℕ) (t : List ℕ) → HaveSorts sorts (counter_keys d i) t → Each (Place d sorts) (of_sum (multiple (pos 1) (value_after us n s i t) ∷ []))
    next_places [] n s i t so = (so, tt)
    next_places (u ∷ us) n s i t so = tt

    values_places : (s : Stage) (i : ℕ) (t : List ℕ) (n : ℕ) (v : List Part) (us : List UpdateLine) → list_all (is_update d ps) us ≡ true → HaveSorts sorts (counter_keys d i) t → Each (Place d sorts) (of_sum v) → EachOf (Place d sorts) (values_defined (at_stage k) c s i t n v us)
    values_places s i t n v [] h so q = tt
    values_places s i t n v (u ∷ us) h so q =
        let h2 = and_parts (is_update d ps u) (list_all (is_update d ps) us) h in
        let next = multiple (pos 1) (value_after us n s i t) ∷ [] in
        let p = next_places us n s i t so in
        let a = acts_places t u h2.0 in (
          each_append (Place d sorts) (readings (acts_on (at_stage k) c t u)) (readings (equal next (count_then (at_stage k) c u.change v))) a (equal_names (Place d sorts) next (count_then (at_stage k) c u.change v) p (count_then_places u.change v (update_parts d ps u h2.0).change q)),
          (
            each_append (Place d sorts) (readings (acts_on (at_stage k) c t u)) (readings (equal next v)) a (equal_names (Place d sorts) next v p q),
            values_places s i t (suc n) next us h2.1 so p,
          ),
        )

    stays_places : (s : Stage) (i : ℕ) (t : List ℕ) (us : List UpdateLine) → HaveSorts sorts (counter_keys d i) t → EachOf (Place d sorts) (value_stays (at_stage k) s i t us)
    stays_places s i t [] so = (equal_names (Place d sorts) (multiple (pos 1) (reading s i t) ∷ []) (multiple (pos 1) (reading k i t) ∷ []) (so, tt) (so, tt), tt)
    stays_places s i t (u ∷ us) so = tt

    pub define_count_places : (us : List UpdateLine) (s : Stage) (i : ℕ) (t : List ℕ) → list_all (is_update d ps) us ≡ true → HaveSorts sorts (counter_keys d i) t → EachOf (Place d sorts) (define_count (at_stage k) c us s i t)
    define_count_places us s i t h so =
        let mine = updates_of (thing.Counter i) us in
        of_append (Place d sorts) (value_stays (at_stage k) s i t mine) (values_defined (at_stage k) c s i t 1 (multiple (pos 1) (reading k i t) ∷ []) mine) (stays_places s i t mine so) (values_places s i t 1 (multiple (pos 1) (reading k i t) ∷ []) mine (all_filter (is_update d ps) _ us h) so (so, tt))
