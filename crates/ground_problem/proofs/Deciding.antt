-- A definition that two interpretations make true decides its reading: where they agree before a call, they agree after it.
use Rattle.std.proofs.Common.{◌≡◌, ℕ, suc, ℤ, pos, ◌+ℤ◌, ◌*ℤ◌, int_le, Bool, true, false, not, cond, ◌&&◌, ◌||◌, List, [], ◌∷◌, ◌++◌, map, slice_get, refl, sym, ◌∙◌, ap, subst, arith}
use Rattle.std.specs.List.{list_all}
use Rattle.std.proofs.lemmas.Bool.{and_parts, and_from}
use Rattle.std.proofs.lemmas.Int.{ints}
use Rattle.spec_core.specs.declared.formula.Elem.{Elem}
use Rattle.spec_core.specs.declared.formula.Cmp.{Cmp}
use Rattle.spec_core.specs.declared.formula.Cmp.TheVariants.{Less, AtMost, Equal, Unequal, AtLeast, Greater}
use Rattle.spec_core.specs.declared.formula.Body.{Body}
use Rattle.spec_core.specs.declared.formula.Body.TheVariants as body
use Rattle.spec_core.specs.declared.formula.Summand.{Summand}
use Rattle.spec_core.specs.declared.formula.Term.{Term}
use Rattle.spec_core.specs.declared.operation.Param.{Param as Parameter}
use Rattle.spec_core.specs.declared.update.Thing.{Thing}
use Rattle.spec_core.specs.declared.update.Thing.TheVariants as thing
use Rattle.spec_core.specs.declared.update.Spot.{Spot}
use Rattle.spec_core.specs.declared.update.Spot.TheVariants.{Every, One}
use Rattle.spec_core.specs.declared.update.Change.{Change}
use Rattle.spec_core.specs.declared.update.Change.TheVariants.{Insert, Remove, Add, Set}
use Rattle.spec_core.specs.Form.{Form, true_form, false_form, not_form, and_form, or_form, implies_form, has_form, same_form, differ_form, compare_form}
use Rattle.spec_core.specs.UpdateLine.{UpdateLine}
use Rattle.spec_core.specs.Specification.{Specification, places_of}
use Rattle.spec_core.specs.Fits.{in_literal_range}
use Rattle.spec_core.specs.Typed.{sort_of, is_sort, same_sort, is_number, body_typed, summand_typed, term_typed, form_typed, spots_typed, is_update}
use Rattle.ground_problem.specs.Symbols.{Stage, argument, reading, partial, Part, multiple, Symbolic, has, negated, both, either, Interpretation, part_value, sum_value, is_true, all_true, all_parts, both_and, same_const, equal}
use Rattle.ground_problem.specs.Formulas.{Caller, at_stage, const_of, part_of_body, part_of, parts_of, comparison, formula}
use Rattle.effectors.specs.Effect.{is_thing}
use Rattle.ground_problem.specs.Definitions.{updates_of, define_has, spots_hold, acts_on, has_then, has_updated, count_then, values_defined, Reading, readings, readings_of_part}
use Rattle.ground_problem.proofs.Means.{one_sort, update_parts, AmountTyped}
use Rattle.ground_problem.proofs.Updated.{parts_mean, single, sum_append}
use Rattle.ground_problem.proofs.Names.{Each, EachOf, of_sum, allows_stage, acts_names, updated_names, count_then_names}
use Rattle.ground_problem.proofs.Closed.{thing_is, each_left, each_right}
use Rattle.ground_problem.proofs.Worlds.{HasSort}
use Rattle.ground_problem.proofs.Rows.{HaveSorts}

-- two interpretations agree on a reading
abbrev pub Same : Interpretation → Interpretation → Stage → Thing → List ℕ → Type 0
Same m o k (thing.Relation i) t = m.has k i t ≡ o.has k i t
Same m o k (thing.Counter i) t = m.int (reading k i t) ≡ o.int (reading k i t)

abbrev pub Agreed : Interpretation → Interpretation → Reading → Type 0
Agreed m o q = Same m o q.stage q.thing q.tuple

-- constants of one sort are equal in both or in neither
abbrev pub Pairs : List ℕ → Interpretation → Interpretation → Type 0
Pairs sorts m o = (a b s : ℕ) → HasSort sorts s a → HasSort sorts s b → is_true m (same_const a b) ≡ is_true o (same_const a b)

module _ (d : Specification) (sorts : List ℕ) (m o : Interpretation) (pair : Pairs sorts m o) (k : Stage) (ps : List Parameter) (c : Caller) (arguments : (p : ℕ) → is_number (slice_get ps p) ≡ true → m.int (argument c.call p) ≡ o.int (argument c.call p)) where
  -- ---- formulas
  module _ (vars vs : List ℕ) (elem : (s : ℕ) (e : Elem) → is_sort (sort_of d ps vars e) s ≡ true → HasSort sorts s (const_of c vs e)) where
    agree_body : (n : ℤ) (b : Body) → body_typed d ps vars b ≡ true → Each (Agreed m o) (of_sum (part_of_body (at_stage k) c vs n b ∷ [])) → part_value m (part_of_body (at_stage k) c vs n b) ≡ part_value o (part_of_body (at_stage k) c vs n b)
    agree_body n body.One h a = refl
    agree_body n (body.Param p) h a = ap (λ (x : ℤ). n *ℤ x) (arguments p h)
    agree_body n (body.Count i es) h a = ap (λ (x : ℤ). n *ℤ x) a.0

    agree_sum : (ss : List Summand) → list_all (summand_typed d ps vars) ss ≡ true → Each (Agreed m o) (of_sum (map (part_of (at_stage k) c vs) ss)) → sum_value m (map (part_of (at_stage k) c vs) ss) ≡ sum_value o (map (part_of (at_stage k) c vs) ss)
    agree_sum [] h a = refl
    agree_sum (s ∷ ss) h a =
        let h2 = and_parts (summand_typed d ps vars s) (list_all (summand_typed d ps vars) ss) h in
        let one = part_of (at_stage k) c vs s in
        let p = agree_body s.coef s.body (and_parts (in_literal_range s.coef) (body_typed d ps vars s.body) h2.0).1 (alone one (each_left (Agreed m o) (readings_of_part one) (of_sum (map (part_of (at_stage k) c vs) ss)) a)) in
        let q = agree_sum ss h2.1 (each_right (Agreed m o) (readings_of_part one) (of_sum (map (part_of (at_stage k) c vs) ss)) a) in cc
      where
        with_nil : (xs : List Reading) → Each (Agreed m o) xs → Each (Agreed m o) (xs ++ [])
        with_nil [] h = tt
        with_nil (x ∷ xs) h = (h.0, with_nil xs h.1)

        alone : (x : Part) → Each (Agreed m o) (readings_of_part x) → Each (Agreed m o) (of_sum (x ∷ []))
        alone x h = with_nil (readings_of_part x) h

    pub agree_term : (t : Term) → term_typed d ps vars t ≡ true → Each (Agreed m o) (of_sum (parts_of (at_stage k) c vs t)) → sum_value m (parts_of (at_stage k) c vs t) ≡ sum_value o (parts_of (at_stage k) c vs t)
    agree_term t h a = agree_sum t.summands (and_parts _ _ h).1 a

    agree_comparison : (c : Cmp) (t u : List Part) → sum_value m t ≡ sum_value o t → sum_value m u ≡ sum_value o u → is_true m (comparison c t u) ≡ is_true o (comparison c t u)
    agree_comparison Less t u p q = cc
    agree_comparison AtMost t u p q = cc
    agree_comparison Equal t u p q = cc
    agree_comparison Unequal t u p q = cc
    agree_comparison AtLeast t u p q = cc
    agree_comparison Greater t u p q = cc

    both_sums : (P : Reading → Type 0) (c : Cmp) (t u : List Part) → Each P (readings (comparison c t u)) → Each P (of_sum t) × Each P (of_sum u)
    both_sums P Less t u h = (each_left P (of_sum t) (of_sum u) h, each_right P (of_sum t) (of_sum u) h)
    both_sums P AtMost t u h = (each_left P (of_sum t) (of_sum u) h, each_right P (of_sum t) (of_sum u) h)
    both_sums P Equal t u h = (let l = each_left P (of_sum t ++ of_sum u) (of_sum u ++ of_sum t) h in (each_left P (of_sum t) (of_sum u) l, each_right P (of_sum t) (of_sum u) l))
    both_sums P Unequal t u h = (let l = each_left P (of_sum t ++ of_sum u) (of_sum u ++ of_sum t) h in (each_left P (of_sum t) (of_sum u) l, each_right P (of_sum t) (of_sum u) l))
    both_sums P AtLeast t u h = (each_right P (of_sum u) (of_sum t) h, each_left P (of_sum u) (of_sum t) h)
    both_sums P Greater t u h = (each_right P (of_sum u) (of_sum t) h, each_left P (of_sum u) (of_sum t) h)

    agree_same : (a b : Elem) → same_sort (sort_of d ps vars a) (sort_of d ps vars b) ≡ true → is_true m (same_const (const_of c vs a) (const_of c vs b)) ≡ is_true o (same_const (const_of c vs a) (const_of c vs b))
    agree_same a b h = (let s = one_sort (sort_of d ps vars a) (sort_of d ps vars b) h in pair (const_of c vs a) (const_of c vs b) s.0 (elem s.0 a s.1) (elem s.0 b s.2))

    -- a formula whose readings agree is true in both or in neither
    pub agree_form : (f : Form) → form_typed d ps vars f ≡ true → Each (Agreed m o) (readings (formula (at_stage k) c vs f)) → is_true m (formula (at_stage k) c vs f) ≡ is_true o (formula (at_stage k) c vs f)
    agree_form true_form h a = refl
    agree_form false_form h a = refl
    agree_form (not_form f) h a = ap not (agree_form f h a)
    agree_form (and_form f g) h a = (let h2 = and_parts (form_typed d ps vars f) (form_typed d ps vars g) h in let l = readings (formula (at_stage k) c vs f) in let r = readings (formula (at_stage k) c vs g) in let p = agree_form f h2.0 (each_left (Agreed m o) l r a) in let q = agree_form g h2.1 (each_right (Agreed m o) l r a) in cc)
    agree_form (or_form f g) h a = (let h2 = and_parts (form_typed d ps vars f) (form_typed d ps vars g) h in let l = readings (formula (at_stage k) c vs f) in let r = readings (formula (at_stage k) c vs g) in let p = agree_form f h2.0 (each_left (Agreed m o) l r a) in let q = agree_form g h2.1 (each_right (Agreed m o) l r a) in cc)
    agree_form (implies_form f g) h a = (let h2 = and_parts (form_typed d ps vars f) (form_typed d ps vars g) h in let l = readings (formula (at_stage k) c vs f) in let r = readings (formula (at_stage k) c vs g) in let p = agree_form f h2.0 (each_left (Agreed m o) l r a) in let q = agree_form g h2.1 (each_right (Agreed m o) l r a) in cc)
    agree_form (has_form i es) h a = a.0
    agree_form (same_form x y) h a = agree_same x y h
    agree_form (differ_form x y) h a = ap not (agree_same x y h)
    agree_form (compare_form t e u) h a =
        let h2 = and_parts (term_typed d ps vars t) (term_typed d ps vars u) h in
        let n = both_sums (Agreed m o) e (parts_of (at_stage k) c vs t) (parts_of (at_stage k) c vs u) a in
        agree_comparison e (parts_of (at_stage k) c vs t) (parts_of (at_stage k) c vs u) (agree_term t h2.0 n.0) (agree_term u h2.1 n.1)

-- ---- what parts name, taken apart again

module _ (P : Reading → Type 0) where
  both_and_named : (f : Symbolic) (fs : List Symbolic) → Each P (readings (both_and f fs)) → Each P (readings f) × EachOf P fs
  both_and_named f [] h = (h, tt)
  both_and_named f (g ∷ gs) h = (let r = both_and_named (both f g) gs h in (each_left P (readings f) (readings g) r.0, (each_right P (readings f) (readings g) r.0, r.1)))

  parts_named : (fs : List Symbolic) → Each P (readings (all_parts fs)) → EachOf P fs
  parts_named [] h = tt
  parts_named (f ∷ fs) h = both_and_named f fs h

  then_back : (ch : Change) (a e : Symbolic) → Each P (readings (has_then ch a e)) → Each P (readings e)
  then_back Insert a e h = each_right P (readings a) (readings e) h
  then_back Remove a e h = each_right P (readings a) (readings e) h
  then_back (Add n) a e h = h
  then_back (Set n) a e h = h

  sum_back : (t u : List Part) → Each P (of_sum (t ++ u)) → Each P (of_sum u)
  sum_back [] u h = h
  sum_back (x ∷ t) u h = sum_back t u (each_right P (readings_of_part x) (of_sum (t ++ u)) h)

  pub both_of : (Q : Reading → Type 0) (qs : List Reading) → Each P qs → Each (λ q. P q → Q q) qs → Each Q qs
  both_of Q [] h k = tt
  both_of Q (q ∷ qs) h k = (k.0 h.0, both_of Q qs h.1 k.1)

-- typed updates of one thing
abbrev pub UpdatesOf : Specification → List Parameter → Thing → List UpdateLine → Type 0
UpdatesOf d ps x us = list_all (λ u. is_thing u.thing x && is_update d ps u) us ≡ true

pub updates_are_of : (d : Specification) (ps : List Parameter) (x : Thing) (us : List UpdateLine) → list_all (is_update d ps) us ≡ true → UpdatesOf d ps x (updates_of x us)
updates_are_of d ps x [] h = refl
updates_are_of d ps x (u ∷ us) h = (let h2 = and_parts (is_update d ps u) (list_all (is_update d ps) us) h in by_test (is_thing u.thing x) refl h2.0 (updates_are_of d ps x us h2.1))
  where
    by_test : (b : Bool) → is_thing u.thing x ≡ b → is_update d ps u ≡ true → UpdatesOf d ps x (updates_of x us) → UpdatesOf d ps x (cond b (u ∷ updates_of x us) (updates_of x us))
    by_test true e k l = and_from _ _ (and_from (is_thing u.thing x) (is_update d ps u) e k) l
    by_test false e k l = l

module _ (d : Specification) (sorts : List ℕ) (m o : Interpretation) (pair : Pairs sorts m o) (k : Stage) (ps : List Parameter) (c : Caller) (arguments : (p : ℕ) → is_number (slice_get ps p) ≡ true → m.int (argument c.call p) ≡ o.int (argument c.call p)) (elem : (s : ℕ) (e : Elem) → is_sort (sort_of d ps [] e) s ≡ true → HasSort sorts s (const_of c [] e)) where
  spots_agree : (ss : List ℕ) (xs : List Spot) (t : List ℕ) (g : Form) → HaveSorts sorts ss t → spots_typed d ps ss xs ≡ true → form_typed d ps [] g ≡ true → EachOf (Agreed m o) (spots_hold c xs t ++ formula (at_stage k) c [] g ∷ [])
      → all_true m (spots_hold c xs t ++ formula (at_stage k) c [] g ∷ []) ≡ all_true o (spots_hold c xs t ++ formula (at_stage k) c [] g ∷ [])
  spots_agree [] [] [] g so sp h a = (let p = agree_form d sorts m o pair k ps c arguments [] [] elem g h a.0 in cc)
  spots_agree [] [] (y ∷ t) g so sp h a = absurd so
  spots_agree [] (x ∷ xs) t g so sp h a = absurd cc
  spots_agree (s ∷ ss) [] t g so sp h a = absurd cc
  spots_agree (s ∷ ss) (x ∷ xs) [] g so sp h a = absurd so
  spots_agree (s ∷ ss) (Every ∷ xs) (y ∷ t) g so sp h a = spots_agree ss xs t g so.1 sp h a
  spots_agree (s ∷ ss) (One e ∷ xs) (y ∷ t) g so sp h a =
      let sp2 = and_parts (is_sort (sort_of d ps [] e) s) (spots_typed d ps ss xs) sp in
      let p = pair (const_of c [] e) y s (elem s e sp2.0) so.0 in
      let q = spots_agree ss xs t g so.1 sp2.1 h a.1 in cc

  acts_agree : (x : Thing) (t : List ℕ) (u : UpdateLine) → HaveSorts sorts (places_of d x) t → is_thing u.thing x ≡ true → is_update d ps u ≡ true → Each (Agreed m o) (readings (acts_on (at_stage k) c t u)) → is_true m (acts_on (at_stage k) c t u) ≡ is_true o (acts_on (at_stage k) c t u)
  acts_agree x t u so e h a =
      let parts = update_parts d ps u h in
      let fs = spots_hold c u.at t ++ formula (at_stage k) c [] u.guard ∷ [] in
      parts_mean m fs ∙ spots_agree (places_of d u.thing) u.at t u.guard (subst (λ (y : Thing). HaveSorts sorts (places_of d y) t) (sym (thing_is u.thing x e)) so) parts.spots parts.guard (parts_named (Agreed m o) fs a) ∙ sym (parts_mean o fs)

  -- ---- relations
  then_agree : (ch : Change) (a e : Symbolic) → (Each (Agreed m o) (readings a) → is_true m a ≡ is_true o a) → is_true m e ≡ is_true o e → Each (Agreed m o) (readings (has_then ch a e)) → is_true m (has_then ch a e) ≡ is_true o (has_then ch a e)
  then_agree Insert a e f q h = (let p = f (each_left (Agreed m o) (readings a) (readings e) h) in cc)
  then_agree Remove a e f q h = (let p = f (each_left (Agreed m o) (readings a) (readings e) h) in cc)
  then_agree (Add n) a e f q h = q
  then_agree (Set n) a e f q h = q

  updated_back : (P : Reading → Type 0) (t : List ℕ) (us : List UpdateLine) (e : Symbolic) → Each P (readings (has_updated (at_stage k) c t us e)) → Each P (readings e)
  updated_back P t [] e h = h
  updated_back P t (u ∷ us) e h = then_back P u.change (acts_on (at_stage k) c t u) e (updated_back P t us (has_then u.change (acts_on (at_stage k) c t u) e) h)

  updated_agrees : (x : Thing) (t : List ℕ) (us : List UpdateLine) (e : Symbolic) → HaveSorts sorts (places_of d x) t → UpdatesOf d ps x us → is_true m e ≡ is_true o e → Each (Agreed m o) (readings (has_updated (at_stage k) c t us e))
      → is_true m (has_updated (at_stage k) c t us e) ≡ is_true o (has_updated (at_stage k) c t us e)
  updated_agrees x t [] e so h q a = q
  updated_agrees x t (u ∷ us) e so h q a =
      let h2 = and_parts (is_thing u.thing x && is_update d ps u) (list_all (λ u. is_thing u.thing x && is_update d ps u) us) h in
      let h3 = and_parts (is_thing u.thing x) (is_update d ps u) h2.0 in
      updated_agrees x t us (has_then u.change (acts_on (at_stage k) c t u) e) so h2.1
      (then_agree u.change (acts_on (at_stage k) c t u) e (acts_agree x t u so h3.0 h3.1) q (updated_back (Agreed m o) t us (has_then u.change (acts_on (at_stage k) c t u) e) a)) a

  -- a relation's definition that is true in both decides the reading
  pub has_decided : (i : ℕ) (t : List ℕ) (us : List UpdateLine) (h : Symbolic) → HaveSorts sorts (places_of d (thing.Relation i)) t → UpdatesOf d ps (thing.Relation i) (updates_of (thing.Relation i) us)
      → EachOf (λ q. q.stage ≡ k → Agreed m o q) (define_has (at_stage k) c us h i t) → all_true m (define_has (at_stage k) c us h i t) ≡ true → all_true o (define_has (at_stage k) c us h i t) ≡ true → is_true m h ≡ is_true o h
  has_decided i t us h so ty n a b =
      let allowed = allows_stage (λ q. q.stage ≡ k) k (λ x t. refl) in
      let mine = updates_of (thing.Relation i) us in
      let e = has_updated (at_stage k) c t mine (has k i t) in
      let named = both_of (λ q. q.stage ≡ k) (Agreed m o) (readings e) (updated_names (λ q. q.stage ≡ k) (at_stage k) allowed c t mine (has k i t) (refl, tt)) (each_right (λ q. q.stage ≡ k → Agreed m o q) (readings h) (readings e) n.0) in
      let first = updated_back (Agreed m o) t mine (has k i t) named in
      by_tests (is_true m h) (is_true m e) (is_true o h) (is_true o e) a b (updated_agrees (thing.Relation i) t mine (has k i t) so ty first.0 named)
    where
      by_tests : (a b c d : Bool) → ((not a || b) && ((a || not b) && true)) ≡ true → ((not c || d) && ((c || not d) && true)) ≡ true → b ≡ d → a ≡ c
      by_tests a b c d p q e = grind arith

  -- ---- counters
  amount_agrees : (ch : Change) (v : List Part) → AmountTyped d ps ch → Each (Agreed m o) (of_sum (count_then (at_stage k) c ch v)) → sum_value m v ≡ sum_value o v → sum_value m (count_then (at_stage k) c ch v) ≡ sum_value o (count_then (at_stage k) c ch v)
  amount_agrees Insert v h a q = q
  amount_agrees Remove v h a q = q
  amount_agrees (Add n) v h a q = (let p = sum_append m v (parts_of (at_stage k) c [] n) in let r = sum_append o v (parts_of (at_stage k) c [] n) in let e = agree_term d sorts m o pair k ps c arguments [] [] elem n h (sum_back (Agreed m o) v (parts_of (at_stage k) c [] n) a) in cc)
  amount_agrees (Set n) v h a q = agree_term d sorts m o pair k ps c arguments [] [] elem n h a

  -- where the two formulas of an update are true its value is decided
  decided : (n : Interpretation) (p : Symbolic) (next given v : List Part) (rest : List Symbolic) → all_true n (either (negated p) (equal next given) ∷ either p (equal next v) ∷ rest) ≡ true → sum_value n next ≡ cond (is_true n p) (sum_value n given) (sum_value n v)
  decided n p next given v rest h = by_numbers (is_true n p) (sum_value n next) (sum_value n given) (sum_value n v) (all_true n rest) h
    where
      by_numbers : (b : Bool) (x y z : ℤ) (l : Bool) → ((not b || (int_le x (y +ℤ pos 0) && int_le y (x +ℤ pos 0))) && ((b || (int_le x (z +ℤ pos 0) && int_le z (x +ℤ pos 0))) && l)) ≡ true → x ≡ cond b y z
      by_numbers true x y z l h = grind (arith, ints)
      by_numbers false x y z l h = grind (arith, ints)

  -- the readings of an update's condition and amount, of one stage, agree
  module _ (x : Thing) (t : List ℕ) (so : HaveSorts sorts (places_of d x) t) (u : UpdateLine) (of_x : is_thing u.thing x ≡ true) (typed : is_update d ps u ≡ true) (next v : List Part) (named : Each (λ q. q.stage ≡ k → Agreed m o q) (readings (either (negated (acts_on (at_stage k) c t u)) (equal next (count_then (at_stage k) c u.change v))))) where
    condition_agrees : is_true m (acts_on (at_stage k) c t u) ≡ is_true o (acts_on (at_stage k) c t u)
    condition_agrees = acts_agree x t u so of_x typed (both_of (λ q. q.stage ≡ k) (Agreed m o) (readings (acts_on (at_stage k) c t u)) (acts_names (λ q. q.stage ≡ k) (at_stage k) (allows_stage (λ q. q.stage ≡ k) k (λ x t. refl)) c t u)
        (each_left (λ q. q.stage ≡ k → Agreed m o q) (readings (acts_on (at_stage k) c t u)) (readings (equal next (count_then (at_stage k) c u.change v))) named))

    given_agrees : Each (λ q. q.stage ≡ k) (of_sum v) → sum_value m v ≡ sum_value o v → sum_value m (count_then (at_stage k) c u.change v) ≡ sum_value o (count_then (at_stage k) c u.change v)
    given_agrees vn q = amount_agrees u.change v (update_parts d ps u typed).change (both_of (λ q. q.stage ≡ k) (Agreed m o) (of_sum (count_then (at_stage k) c u.change v)) (count_then_names (λ q. q.stage ≡ k) (at_stage k) (allows_stage (λ q. q.stage ≡ k) k (λ x t. refl)) c u.change v vn)
        (each_right (λ q. q.stage ≡ k → Agreed m o q) (of_sum next) (of_sum (count_then (at_stage k) c u.change v)) (each_left (λ q. q.stage ≡ k → Agreed m o q) (of_sum next ++ of_sum (count_then (at_stage k) c u.change v)) (of_sum (count_then (at_stage k) c u.change v) ++ of_sum next)
        (each_right (λ q. q.stage ≡ k → Agreed m o q) (readings (acts_on (at_stage k) c t u)) (readings (equal next (count_then (at_stage k) c u.change v))) named)))) q

  pub values_decided : (x : Thing) (s : Stage) (i : ℕ) (t : List ℕ) (n : ℕ) (v : List Part) (u : UpdateLine) (us : List UpdateLine) → HaveSorts sorts (places_of d x) t → UpdatesOf d ps x (u ∷ us) → Each (λ q. q.stage ≡ k) (of_sum v) → EachOf (λ q. q.stage ≡ k → Agreed m o q) (values_defined (at_stage k) c s i t n v (u ∷ us)) → sum_value m v ≡ sum_value o v
      → all_true m (values_defined (at_stage k) c s i t n v (u ∷ us)) ≡ true → all_true o (values_defined (at_stage k) c s i t n v (u ∷ us)) ≡ true → m.int (reading s i t) ≡ o.int (reading s i t)
  values_decided x s i t n v u [] so ty vn named q a b =
      let parts = and_parts (is_thing u.thing x) (is_update d ps u) (and_parts (is_thing u.thing x && is_update d ps u) true ty).0 in
      let next = multiple (pos 1) (reading s i t) ∷ [] in
      let p = condition_agrees x t so u parts.0 parts.1 next v named.0 in
      let r = given_agrees x t so u parts.0 parts.1 next v named.0 vn q in
      let y = single m (reading s i t) in
      let z = single o (reading s i t) in
      let e = decided m (acts_on (at_stage k) c t u) next (count_then (at_stage k) c u.change v) v [] a in
      let f = decided o (acts_on (at_stage k) c t u) next (count_then (at_stage k) c u.change v) v [] b in cc
  values_decided x s i t n v u (l ∷ us) so ty vn named q a b =
      let ty2 = and_parts (is_thing u.thing x && is_update d ps u) (list_all (λ u. is_thing u.thing x && is_update d ps u) (l ∷ us)) ty in
      let parts = and_parts (is_thing u.thing x) (is_update d ps u) ty2.0 in
      let next = multiple (pos 1) (partial n s i t) ∷ [] in
      let p = condition_agrees x t so u parts.0 parts.1 next v named.0 in
      let r = given_agrees x t so u parts.0 parts.1 next v named.0 vn q in
      let rest = values_defined (at_stage k) c s i t (suc n) next (l ∷ us) in
      let e = decided m (acts_on (at_stage k) c t u) next (count_then (at_stage k) c u.change v) v rest a in
      let f = decided o (acts_on (at_stage k) c t u) next (count_then (at_stage k) c u.change v) v rest b in
      let g : sum_value m next ≡ sum_value o next = cc in
      values_decided x s i t (suc n) next l us so ty2.1 tt named.1.1 g (and_parts _ (all_true m rest) (and_parts _ _ a).1).1 (and_parts _ (all_true o rest) (and_parts _ _ b).1).1
