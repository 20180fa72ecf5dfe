-- A formula at constants means the formula at their values.
use Rattle.std.proofs.Common.{◌≡◌, ℕ, zero, suc, ◌<◌, ltb, ◌==◌, ℤ, pos, ◌+ℤ◌, ◌*ℤ◌, unsigned_abs, Bool, true, false, not, cond, ◌&&◌, Option, None, Some, option_map, unwrap_or, List, [], ◌∷◌, map, length, get_or, slice_get, slice_index, slice_index_or, filter, refl, sym, ◌∙◌, ap, arith}
use Rattle.std.specs.List.{list_all}
use Rattle.std.proofs.lemmas.Bool.{and_parts}
use Rattle.std.proofs.lemmas.Bool.Decides.{nat_tests}
use Rattle.std.proofs.lemmas.Int.{ints}
use Rattle.spec_core.specs.declared.formula.Elem.{Elem}
use Rattle.spec_core.specs.declared.formula.Elem.TheVariants.{Const, Param, Var}
use Rattle.spec_core.specs.declared.formula.Cmp.{Cmp}
use Rattle.spec_core.specs.declared.formula.Cmp.TheVariants.{Less, AtMost, Equal, Unequal, AtLeast, Greater}
use Rattle.spec_core.specs.declared.formula.Body.{Body}
use Rattle.spec_core.specs.declared.formula.Body.TheVariants as body
use Rattle.spec_core.specs.declared.formula.Summand.{Summand}
use Rattle.spec_core.specs.declared.formula.Term.{Term}
use Rattle.spec_core.specs.declared.operation.Param.{Param as Parameter}
use Rattle.spec_core.specs.declared.update.Thing.{Thing}
use Rattle.spec_core.specs.declared.update.Thing.TheVariants as thing
use Rattle.spec_core.specs.declared.update.Change.{Change}
use Rattle.spec_core.specs.declared.update.Change.TheVariants.{Insert, Remove, Add, Set}
use Rattle.spec_core.specs.declared.world.World.{World}
use Rattle.spec_core.specs.Form.{Form, true_form, false_form, not_form, and_form, or_form, implies_form, has_form, same_form, differ_form, compare_form}
use Rattle.spec_core.specs.UpdateLine.{UpdateLine}
use Rattle.spec_core.specs.Specification.{Specification, relation_places, counter_keys, places_of}
use Rattle.spec_core.specs.State.{Reads}
use Rattle.spec_core.specs.Truth.{elem_of, elems_of, body_of, sum_of, term_of, compare_of, truth}
use Rattle.spec_core.specs.Fits.{in_literal_range}
use Rattle.spec_core.specs.Typed.{sort_of_param, sort_of, is_sort, same_sort, elems_typed, is_number, body_typed, summand_typed, term_typed, form_typed, is_formula, spots_typed, change_typed, is_update}
use Rattle.effectors.specs.Effect.{spots_match, is_thing, has_changed, has_after, count_changed, count_after}
use Rattle.ground_problem.specs.Symbols.{argument, Part, always, same, Interpretation, part_value, sum_value, is_true, same_const}
use Rattle.ground_problem.specs.Formulas.{Caller, Readings, const_of, consts_of, part_of_body, part_of, parts_of, comparison, formula}
use Rattle.ground_problem.specs.Definitions.{updates_of}

-- ---- what stands for what

-- symbolic readings that show readings, at the values of the constants
pub record Shows (m : Interpretation) (val : ℕ → ℕ) (s : Readings) (r : Reads) : Type 0 where
  pub has : (k : ℕ) (t : List ℕ) → is_true m (s.has k t) ≡ r.has k (map val t)
  pub count : (n : ℤ) (i : ℕ) (t : List ℕ) → part_value m (s.count n i t) ≡ n *ℤ r.count i (map val t)

-- a caller that stands for a call with these parameters and arguments
pub record StandsFor (m : Interpretation) (val : ℕ → ℕ) (params : List Parameter) (z : Caller) (args : List ℤ) : Type 0 where
  pub elements : (n s : ℕ) → is_sort (sort_of_param (slice_get params n)) s ≡ true → val (unwrap_or (get_or z.params n None) 0) ≡ unsigned_abs (slice_index_or args n (pos 0))
  pub ints : (n : ℕ) → is_number (slice_get params n) ≡ true → m.int (argument z.call n) ≡ slice_index_or args n (pos 0)

-- values of the constants: those of the world for the declared ones, and equal where the interpretation says so
pub record Values (d : Specification) (m : Interpretation) (val : ℕ → ℕ) (w : World) : Type 0 where
  pub consts : (n s : ℕ) → is_sort (option_map (λ c. c.sort) (slice_get d.consts n)) s ≡ true → val n ≡ slice_index w.consts n
  pub same : (a b : ℕ) → m.same a b ≡ (val a == val b)

-- ---- numbers and lists

pub map_at : (f : ℕ → ℕ) (xs : List ℕ) (n : ℕ) → n < length xs → slice_index (map f xs) n ≡ f (slice_index xs n)
map_at f [] n h = absurd (omega arith)
map_at f (x ∷ xs) zero h = refl
map_at f (x ∷ xs) (suc n) h = map_at f xs n (omega arith)

pub sort_within : (ss : List ℕ) (n s : ℕ) → is_sort (slice_get ss n) s ≡ true → n < length ss
sort_within [] n s h = absurd cc
sort_within (t ∷ ss) zero s h = omega arith
sort_within (t ∷ ss) (suc n) s h = let p = sort_within ss n s h in omega arith

pub eq_swap : (a b : ℕ) → (a == b) ≡ (b == a)
eq_swap a b = grind (arith, nat_tests)

eq_same : (a : ℕ) → (a == a) ≡ true
eq_same a = grind (arith, nat_tests)

eq_true : (a b : ℕ) → (a == b) ≡ true → a ≡ b
eq_true a b h = grind (arith, nat_tests)

plus_zero : (a : ℤ) → a +ℤ pos 0 ≡ a
plus_zero a = omega (arith, ints)

times_one : (a : ℤ) → pos 1 *ℤ a ≡ a
times_one a = omega (arith, ints)

one_times : (a : ℤ) → a ≡ a *ℤ pos 1
one_times a = omega (arith, ints)

same_true : (a : ℕ) → is_sort (Some a) a ≡ true
same_true a = grind (arith, nat_tests)

-- two elements that are compared have a sort
pub one_sort : (a b : Option ℕ) → same_sort a b ≡ true → (s : ℕ) × (is_sort a s ≡ true) × (is_sort b s ≡ true)
one_sort None b h = absurd cc
one_sort (Some s) b h = (s, same_true s, h)

-- ---- the effect over the updates of one thing

abbrev pub matches : World → Reads → List ℤ → List ℕ → UpdateLine → Bool
matches w r args t u = spots_match w args u.at t && truth w r args [] u.guard

abbrev pub has_over : World → Reads → List ℤ → List ℕ → List UpdateLine → Bool → Bool
has_over w r args t [] b = b
has_over w r args t (u ∷ us) b = has_over w r args t us (cond (matches w r args t u) (has_changed u.change b) b)

abbrev pub count_over : World → Reads → List ℤ → List ℕ → List UpdateLine → ℤ → ℤ
count_over w r args t [] v = v
count_over w r args t (u ∷ us) v = count_over w r args t us (cond (matches w r args t u) (count_changed w r args u.change v) v)

-- what the first of some updates leave
abbrev pub count_first : World → Reads → List ℤ → List ℕ → ℕ → List UpdateLine → ℤ → ℤ
count_first w r args t zero us x = x
count_first w r args t (suc n) [] x = x
count_first w r args t (suc n) (u ∷ us) x = count_first w r args t n us (cond (matches w r args t u) (count_changed w r args u.change x) x)

pub has_after-over : (w : World) (r : Reads) (args : List ℤ) (k : ℕ) (t : List ℕ) (us : List UpdateLine) (b : Bool) → has_after w r args k t us b ≡ has_over w r args t (updates_of (thing.Relation k) us) b
has_after-over w r args k t [] b = refl
has_after-over w r args k t (u ∷ us) b = by_test (is_thing u.thing (thing.Relation k)) (λ x. has_after-over w r args k t us x)
  where
    by_test : (p : Bool) → ((x : Bool) → has_after w r args k t us x ≡ has_over w r args t (updates_of (thing.Relation k) us) x)
        → has_after w r args k t us (cond (p && matches w r args t u) (has_changed u.change b) b) ≡ has_over w r args t (cond p (u ∷ updates_of (thing.Relation k) us) (updates_of (thing.Relation k) us)) b
    by_test true h = h (cond (matches w r args t u) (has_changed u.change b) b)
    by_test false h = h b

pub count_after-over : (w : World) (r : Reads) (args : List ℤ) (k : ℕ) (t : List ℕ) (us : List UpdateLine) (v : ℤ) → count_after w r args k t us v ≡ count_over w r args t (updates_of (thing.Counter k) us) v
count_after-over w r args k t [] v = refl
count_after-over w r args k t (u ∷ us) v = by_test (is_thing u.thing (thing.Counter k)) (λ x. count_after-over w r args k t us x)
  where
    by_test : (p : Bool) → ((x : ℤ) → count_after w r args k t us x ≡ count_over w r args t (updates_of (thing.Counter k) us) x)
        → count_after w r args k t us (cond (p && matches w r args t u) (count_changed w r args u.change v) v) ≡ count_over w r args t (cond p (u ∷ updates_of (thing.Counter k) us) (updates_of (thing.Counter k) us)) v
    by_test true h = h (cond (matches w r args t u) (count_changed w r args u.change v) v)
    by_test false h = h v

pub all_filter : {X : Type 0} (p q : X → Bool) (xs : List X) → list_all p xs ≡ true → list_all p (filter q xs) ≡ true
all_filter p q [] h = refl
all_filter p q (x ∷ xs) h = (let h2 = and_parts (p x) (list_all p xs) h in by_test (q x) h2.0 (all_filter p q xs h2.1))
  where
    by_test : (b : Bool) → p x ≡ true → list_all p (filter q xs) ≡ true → list_all p (cond b (x ∷ filter q xs) (filter q xs)) ≡ true
    by_test true a k = grind arith
    by_test false a k = k

-- the amount of an update is typed
abbrev pub AmountTyped : Specification → List Parameter → Change → Type 0
AmountTyped d ps Insert = Unit {0}
AmountTyped d ps Remove = Unit {0}
AmountTyped d ps (Add n) = term_typed d ps [] n ≡ true
AmountTyped d ps (Set n) = term_typed d ps [] n ≡ true

pub amount_typed : (d : Specification) (ps : List Parameter) (x : Thing) (ch : Change) → change_typed d ps x ch ≡ true → AmountTyped d ps ch
amount_typed d ps x Insert h = tt
amount_typed d ps x Remove h = tt
amount_typed d ps (thing.Relation k) (Add n) h = absurd cc
amount_typed d ps (thing.Relation k) (Set n) h = absurd cc
amount_typed d ps (thing.Counter k) (Add n) h = (and_parts _ _ h).1
amount_typed d ps (thing.Counter k) (Set n) h = (and_parts _ _ h).1

pub record UpdateParts (d : Specification) (ps : List Parameter) (u : UpdateLine) : Type 0 where
  pub change : AmountTyped d ps u.change
  pub spots : spots_typed d ps (places_of d u.thing) u.at ≡ true
  pub guard : form_typed d ps [] u.guard ≡ true

pub update_parts : (d : Specification) (ps : List Parameter) (u : UpdateLine) → is_update d ps u ≡ true → UpdateParts d ps u
update_parts d ps u h =
    let p = and_parts (change_typed d ps u.thing u.change && spots_typed d ps (places_of d u.thing) u.at) (is_formula d ps [] u.guard) h in
    let q = and_parts (change_typed d ps u.thing u.change) (spots_typed d ps (places_of d u.thing) u.at) p.0 in
    record { change = amount_typed d ps u.thing u.change q.0; spots = q.1; guard = (and_parts _ _ p.1).1 }

-- ---- formulas

module _ (d : Specification) (m : Interpretation) (val : ℕ → ℕ) (w : World) (v : Values d m val w) where
  pub same_means : (a b : ℕ) → is_true m (same_const a b) ≡ (val a == val b)
  same_means a b = by_test (a == b) (ltb a b) refl
    where
      by_test : (p q : Bool) → (a == b) ≡ p → is_true m (cond p (always true) (cond q (same a b) (same b a))) ≡ (val a == val b)
      by_test true q e = sym (ap (λ x. val a == val x) (sym (eq_true a b e)) ∙ eq_same (val a))
      by_test false true e = v.same a b
      by_test false false e = v.same b a ∙ eq_swap (val b) (val a)

  module _ (ps : List Parameter) (z : Caller) (args : List ℤ) (st : StandsFor m val ps z args) where
    -- constants for variables of these sorts
    module _ (vars vs : List ℕ) (few : length vs ≡ length vars) where
      pub elem_means : (s : ℕ) (e : Elem) → is_sort (sort_of d ps vars e) s ≡ true → val (const_of z vs e) ≡ elem_of w args (map val vs) e
      elem_means s (Const n) h = v.consts n s h
      elem_means s (Param n) h = st.elements n s h
      elem_means s (Var n) h = sym (map_at val vs n (let e = few in let p = sort_within vars n s h in omega arith))

      pub elems_mean : (ss : List ℕ) (es : List Elem) → elems_typed d ps vars ss es ≡ true → map val (consts_of z vs es) ≡ elems_of w args (map val vs) es
      elems_mean [] [] h = refl
      elems_mean [] (e ∷ es) h = absurd cc
      elems_mean (s ∷ ss) [] h = absurd cc
      elems_mean (s ∷ ss) (e ∷ es) h = let h2 = and_parts (is_sort (sort_of d ps vars e) s) (elems_typed d ps vars ss es) h in let p = elem_means s e h2.0 in let q = elems_mean ss es h2.1 in cc

      module _ (rs : Readings) (r : Reads) (sh : Shows m val rs r) where
        body_means : (k : ℤ) (b : Body) → body_typed d ps vars b ≡ true → part_value m (part_of_body rs z vs k b) ≡ k *ℤ body_of w r args (map val vs) b
        body_means k body.One h = one_times k
        body_means k (body.Param n) h = ap (λ (x : ℤ). k *ℤ x) (st.ints n h)
        body_means k (body.Count i es) h = sh.count k i (consts_of z vs es) ∙ ap (λ t. k *ℤ r.count i t) (elems_mean (counter_keys d i) es (and_parts _ _ h).1)

        sum_means : (ss : List Summand) → list_all (summand_typed d ps vars) ss ≡ true → sum_value m (map (part_of rs z vs) ss) ≡ sum_of w r args (map val vs) ss
        sum_means [] h = refl
        sum_means (s ∷ ss) h = let h2 = and_parts (summand_typed d ps vars s) (list_all (summand_typed d ps vars) ss) h in let p = body_means s.coef s.body (and_parts (in_literal_range s.coef) (body_typed d ps vars s.body) h2.0).1 in let q = sum_means ss h2.1 in cc

        pub term_means : (t : Term) → term_typed d ps vars t ≡ true → sum_value m (parts_of rs z vs t) ≡ term_of w r args (map val vs) t
        term_means t h = sum_means t.summands (and_parts _ _ h).1

        compare_means : (c : Cmp) (t u : List Part) (a b : ℤ) → sum_value m t ≡ a → sum_value m u ≡ b → is_true m (comparison c t u) ≡ compare_of c a b
        compare_means Less t u a b p q = grind (arith, ints)
        compare_means AtMost t u a b p q = grind (arith, ints)
        compare_means Equal t u a b p q = grind (arith, ints)
        compare_means Unequal t u a b p q = grind (arith, ints)
        compare_means AtLeast t u a b p q = grind (arith, ints)
        compare_means Greater t u a b p q = grind (arith, ints)

        same_form_means : (a b : Elem) → same_sort (sort_of d ps vars a) (sort_of d ps vars b) ≡ true → is_true m (same_const (const_of z vs a) (const_of z vs b)) ≡ (elem_of w args (map val vs) a == elem_of w args (map val vs) b)
        same_form_means a b h = (let o = one_sort (sort_of d ps vars a) (sort_of d ps vars b) h in let p = elem_means o.0 a o.1 in let q = elem_means o.0 b o.2 in same_means (const_of z vs a) (const_of z vs b) ∙ cc)

        pub form_means : (f : Form) → form_typed d ps vars f ≡ true → is_true m (formula rs z vs f) ≡ truth w r args (map val vs) f
        form_means true_form h = refl
        form_means false_form h = refl
        form_means (not_form f) h = ap not (form_means f h)
        form_means (and_form f g) h = let k = and_parts (form_typed d ps vars f) (form_typed d ps vars g) h in let p = form_means f k.0 in let q = form_means g k.1 in cc
        form_means (or_form f g) h = let k = and_parts (form_typed d ps vars f) (form_typed d ps vars g) h in let p = form_means f k.0 in let q = form_means g k.1 in cc
        form_means (implies_form f g) h = let k = and_parts (form_typed d ps vars f) (form_typed d ps vars g) h in let p = form_means f k.0 in let q = form_means g k.1 in cc
        form_means (has_form k es) h = sh.has k (consts_of z vs es) ∙ ap (r.has k) (elems_mean (relation_places d k) es (and_parts _ _ h).1)
        form_means (same_form a b) h = same_form_means a b h
        form_means (differ_form a b) h = ap not (same_form_means a b h)
        form_means (compare_form t c u) h = (let k = and_parts (term_typed d ps vars t) (term_typed d ps vars u) h in compare_means c (parts_of rs z vs t) (parts_of rs z vs u) _ _ (term_means t k.0) (term_means u k.1))
