use Rattle.std.proofs.Common.{◌≡◌, ℕ, zero, suc, ◌<◌, ℤ, pos, true, ◌&&◌, ◌==◌, nat_lt, nat_le, unsigned_abs, cond, List, [], ◌∷◌, length, map, Option, None, Some, refl, sym, ◌∙◌, ap, subst, arith}
use Rattle.std.specs.Prelude.{slice_get, slice_index, slice_index_or, option_map, int_le}
use Rattle.std.proofs.lemmas.Bool.Decides.{nat_tests}
use Rattle.std.specs.List.{list_all}
use Rattle.spec_core.specs.declared.formula.Elem.{Elem}
use Rattle.spec_core.specs.declared.formula.Elem.TheVariants.{Const, Param, Var}
use Rattle.spec_core.specs.declared.formula.Body.{Body}
use Rattle.spec_core.specs.declared.formula.Body.TheVariants as body
use Rattle.spec_core.specs.declared.formula.Summand.{Summand}
use Rattle.spec_core.specs.declared.formula.Term.{Term}
use Rattle.spec_core.specs.declared.operation.Kind.{Kind}
use Rattle.spec_core.specs.declared.operation.Kind.TheVariants.{Sort, Int}
use Rattle.spec_core.specs.declared.operation.Param.{Param as Parameter}
use Rattle.spec_core.specs.declared.spec.Const.{Const as Constant}
use Rattle.spec_core.specs.declared.world.World.{World}
use Rattle.spec_core.specs.Limits.{most_summands, most_nodes, most_depth, most_variables}
use Rattle.spec_core.specs.Form.{Form, true_form, false_form, not_form, and_form, or_form, implies_form, has_form, same_form, differ_form, compare_form}
use Rattle.spec_core.specs.Line.{Line}
use Rattle.spec_core.specs.Specification.{Specification, relation_places, counter_keys}
use Rattle.spec_core.specs.World.{size_of}
use Rattle.spec_core.specs.Truth.{elem_of, elems_of}
use Rattle.spec_core.specs.Fits.{fits_places, is_world, is_argument, are_arguments, in_literal_range, elem_exists, elems_fit, body_fits, summand_fits, term_fits, form_fits, is_plain, line_fits}
use Rattle.spec_core.specs.Typed.{sort_of_kind, sort_of_param, sort_of, is_sort, same_sort, elems_typed, is_number, body_typed, summand_typed, term_typed, form_typed, nodes, depth, is_formula, are_sorts, is_line}
use Rattle.std.proofs.lemmas.Bool.{and_parts, and_from}
use Rattle.spec_core.proofs.Choosing.{all_tuples}

-- What is typed by sorts fits at every world, arguments and variables of these sorts.

-- an element exists, and is below the size of a sort
abbrev pub StandsAt : World → List ℤ → List ℕ → ℕ → Elem → Type 0
StandsAt w args vars s e = (elem_exists w args vars e ≡ true) × (nat_lt (elem_of w args vars e) (size_of w s) ≡ true)

test : (a n : ℕ) → a < n → nat_lt a n ≡ true
test a n h = grind (arith, nat_tests)

both_below : (w : World) (s e n m : ℕ) → nat_lt n m ≡ true → (nat_lt n m ≡ true) × (nat_lt n m ≡ true)
both_below w s e n m h = (h, h)

-- the element at a place of a list that fits
place_fits : (w : World) (ss es : List ℕ) (n s : ℕ) → fits_places w ss es ≡ true → is_sort (slice_get ss n) s ≡ true → (nat_lt n (length es) ≡ true) × (nat_lt (slice_index es n) (size_of w s) ≡ true)
place_fits w [] [] n s h k = absurd cc
place_fits w [] (e ∷ es) n s h k = absurd cc
place_fits w (t ∷ ss) [] n s h k = absurd cc
place_fits w (t ∷ ss) (e ∷ es) zero s h k = (let p : 0 < suc (length es) = omega arith in test 0 (length (e ∷ es)) p, let q : t ≡ s = grind (arith, nat_tests) in subst (λ x. nat_lt e (size_of w x) ≡ true) q (and_parts (nat_lt e (size_of w t)) (fits_places w ss es) h).0)
place_fits w (t ∷ ss) (e ∷ es) (suc n) s h k =
    let p = place_fits w ss es n s (and_parts (nat_lt e (size_of w t)) (fits_places w ss es) h).1 k in
    (let l : suc n < suc (length es) = grind (arith, nat_tests, p.0) in test (suc n) (length (e ∷ es)) l, p.1)

const_sorts : (cs : List Constant) (n : ℕ) → option_map (λ (c : Constant). c.sort) (slice_get cs n) ≡ slice_get (map (λ (c : Constant). c.sort) cs) n
const_sorts [] n = refl
const_sorts (c ∷ cs) zero = refl
const_sorts (c ∷ cs) (suc n) = const_sorts cs n

-- an argument for a parameter of a sort
argument_fits : (w : World) (ps : List Parameter) (ns : List ℤ) (n s : ℕ) → are_arguments w ps ns ≡ true → is_sort (sort_of_param (slice_get ps n)) s ≡ true
    → (nat_lt n (length ns) ≡ true) × (nat_lt (unsigned_abs (slice_index_or ns n (pos 0))) (size_of w s) ≡ true)
argument_fits w [] [] n s h k = absurd cc
argument_fits w [] (m ∷ ns) n s h k = absurd cc
argument_fits w (p ∷ ps) [] n s h k = absurd cc
argument_fits w (p ∷ ps) (m ∷ ns) zero s h k = (let l : 0 < suc (length ns) = omega arith in test 0 (length (m ∷ ns)) l, at_kind p.kind (and_parts (is_argument w p.kind m) (are_arguments w ps ns) h).0 k)
  where
    at_kind : (kind : Kind) → is_argument w kind m ≡ true → is_sort (sort_of_kind kind) s ≡ true → nat_lt (unsigned_abs m) (size_of w s) ≡ true
    at_kind (Sort t) a b = let q : t ≡ s = grind (arith, nat_tests) in subst (λ x. nat_lt (unsigned_abs m) (size_of w x) ≡ true) q (and_parts (int_le (pos 0) m) (nat_lt (unsigned_abs m) (size_of w t)) a).1
    at_kind Int a b = absurd cc
argument_fits w (p ∷ ps) (m ∷ ns) (suc n) s h k =
    let r = argument_fits w ps ns n s (and_parts (is_argument w p.kind m) (are_arguments w ps ns) h).1 k in
    (let l : suc n < suc (length ns) = grind (arith, nat_tests, r.0) in test (suc n) (length (m ∷ ns)) l, r.1)

param_exists : (w : World) (ps : List Parameter) (ns : List ℤ) (n : ℕ) → are_arguments w ps ns ≡ true → is_number (slice_get ps n) ≡ true → nat_lt n (length ns) ≡ true
param_exists w [] [] n h k = absurd cc
param_exists w [] (m ∷ ns) n h k = absurd cc
param_exists w (p ∷ ps) [] n h k = absurd cc
param_exists w (p ∷ ps) (m ∷ ns) zero h k = let l : 0 < suc (length ns) = omega arith in test 0 (length (m ∷ ns)) l
param_exists w (p ∷ ps) (m ∷ ns) (suc n) h k =
    let r = param_exists w ps ns n (and_parts (is_argument w p.kind m) (are_arguments w ps ns) h).1 k in
    let l : suc n < suc (length ns) = grind (arith, nat_tests, r) in test (suc n) (length (m ∷ ns)) l

module _ (d : Specification) (w : World) (world : is_world d w ≡ true) (params : List Parameter) (args : List ℤ) (fit : are_arguments w params args ≡ true) where
  pub stands : (vars vs : List ℕ) → fits_places w vars vs ≡ true → (s : ℕ) (e : Elem) → is_sort (sort_of d params vars e) s ≡ true → StandsAt w args vs s e
  stands vars vs h s (Const n) k = place_fits w (map (λ c. c.sort) d.consts) w.consts n s (and_parts _ _ world).1 (ap (λ (o : Option ℕ). is_sort o s) (sym (const_sorts d.consts n)) ∙ k)
  stands vars vs h s (Param n) k = argument_fits w params args n s fit k
  stands vars vs h s (Var n) k = place_fits w vars vs n s h k

  pub elems_fit_typed : (vars vs : List ℕ) → fits_places w vars vs ≡ true → (ss : List ℕ) (es : List Elem) → elems_typed d params vars ss es ≡ true → elems_fit w args vs ss es ≡ true
  elems_fit_typed vars vs h [] [] k = refl
  elems_fit_typed vars vs h [] (e ∷ es) k = absurd cc
  elems_fit_typed vars vs h (s ∷ ss) [] k = absurd cc
  elems_fit_typed vars vs h (s ∷ ss) (e ∷ es) k =
      let p = and_parts (is_sort (sort_of d params vars e) s) (elems_typed d params vars ss es) k in
      let one = stands vars vs h s e p.0 in
      let rest = and_parts (list_all (elem_exists w args vs) es) (fits_places w ss (elems_of w args vs es)) (elems_fit_typed vars vs h ss es p.1) in
      and_from _ _ (and_from _ _ one.0 rest.0) (and_from _ _ one.1 rest.1)

  same_exist : (vars vs : List ℕ) → fits_places w vars vs ≡ true → (a b : Elem) → same_sort (sort_of d params vars a) (sort_of d params vars b) ≡ true → (elem_exists w args vs a && elem_exists w args vs b) ≡ true
  same_exist vars vs h a b k = at (sort_of d params vars a) refl k
    where
      refl_sort : (s : ℕ) → is_sort (Some s) s ≡ true
      refl_sort s = grind (arith, nat_tests)

      at : (o : Option ℕ) → sort_of d params vars a ≡ o → same_sort o (sort_of d params vars b) ≡ true → (elem_exists w args vs a && elem_exists w args vs b) ≡ true
      at None e k = absurd cc
      at (Some s) e k = and_from _ _ (stands vars vs h s a (ap (λ (o : Option ℕ). is_sort o s) e ∙ refl_sort s)).0 (stands vars vs h s b k).0

  pub body_fits_typed : (vars vs : List ℕ) → fits_places w vars vs ≡ true → (b : Body) → body_typed d params vars b ≡ true → body_fits d w args vs b ≡ true
  body_fits_typed vars vs h body.One k = refl
  body_fits_typed vars vs h (body.Param n) k = param_exists w params args n fit k
  body_fits_typed vars vs h (body.Count c es) k =
      let p = and_parts (nat_lt c (length d.counters)) (elems_typed d params vars (counter_keys d c) es) k in
      and_from _ _ p.0 (elems_fit_typed vars vs h (counter_keys d c) es p.1)

  summands_fit : (vars vs : List ℕ) → fits_places w vars vs ≡ true → (ss : List Summand) → list_all (summand_typed d params vars) ss ≡ true → list_all (summand_fits d w args vs) ss ≡ true
  summands_fit vars vs h [] k = refl
  summands_fit vars vs h (s ∷ ss) k =
      let p = and_parts (summand_typed d params vars s) (list_all (summand_typed d params vars) ss) k in
      let q = and_parts (in_literal_range s.coef) (body_typed d params vars s.body) p.0 in
      and_from _ _ (and_from _ _ q.0 (body_fits_typed vars vs h s.body q.1)) (summands_fit vars vs h ss p.1)

  pub term_fits_typed : (vars vs : List ℕ) → fits_places w vars vs ≡ true → (t : Term) → term_typed d params vars t ≡ true → term_fits d w args vs t ≡ true
  term_fits_typed vars vs h t k =
      let p = and_parts (nat_le (length t.summands) most_summands) (list_all (summand_typed d params vars) t.summands) k in
      and_from _ _ p.0 (summands_fit vars vs h t.summands p.1)

  pub form_fits_typed : (vars vs : List ℕ) → fits_places w vars vs ≡ true → (f : Form) → form_typed d params vars f ≡ true → form_fits d w args vs f ≡ true
  form_fits_typed vars vs h true_form k = refl
  form_fits_typed vars vs h false_form k = refl
  form_fits_typed vars vs h (not_form f) k = form_fits_typed vars vs h f k
  form_fits_typed vars vs h (and_form f g) k = let p = and_parts (form_typed d params vars f) (form_typed d params vars g) k in and_from _ _ (form_fits_typed vars vs h f p.0) (form_fits_typed vars vs h g p.1)
  form_fits_typed vars vs h (or_form f g) k = let p = and_parts (form_typed d params vars f) (form_typed d params vars g) k in and_from _ _ (form_fits_typed vars vs h f p.0) (form_fits_typed vars vs h g p.1)
  form_fits_typed vars vs h (implies_form f g) k = let p = and_parts (form_typed d params vars f) (form_typed d params vars g) k in and_from _ _ (form_fits_typed vars vs h f p.0) (form_fits_typed vars vs h g p.1)
  form_fits_typed vars vs h (has_form r es) k =
      let p = and_parts (nat_lt r (length d.relations)) (elems_typed d params vars (relation_places d r) es) k in
      and_from _ _ p.0 (elems_fit_typed vars vs h (relation_places d r) es p.1)
  form_fits_typed vars vs h (same_form a b) k = same_exist vars vs h a b k
  form_fits_typed vars vs h (differ_form a b) k = same_exist vars vs h a b k
  form_fits_typed vars vs h (compare_form t c u) k = let p = and_parts (term_typed d params vars t) (term_typed d params vars u) k in and_from _ _ (term_fits_typed vars vs h t p.0) (term_fits_typed vars vs h u p.1)

  pub formula_fits : (vars vs : List ℕ) → fits_places w vars vs ≡ true → (f : Form) → is_formula d params vars f ≡ true → form_fits d w args vs f ≡ true
  formula_fits vars vs h f k = form_fits_typed vars vs h f (and_parts (nat_le (nodes f) most_nodes && nat_le (depth f) most_depth) (form_typed d params vars f) k).1

  -- a line of the specification fits at arguments of its operation
  pub line_fits_typed : (l : Line) → is_line d params l ≡ true → line_fits d w args l ≡ true
  line_fits_typed l k =
      let p = and_parts (are_sorts d (cond (is_plain l.prefix) 0 most_variables) l.vars) (is_formula d params l.vars l.body) k in
      let e : length w.sizes ≡ length d.sorts = let q = (and_parts (length w.sizes == length d.sorts) (fits_places w (map (λ c. c.sort) d.consts) w.consts) world).0 in grind (arith, nat_tests) in
      and_from _ _ (subst (λ n. (nat_le (length l.vars) (cond (is_plain l.prefix) 0 most_variables) && list_all (λ s. nat_lt s n) l.vars) ≡ true) (sym e) p.0)
      (all_tuples w l.vars (λ vars. form_fits d w args vars l.body) (λ vs h. formula_fits l.vars vs h l.body p.1))
