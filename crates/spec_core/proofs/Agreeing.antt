-- What a specification means at readings depends on the readings at fitting tuples and keys alone.
use Rattle.std.proofs.Common.{◌≡◌, ℕ, ◌<◌, ℤ, Bool, true, not, cond, ◌&&◌, ◌||◌, ◌+ℤ◌, ◌*ℤ◌, nat_lt, List, [], ◌∷◌, length, map, Some, ◌+◌, refl, ◌∙◌, ap, arith}
use Rattle.std.proofs.lemmas.Bool.{and_parts}
use Rattle.std.proofs.lemmas.Bool.Decides.{nat_tests}
use Rattle.std.proofs.lemmas.List.Folds.{list_all-map}
use Rattle.std.specs.List.{list_all, list_any, position_from}
use Rattle.spec_core.specs.declared.formula.Body.{Body}
use Rattle.spec_core.specs.declared.formula.Body.TheVariants as body
use Rattle.spec_core.specs.declared.formula.Elem.{Elem}
use Rattle.spec_core.specs.declared.formula.Summand.{Summand}
use Rattle.spec_core.specs.declared.formula.Term.{Term}
use Rattle.spec_core.specs.declared.spec.Invariant.{Invariant}
use Rattle.spec_core.specs.declared.world.World.{World}
use Rattle.spec_core.specs.declared.world.Call.{Call}
use Rattle.spec_core.specs.Form.{Form, true_form, false_form, not_form, and_form, or_form, implies_form, has_form, same_form, differ_form, compare_form}
use Rattle.spec_core.specs.Line.{Line}
use Rattle.spec_core.specs.Specification.{Specification, relation_places, counter_keys, op_of}
use Rattle.spec_core.specs.State.{Reads}
use Rattle.spec_core.specs.World.{tuples}
use Rattle.spec_core.specs.Truth.{elems_of, body_of, sum_of, term_of, compare_of, truth, is_exists, line_true, lines_true}
use Rattle.spec_core.specs.Meaning.{inv, pre, observed, broken_at, first_false}
use Rattle.spec_core.specs.Fits.{fits_places, is_world, is_call, in_literal_range, elem_exists, elems_fit, body_fits, summand_fits, term_fits, form_fits, vars_fit, line_fits, AgreeOn}
use Rattle.spec_core.specs.Typed.{is_specification}
use Rattle.spec_core.proofs.Operations.{call_parts, invariants_fit}

below_length : (n m : ℕ) → nat_lt n m ≡ true → n < m
below_length n m h = grind (arith, nat_tests)

same_all : {X : Type 0} (p q : X → Bool) (f : X → Bool) → ((x : X) → f x ≡ true → p x ≡ q x) → (xs : List X) → list_all f xs ≡ true → list_all p xs ≡ list_all q xs
same_all p q f h [] k = refl
same_all p q f h (x ∷ xs) k = let a = and_parts (f x) (list_all f xs) k in λ i. h x a.0 i && same_all p q f h xs a.1 i

same_any : {X : Type 0} (p q : X → Bool) (f : X → Bool) → ((x : X) → f x ≡ true → p x ≡ q x) → (xs : List X) → list_all f xs ≡ true → list_any p xs ≡ list_any q xs
same_any p q f h [] k = refl
same_any p q f h (x ∷ xs) k = let a = and_parts (f x) (list_all f xs) k in λ i. h x a.0 i || same_any p q f h xs a.1 i

same_position : {X : Type 0} (p q : X → Bool) (f : X → Bool) → ((x : X) → f x ≡ true → p x ≡ q x) → (n : ℕ) (xs : List X) → list_all f xs ≡ true → position_from p n xs ≡ position_from q n xs
same_position p q f h n [] k = refl
same_position p q f h n (x ∷ xs) k = let a = and_parts (f x) (list_all f xs) k in λ i. cond (h x a.0 i) (Some n) (same_position p q f h (n + 1) xs a.1 i)

module _ (d : Specification) (w : World) (r s : Reads) (agree : AgreeOn d w r s) (args : List ℤ) where
  elems_same : (vars : List ℕ) (places : List ℕ) (es : List Elem) → elems_fit w args vars places es ≡ true → fits_places w places (elems_of w args vars es) ≡ true
  elems_same vars places es h = (and_parts (list_all (elem_exists w args vars) es) (fits_places w places (elems_of w args vars es)) h).1

  body_agrees : (vars : List ℕ) (b : Body) → body_fits d w args vars b ≡ true → body_of w r args vars b ≡ body_of w s args vars b
  body_agrees vars body.One h = refl
  body_agrees vars (body.Param n) h = refl
  body_agrees vars (body.Count k es) h =
      let p = and_parts (nat_lt k (length d.counters)) (elems_fit w args vars (counter_keys d k) es) h in
      agree.count k (elems_of w args vars es) (below_length k (length d.counters) p.0) (elems_same vars (counter_keys d k) es p.1)

  sum_agrees : (vars : List ℕ) (ss : List Summand) → list_all (summand_fits d w args vars) ss ≡ true → sum_of w r args vars ss ≡ sum_of w s args vars ss
  sum_agrees vars [] h = refl
  sum_agrees vars (m ∷ ss) h =
      let p = and_parts (summand_fits d w args vars m) (list_all (summand_fits d w args vars) ss) h in
      let q = and_parts (in_literal_range m.coef) (body_fits d w args vars m.body) p.0 in
      λ i. m.coef *ℤ body_agrees vars m.body q.1 i +ℤ sum_agrees vars ss p.1 i

  pub term_agrees : (vars : List ℕ) (t : Term) → term_fits d w args vars t ≡ true → term_of w r args vars t ≡ term_of w s args vars t
  term_agrees vars t h = sum_agrees vars t.summands (and_parts _ _ h).1

  -- the truth of a formula at arguments and variables that fit it
  pub truth_agrees : (vars : List ℕ) (f : Form) → form_fits d w args vars f ≡ true → truth w r args vars f ≡ truth w s args vars f
  truth_agrees vars true_form h = refl
  truth_agrees vars false_form h = refl
  truth_agrees vars (not_form f) h = ap not (truth_agrees vars f h)
  truth_agrees vars (and_form f g) h = let p = and_parts (form_fits d w args vars f) (form_fits d w args vars g) h in λ i. truth_agrees vars f p.0 i && truth_agrees vars g p.1 i
  truth_agrees vars (or_form f g) h = let p = and_parts (form_fits d w args vars f) (form_fits d w args vars g) h in λ i. truth_agrees vars f p.0 i || truth_agrees vars g p.1 i
  truth_agrees vars (implies_form f g) h = let p = and_parts (form_fits d w args vars f) (form_fits d w args vars g) h in λ i. not (truth_agrees vars f p.0 i) || truth_agrees vars g p.1 i
  truth_agrees vars (has_form k es) h =
      let p = and_parts (nat_lt k (length d.relations)) (elems_fit w args vars (relation_places d k) es) h in
      agree.has k (elems_of w args vars es) (below_length k (length d.relations) p.0) (elems_same vars (relation_places d k) es p.1)
  truth_agrees vars (same_form a b) h = refl
  truth_agrees vars (differ_form a b) h = refl
  truth_agrees vars (compare_form t c u) h = let p = and_parts (term_fits d w args vars t) (term_fits d w args vars u) h in λ i. compare_of c (term_agrees vars t p.0 i) (term_agrees vars u p.1 i)

  pub line_agrees : (l : Line) → line_fits d w args l ≡ true → line_true w r args l ≡ line_true w s args l
  line_agrees l h =
      let p = (and_parts (vars_fit w l) (list_all (λ vars. form_fits d w args vars l.body) (tuples w l.vars)) h).1 in
      λ i. cond (is_exists l.prefix)
      (same_any (λ vars. truth w r args vars l.body) (λ vars. truth w s args vars l.body) (λ vars. form_fits d w args vars l.body) (λ vars k. truth_agrees vars l.body k) (tuples w l.vars) p i)
      (same_all (λ vars. truth w r args vars l.body) (λ vars. truth w s args vars l.body) (λ vars. form_fits d w args vars l.body) (λ vars k. truth_agrees vars l.body k) (tuples w l.vars) p i)

  pub lines_agree : (ls : List Line) → list_all (line_fits d w args) ls ≡ true → lines_true w r args ls ≡ lines_true w s args ls
  lines_agree ls h = same_all (line_true w r args) (line_true w s args) (line_fits d w args) line_agrees ls h

  pub first_false_agrees : (ls : List Line) → list_all (line_fits d w args) ls ≡ true → first_false w r args ls ≡ first_false w s args ls
  first_false_agrees ls h = same_position (λ l. not (line_true w r args l)) (λ l. not (line_true w s args l)) (line_fits d w args) (λ l k. ap not (line_agrees l k)) 0 ls h

module _ (d : Specification) (w : World) (r s : Reads) (well : is_specification d ≡ true) (world : is_world d w ≡ true) (agree : AgreeOn d w r s) where
  pub inv_agrees : inv d w r ≡ inv d w s
  inv_agrees = lines_agree d w r s agree [] (map (λ (i : Invariant). i.line) d.invariants) (list_all-map (line_fits d w []) (λ (i : Invariant). i.line) d.invariants ∙ invariants_fit d w well world)

  pub broken_at_agrees : broken_at d w r ≡ broken_at d w s
  broken_at_agrees = same_position (λ (i : Invariant). not (line_true w r [] i.line)) (λ (i : Invariant). not (line_true w s [] i.line)) (λ (i : Invariant). line_fits d w [] i.line) (λ i h. ap not (line_agrees d w r s agree [] i.line h)) 0 d.invariants (invariants_fit d w well world)

  pub pre_agrees : (c : Call) → is_call d w c ≡ true → pre d w c r ≡ pre d w c s
  pre_agrees c h = lines_agree d w r s agree c.args (op_of d c.op).requires_ (call_parts d w c well world h).fits.requires_

  pub observed_agrees : (c : Call) → is_call d w c ≡ true → observed d w c r ≡ observed d w c s
  observed_agrees c h = lines_agree d w r s agree c.args (op_of d c.op).observes (call_parts d w c well world h).fits.observes
