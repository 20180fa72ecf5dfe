use Rattle.std.proofs.Common.{◌≡◌, ℕ, zero, suc, ℤ, ◌<◌, ◌*ℤ◌, ◌+ℤ◌, nat_lt, Bool, true, false, not, cond, ◌&&◌, ◌||◌, ◌==◌, ◌⊎◌, inl, inr, List, [], ◌∷◌, ◌++◌, length, refl, sym, ◌∙◌, ap, subst, arith}
use Rattle.std.specs.Prelude.{slice_index}
use Rattle.std.specs.List.{list_all}
use Rattle.std.proofs.lemmas.Bool.Decides.{nat_tests}
use Rattle.std.proofs.lemmas.Bool.{and_parts, and_from, cases_Bool}
use Rattle.spec_core.specs.declared.formula.Elem.{Elem}
use Rattle.spec_core.specs.declared.formula.Elem.TheVariants.{Const, Param, Var}
use Rattle.spec_core.specs.declared.formula.Body.{Body}
use Rattle.spec_core.specs.declared.formula.Body.TheVariants as body
use Rattle.spec_core.specs.declared.formula.Summand.{Summand}
use Rattle.spec_core.specs.declared.formula.Term.{Term}
use Rattle.spec_core.specs.declared.world.World.{World}
use Rattle.spec_core.specs.Form.{Form, true_form, false_form, not_form, and_form, or_form, implies_form, has_form, same_form, differ_form, compare_form}
use Rattle.spec_core.specs.State.{Reads}
use Rattle.spec_core.specs.World.{tuples}
use Rattle.spec_core.specs.Truth.{elem_of, elems_of, body_of, sum_of, term_of, compare_of, truth}
use Rattle.spec_core.specs.Choices.{all_choices, agrees}
use Rattle.spec_core.specs.Forced.{is_bound, body_bound, term_bound, atom_bound, atom_forced, is_forced}

-- ---- truth values

agreed : (b t : Bool) → agrees b t ≡ true → t ≡ b
agreed true t h = h
agreed false true h = absurd cc
agreed false false h = refl

agreeing : (b t : Bool) → t ≡ b → agrees b t ≡ true
agreeing true t h = h
agreeing false true h = absurd cc
agreeing false false h = refl

or_true : (a b : Bool) → (a || b) ≡ true → (a ≡ true) ⊎ (b ≡ true)
or_true true b h = inl refl
or_true false b h = inr h

turned : (a b : Bool) → a ≡ not b → not a ≡ b
turned a b h = grind (arith, h)

and_false : (a b : Bool) → (a ≡ false) ⊎ (b ≡ false) → (a && b) ≡ false
and_false a b h = grind (arith, h)

or_holds : (a b : Bool) → (a ≡ true) ⊎ (b ≡ true) → (a || b) ≡ true
or_holds a b h = grind (arith, h)

both : (a b : Bool) → (a ≡ true) × (b ≡ true) → (a && b) ≡ true
both a b h = and_from a b h.0 h.1

neither : (a b : Bool) → (a ≡ false) × (b ≡ false) → (a || b) ≡ false
neither a b h = grind (arith, h.0, h.1)

-- ---- what is read of the first variables alone

-- the first n elements are the same
abbrev pub SameFront : ℕ → List ℕ → List ℕ → Type 0
SameFront n vars vs = (k : ℕ) → nat_lt k n ≡ true → slice_index vars k ≡ slice_index vs k

module _ (w : World) (r : Reads) (args : List ℤ) (vars vs : List ℕ) (n : ℕ) (front : SameFront n vars vs) where
  elem_same : (e : Elem) → is_bound n e ≡ true → elem_of w args vars e ≡ elem_of w args vs e
  elem_same (Const k) h = refl
  elem_same (Param k) h = refl
  elem_same (Var k) h = front k h

  elems_same : (es : List Elem) → list_all (is_bound n) es ≡ true → elems_of w args vars es ≡ elems_of w args vs es
  elems_same [] h = refl
  elems_same (e ∷ es) h = let p = and_parts (is_bound n e) (list_all (is_bound n) es) h in λ i. elem_same e p.0 i ∷ elems_same es p.1 i

  body_same : (b : Body) → body_bound n b ≡ true → body_of w r args vars b ≡ body_of w r args vs b
  body_same body.One h = refl
  body_same (body.Param k) h = refl
  body_same (body.Count k es) h = ap (r.count k) (elems_same es h)

  sum_same : (ss : List Summand) → list_all (λ (s : Summand). body_bound n s.body) ss ≡ true → sum_of w r args vars ss ≡ sum_of w r args vs ss
  sum_same [] h = refl
  sum_same (s ∷ ss) h = let p = and_parts (body_bound n s.body) (list_all (λ (x : Summand). body_bound n x.body) ss) h in λ i. s.coef *ℤ body_same s.body p.0 i +ℤ sum_same ss p.1 i

  term_same : (t : Term) → term_bound n t ≡ true → term_of w r args vars t ≡ term_of w r args vs t
  term_same t h = sum_same t.summands h

  atom_same : (f : Form) → atom_bound n f ≡ true → truth w r args vars f ≡ truth w r args vs f
  atom_same true_form h = refl
  atom_same false_form h = refl
  atom_same (not_form f) h = absurd cc
  atom_same (and_form f g) h = absurd cc
  atom_same (or_form f g) h = absurd cc
  atom_same (implies_form f g) h = absurd cc
  atom_same (has_form k es) h = ap (r.has k) (elems_same es h)
  atom_same (same_form x y) h = let p = and_parts (is_bound n x) (is_bound n y) h in λ i. elem_same x p.0 i == elem_same y p.1 i
  atom_same (differ_form x y) h = let p = and_parts (is_bound n x) (is_bound n y) h in λ i. not (elem_same x p.0 i == elem_same y p.1 i)
  atom_same (compare_form t c u) h = let p = and_parts (term_bound n t) (term_bound n u) h in λ i. compare_of c (term_same t p.0 i) (term_same u p.1 i)

  atom_truth : (f : Form) (b : Bool) → atom_forced w r args vars n f b ≡ true → truth w r args vs f ≡ b
  atom_truth f b h = let p = and_parts (atom_bound n f) (agrees b (truth w r args vars f)) h in sym (atom_same f p.0) ∙ agreed b (truth w r args vars f) p.1

  -- What the first variables force is true of a formula whatever stands for the others.
  pub forced_truth : (f : Form) (b : Bool) → is_forced w r args vars n f b ≡ true → truth w r args vs f ≡ b
  forced_truth true_form b h = sym h
  forced_truth false_form true h = absurd cc
  forced_truth false_form false h = refl
  forced_truth (not_form f) b h = turned (truth w r args vs f) b (forced_truth f (not b) h)
  forced_truth (and_form f g) true h = let p = and_parts (is_forced w r args vars n f true) (is_forced w r args vars n g true) h in and_from (truth w r args vs f) (truth w r args vs g) (forced_truth f true p.0) (forced_truth g true p.1)
  forced_truth (and_form f g) false h = and_false (truth w r args vs f) (truth w r args vs g) (elim (or_true (is_forced w r args vars n f false) (is_forced w r args vars n g false) h) [
    | inl a ↦ inl (forced_truth f false a)
    | inr a ↦ inr (forced_truth g false a)
  ])
  forced_truth (or_form f g) true h = or_holds (truth w r args vs f) (truth w r args vs g) (elim (or_true (is_forced w r args vars n f true) (is_forced w r args vars n g true) h) [
    | inl a ↦ inl (forced_truth f true a)
    | inr a ↦ inr (forced_truth g true a)
  ])
  forced_truth (or_form f g) false h = let p = and_parts (is_forced w r args vars n f false) (is_forced w r args vars n g false) h in neither (truth w r args vs f) (truth w r args vs g) (forced_truth f false p.0, forced_truth g false p.1)
  forced_truth (implies_form f g) true h = or_holds (not (truth w r args vs f)) (truth w r args vs g) (elim (or_true (is_forced w r args vars n f false) (is_forced w r args vars n g true) h) [
    | inl a ↦ inl (ap not (forced_truth f false a))
    | inr a ↦ inr (forced_truth g true a)
  ])
  forced_truth (implies_form f g) false h = let p = and_parts (is_forced w r args vars n f true) (is_forced w r args vars n g false) h in neither (not (truth w r args vs f)) (truth w r args vs g) (ap not (forced_truth f true p.0), forced_truth g false p.1)
  forced_truth (has_form k es) b h = atom_truth (has_form k es) b h
  forced_truth (same_form x y) b h = atom_truth (same_form x y) b h
  forced_truth (differ_form x y) b h = atom_truth (differ_form x y) b h
  forced_truth (compare_form t c u) b h = atom_truth (compare_form t c u) b h

-- ---- all choices of elements for the other variables

less : (k m : ℕ) → nat_lt (suc k) (suc m) ≡ true → nat_lt k m ≡ true
less k m h = test k m (let l = below (suc k) (suc m) h in omega (arith, l))
  where
    below : (k m : ℕ) → nat_lt k m ≡ true → k < m
    below k m h = grind (arith, nat_tests)

    test : (k m : ℕ) → k < m → nat_lt k m ≡ true
    test k m h = grind (arith, nat_tests)

front_same : (xs ys zs : List ℕ) → SameFront (length xs) (xs ++ ys) (xs ++ zs)
front_same [] ys zs k h = absurd (let l : k < 0 = grind (arith, nat_tests, h) in omega (arith, l))
front_same (x ∷ xs) ys zs zero h = refl
front_same (x ∷ xs) ys zs (suc k) h = front_same xs ys zs k (less k (length xs) h)

all_so : {X : Type 0} (p : X → Bool) (xs : List X) → ((x : X) → p x ≡ true) → list_all p xs ≡ true
all_so p [] h = refl
all_so p (x ∷ xs) h = and_from (p x) (list_all p xs) (h x) (all_so p xs h)

-- Where the chosen elements force the truth, all choices of the others agree.
pub forced_choices : (w : World) (r : Reads) (args : List ℤ) (chosen rest sorts : List ℕ) (f : Form) (b : Bool) → is_forced w r args (chosen ++ rest) (length chosen) f b ≡ true
    → all_choices w chosen sorts (λ vars. agrees b (truth w r args vars f)) ≡ true
forced_choices w r args chosen rest sorts f b h =
    all_so (λ (t : List ℕ). agrees b (truth w r args (chosen ++ t) f)) (tuples w sorts) (λ t. agreeing b (truth w r args (chosen ++ t) f) (forced_truth w r args (chosen ++ rest) (chosen ++ t) (length chosen) (front_same chosen rest t) f b h))

-- the same with the elements and the number of the chosen ones given otherwise
pub forced_at : (w : World) (r : Reads) (args : List ℤ) (chosen rest vars : List ℕ) (n : ℕ) (f : Form) (b : Bool) → is_forced w r args vars n f b ≡ true → vars ≡ chosen ++ rest → n ≡ length chosen
    → (sorts : List ℕ) → all_choices w chosen sorts (λ vars. agrees b (truth w r args vars f)) ≡ true
forced_at w r args chosen rest vars n f b h e m sorts =
    forced_choices w r args chosen rest sorts f b (subst (λ (k : ℕ). is_forced w r args (chosen ++ rest) k f b ≡ true) m (subst (λ (vs : List ℕ). is_forced w r args vs n f b ≡ true) e h))
