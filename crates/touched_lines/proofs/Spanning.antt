use Rattle.std.proofs.Common.{◌≡◌, ℕ, zero, suc, ◌+◌, ◌<◌, ◌≤◌, ℤ, length, Bool, true, false, ◌||◌, nat_lt, nat_le, List, [], ◌∷◌, ◌++◌, refl, sym, ◌∙◌, ap, subst, append_assoc, append-nil, arith}
use Rattle.std.proofs.lemmas.Bool.{and_parts, and_from}
use Rattle.std.proofs.lemmas.Bool.Decides.{nat_tests}
use Rattle.std.specs.List.{list_all}
use Rattle.spec_core.specs.declared.world.World.{World}
use Rattle.spec_core.specs.World.{size_of, below, tuples}
use Rattle.spec_core.specs.Form.{Form}
use Rattle.spec_core.specs.State.{Reads}
use Rattle.spec_core.specs.Truth.{truth}
use Rattle.spec_core.specs.Forced.{is_forced}
use Rattle.spec_core.proofs.Forcing.{SameFront, forced_truth}
use Rattle.spec_core.specs.Fits.{fits_places}
use Rattle.spec_core.specs.Choices.{all_below}
use Rattle.spec_core.proofs.Choosing.{list_all-each_before, list_all-below, all_below-at, all_below-fails, all_below-from}
use Rattle.touched_lines.specs.declared.spans.Span.{Span}
use Rattle.touched_lines.specs.Spans.{in_span, are_within, all_within}

pub below_of : (a n : ℕ) → nat_lt a n ≡ true → a < n
below_of a n h = grind (arith, nat_tests)

pub test : (a n : ℕ) → a < n → nat_lt a n ≡ true
test a n h = grind (arith, nat_tests)

pub off : (e from : ℕ) → from ≤ e → nat_lt e from ≡ false
off e from h = grind (arith, nat_tests)

low : (e from : ℕ) → nat_le from e ≡ true → nat_lt e from ≡ false
low e from h = grind (arith, nat_tests)

high : (e from : ℕ) → nat_lt e from ≡ false → nat_le from e ≡ true
high e from h = grind (arith, nat_tests)

pub rest_of : (a b : Bool) → a ≡ false → (a || b) ≡ true → b ≡ true
rest_of a b h k = grind (arith, h, k)

or_left : (a b : Bool) → a ≡ true → (a || b) ≡ true
or_left a b h = grind (arith, h)

pub or_right : (a b : Bool) → b ≡ true → (a || b) ≡ true
or_right a b h = grind (arith, h)

unless_so : (a b : Bool) → (a ≡ false → b ≡ true) → (a || b) ≡ true
unless_so true b h = refl
unless_so false b h = h refl

pub neither : (a b : Bool) → a ≡ false → b ≡ false → (a || b) ≡ false
neither a b h k = grind (arith, h, k)

pub all_below-less : (n m : ℕ) (p : ℕ → Bool) → m ≤ n → all_below n p ≡ true → all_below m p ≡ true
all_below-less n m p le h = all_below-from m p (λ k lt. all_below-at n p k (omega (arith, le, lt)) h)

-- ---- loops over a span

-- before the first element
pub span_begun : (from : ℕ) (p : ℕ → Bool) → all_below from (λ e. nat_lt e from || p e) ≡ true
span_begun from p = all_below-from from (λ e. nat_lt e from || p e) (λ e lt. or_left (nat_lt e from) (p e) (test e from lt))

-- one element more
pub span_more : (from e next : ℕ) (p : ℕ → Bool) → next ≡ suc e → p e ≡ true → all_below e (λ e. nat_lt e from || p e) ≡ true → all_below next (λ e. nat_lt e from || p e) ≡ true
span_more from e next p is h k = subst (λ (n : ℕ). all_below n (λ e. nat_lt e from || p e) ≡ true) (sym is) (and_from (all_below e (λ e. nat_lt e from || p e)) (nat_lt e from || p e) k (or_right (nat_lt e from) (p e) h))

-- at an element of the span
pub span_at_one : (from to e : ℕ) (p : ℕ → Bool) → from ≤ e → e < to → all_below to (λ e. nat_lt e from || p e) ≡ true → p e ≡ true
span_at_one from to e p le lt h = rest_of (nat_lt e from) (p e) (off e from le) (all_below-at to (λ e. nat_lt e from || p e) e lt h)

pub span_fails : (from to e : ℕ) (p : ℕ → Bool) → from ≤ e → e < to → p e ≡ false → all_below to (λ e. nat_lt e from || p e) ≡ false
span_fails from to e p le lt h = all_below-fails to (λ e. nat_lt e from || p e) e lt (neither (nat_lt e from) (p e) (off e from le) h)

-- ---- what a test of all choices says

pub within_at : (ss : List Span) (chosen t : List ℕ) (p : List ℕ → Bool) → all_within ss chosen p ≡ true → are_within ss t ≡ true → p (chosen ++ t) ≡ true
within_at [] chosen [] p h k = ap p (append-nil chosen) ∙ h
within_at [] chosen (e ∷ t) p h k = absurd cc
within_at (s ∷ ss) chosen [] p h k = absurd cc
within_at (s ∷ ss) chosen (e ∷ t) p h k =
    let q = and_parts (in_span s e) (are_within ss t) k in
    let i = and_parts (nat_le s.from e) (nat_lt e s.to) q.0 in
    let one = all_below-at s.to (λ e. nat_lt e s.from || all_within ss (chosen ++ e ∷ []) p) e (below_of e s.to i.1) h in
    let rest = rest_of (nat_lt e s.from) (all_within ss (chosen ++ e ∷ []) p) (low e s.from i.0) one in
    subst (λ (xs : List ℕ). p xs ≡ true) (append_assoc chosen (e ∷ []) t) (within_at ss (chosen ++ e ∷ []) t p rest q.1)

pub within_all : (ss : List Span) (chosen : List ℕ) (p : List ℕ → Bool) → ((t : List ℕ) → are_within ss t ≡ true → p (chosen ++ t) ≡ true) → all_within ss chosen p ≡ true
within_all [] chosen p h = ap p (sym (append-nil chosen)) ∙ h [] refl
within_all (s ∷ ss) chosen p h = all_below-from s.to (λ e. nat_lt e s.from || all_within ss (chosen ++ e ∷ []) p) (λ e lt. unless_so (nat_lt e s.from) (all_within ss (chosen ++ e ∷ []) p)
    (λ here. within_all ss (chosen ++ e ∷ []) p (λ t k.
    subst (λ (xs : List ℕ). p xs ≡ true) (sym (append_assoc chosen (e ∷ []) t))
    (h (e ∷ t) (and_from (in_span s e) (are_within ss t) (and_from (nat_le s.from e) (nat_lt e s.to) (high e s.from here) (test e s.to lt)) k)))))

-- a test of all tuples, at one that fits
pub tuple_at : (w : World) (ss : List ℕ) (p : List ℕ → Bool) → list_all p (tuples w ss) ≡ true → (t : List ℕ) → fits_places w ss t ≡ true → p t ≡ true
tuple_at w [] p h [] k = (and_parts (p []) true h).0
tuple_at w [] p h (e ∷ t) k = absurd cc
tuple_at w (s ∷ ss) p h [] k = absurd cc
tuple_at w (s ∷ ss) p h (e ∷ t) k =
    let q = and_parts (nat_lt e (size_of w s)) (fits_places w ss t) k in
    let each = sym (list_all-each_before p (below (size_of w s)) (tuples w ss) ∙ list_all-below (λ e. list_all (λ t. p (e ∷ t)) (tuples w ss)) (size_of w s)) ∙ h in
    tuple_at w ss (λ t. p (e ∷ t)) (all_below-at (size_of w s) (λ e. list_all (λ t. p (e ∷ t)) (tuples w ss)) e (below_of e (size_of w s) q.0) each) t q.1

-- ---- what the chosen elements force

front_same : (xs ys zs : List ℕ) → SameFront (length xs) (xs ++ ys) (xs ++ zs)
front_same [] ys zs k h = absurd (let l = below_of k 0 h in omega (arith, l))
front_same (x ∷ xs) ys zs zero h = refl
front_same (x ∷ xs) ys zs (suc k) h = front_same xs ys zs k (let l = below_of (suc k) (suc (length xs)) h in test k (length xs) (omega (arith, l)))

pub forced_at : (w : World) (r : Reads) (args : List ℤ) (chosen rest vars : List ℕ) (n : ℕ) (f : Form) → is_forced w r args vars n f true ≡ true → vars ≡ chosen ++ rest → n ≡ length chosen
    → (t : List ℕ) → truth w r args (chosen ++ t) f ≡ true
forced_at w r args chosen rest vars n f h e m t =
    forced_truth w r args (chosen ++ rest) (chosen ++ t) (length chosen) (front_same chosen rest t) f true
    (subst (λ (k : ℕ). is_forced w r args (chosen ++ rest) k f true ≡ true) m (subst (λ (vs : List ℕ). is_forced w r args vs n f true ≡ true) e h))
