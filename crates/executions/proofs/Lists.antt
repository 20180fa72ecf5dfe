-- Lists of event numbers: membership, and cutting a list at one of its members.
use Rattle.std.specs.Prelude.{Contains}
use Rattle.std.proofs.Common.{◌≡◌, ◌≢◌, ℕ, zero, suc, ◌+◌, ◌<◌, Bool, true, false, ◌||◌, ◌⊎◌, inl, inr, List, [], ◌∷◌, ◌++◌, length, get_or, eqb, refl, sym, ◌∙◌, ap, subst, arith}
use Rattle.std.proofs.lemmas.Bool.{cases_Bool}
use Rattle.std.proofs.lemmas.Bool.Decides.{nat_tests}

-- whether x is a member of the list
abbrev pub mem : ℕ → List ℕ → Bool
mem x [] = false
mem x (y ∷ ys) = eqb x y || mem x ys

abbrev pub IsIn : ℕ → List ℕ → Type 0
IsIn x xs = mem x xs ≡ true

-- each member of the first list is a member of the second
abbrev pub AllIn : List ℕ → List ℕ → Type 0
AllIn xs ys = (x : ℕ) → IsIn x xs → IsIn x ys

pub not_both : (b : Bool) → b ≡ true → b ≡ false → ⊥
not_both b p q = cc

pub in_first : (x : ℕ) (xs : List ℕ) → IsIn x (x ∷ xs)
in_first x xs = grind (arith, nat_tests)

pub in_rest : (x y : ℕ) (xs : List ℕ) → IsIn x xs → IsIn x (y ∷ xs)
in_rest x y xs h = grind (arith, nat_tests)

pub first_or_rest : (x y : ℕ) (xs : List ℕ) → IsIn x (y ∷ xs) → (x ≡ y) ⊎ IsIn x xs
first_or_rest x y xs h = grind (arith, nat_tests)

pub in_none : (x : ℕ) → IsIn x [] → ⊥
in_none x h = not_both false h refl

-- ---- the middle of a list
or_swap : (a b c : Bool) → (a || (b || c)) ≡ (b || (a || c))
or_swap true true c = refl
or_swap true false c = refl
or_swap false b c = refl

mem_middle : (x f : ℕ) (a b : List ℕ) → mem x (a ++ f ∷ b) ≡ (eqb x f || mem x (a ++ b))
mem_middle x f [] b = refl
mem_middle x f (y ∷ ys) b = ap (λ t. eqb x y || t) (mem_middle x f ys b) ∙ or_swap (eqb x y) (eqb x f) (mem x (ys ++ b))

pub in_but_middle : (x f : ℕ) (a b : List ℕ) → IsIn x (a ++ f ∷ b) → x ≢ f → IsIn x (a ++ b)
in_but_middle x f a b h ne = let e = mem_middle x f a b in grind (arith, nat_tests)

pub in_with_middle : (x f : ℕ) (a b : List ℕ) → IsIn x (a ++ b) → IsIn x (a ++ f ∷ b)
in_with_middle x f a b h = let e = mem_middle x f a b in grind (arith, nat_tests)

pub not_middle : (x f : ℕ) (a b : List ℕ) → mem x (a ++ f ∷ b) ≡ false → (x ≢ f) × (mem x (a ++ b) ≡ false)
not_middle x f a b h = let e = mem_middle x f a b in grind (arith, nat_tests)

pub not_with_middle : (x f : ℕ) (a b : List ℕ) → x ≢ f → mem x (a ++ b) ≡ false → mem x (a ++ f ∷ b) ≡ false
not_with_middle x f a b ne h = let e = mem_middle x f a b in grind (arith, nat_tests)

pub in_front : (x : ℕ) (a b : List ℕ) → IsIn x a → IsIn x (a ++ b)
in_front x [] b h = absurd (in_none x h)
in_front x (y ∷ a) b h =
    elim (first_or_rest x y a h) [
      | inl e ↦ subst (λ z. IsIn x (z ∷ (a ++ b))) e (in_first x (a ++ b))
      | inr k ↦ in_rest x y (a ++ b) (in_front x a b k)
    ]

-- ---- cuts
-- the list, cut at its member f
pub record Cut (f : ℕ) (l : List ℕ) : Type 0 where
  pub front : List ℕ
  pub back : List ℕ
  pub is : l ≡ front ++ f ∷ back

pub cut_at : (f : ℕ) (l : List ℕ) → IsIn f l → Cut f l
cut_at f [] h = absurd (in_none f h)
cut_at f (y ∷ l) h =
    elim (first_or_rest f y l h) [
      | inl e ↦ record { front = []; back = l; is = ap (λ z. z ∷ l) (sym e) }
      | inr k ↦ (let c = cut_at f l k in record { front = y ∷ c.front; back = c.back; is = ap (λ z. y ∷ z) c.is })
    ]

-- the list, cut at its first member that p lacks
pub record CutOutside (p l : List ℕ) : Type 0 where
  pub at : ℕ
  pub front : List ℕ
  pub back : List ℕ
  pub is : l ≡ front ++ at ∷ back
  pub out : mem at p ≡ false
  pub before : AllIn front p

pub all_or_cut : (p l : List ℕ) → AllIn l p ⊎ CutOutside p l
all_or_cut p [] = inl (λ x h. absurd (in_none x h))
all_or_cut p (y ∷ l) =
    elim (cases_Bool (mem y p)) [
      | inr o ↦ inr (record { at = y; front = []; back = l; is = refl; out = o; before = λ x h. absurd (in_none x h) })
      | inl i ↦ elim (all_or_cut p l) [
        | inl all ↦ inl (first_and_rest y l p i all)
        | inr c ↦ inr (record { at = c.at; front = y ∷ c.front; back = c.back; is = ap (λ z. y ∷ z) c.is; out = c.out; before = first_and_rest y c.front p i c.before })
      ]
    ]
  where
    first_and_rest : (y : ℕ) (l p : List ℕ) → IsIn y p → AllIn l p → AllIn (y ∷ l) p
    first_and_rest y l p i all x h = elim (first_or_rest x y l h) [ inl e ↦ subst (λ z. IsIn z p) (sym e) i | inr k ↦ all x k ]

-- ---- in the words of the definitions
pub mem_contains : (x : ℕ) (xs : List ℕ) → IsIn x xs → Contains xs x
mem_contains x [] h = absurd (in_none x h)
mem_contains x (y ∷ xs) h =
    elim (first_or_rest x y xs h) [
      | inl e ↦ (0, (let p : 0 < suc (length xs) = omega arith in p), sym e)
      | inr k ↦ (let c = mem_contains x xs k in (suc c.0, (let q = c.1 in let p : suc c.0 < suc (length xs) = omega (arith, q) in p), c.2))
    ]

at_mem : (x : ℕ) (xs : List ℕ) (k : ℕ) → k < length xs → get_or xs k x ≡ x → IsIn x xs
at_mem x [] k lt e = absurd (omega (arith, lt))
at_mem x (y ∷ xs) zero lt e = subst (λ z. IsIn x (z ∷ xs)) (sym e) (in_first x xs)
at_mem x (y ∷ xs) (suc k) lt e = in_rest x y xs (at_mem x xs k (omega (arith, lt)) e)

pub contains_mem : (x : ℕ) (xs : List ℕ) → Contains xs x → IsIn x xs
contains_mem x xs c = at_mem x xs c.0 c.1 c.2

pub lacks_mem : (x : ℕ) (xs : List ℕ) → ¬ Contains xs x → mem x xs ≡ false
lacks_mem x xs no_x = elim (cases_Bool (mem x xs)) [ inl h ↦ absurd (no_x (mem_contains x xs h)) | inr h ↦ h ]
