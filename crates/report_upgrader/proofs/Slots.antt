-- Slots of clauses: one more, and some let go.
use Rattle.std.proofs.Common.{◌≡◌, ℕ, zero, suc, ◌<◌, ◌≤◌, ◌==◌, ◌≢◌, ◌⊎◌, inl, inr, Bool, true, false, ◌||◌, List, [], ◌∷◌, ◌++◌, length, set, get_or, refl, sym, ◌∙◌, ap, subst, arith, Option, None}
use Rattle.std.specs.Prelude.{is_some}
use Rattle.std.proofs.lemmas.List.{get_or_append_left, get_or-append_right, get_or-set_other}
use Rattle.proof_lines.specs.declared.clause.Lit.{Lit}
use Rattle.proof_lines.specs.Numbers.{stands_in}
use Rattle.proof_kernel.specs.Rules.{cleared}

abbrev pub Slots : Type 0
Slots = List (Option (List Lit))

-- the slot of a number, where it is there and wasn't let go
abbrev pub at : Slots → ℕ → Option (List Lit)
at xs n = get_or xs n None

abbrev pub live : Slots → ℕ → Bool
live xs n = is_some (at xs n)

-- ---- slots that are let go

set-live : (xs : Slots) (n i : ℕ) → live (set xs n None) i ≡ true → at (set xs n None) i ≡ at xs i
set-live [] n i h = refl
set-live (x ∷ xs) zero zero h = absurd (let q : false ≡ true = h in cc)
set-live (x ∷ xs) zero (suc i) h = refl
set-live (x ∷ xs) (suc n) zero h = refl
set-live (x ∷ xs) (suc n) (suc i) h = set-live xs n i h

-- what is still there is what it was
pub cleared-live : (xs : Slots) (ns : List ℕ) (i : ℕ) → live (cleared xs ns) i ≡ true → at (cleared xs ns) i ≡ at xs i
cleared-live xs [] i h = refl
cleared-live xs (n ∷ ns) i h =
    let e = cleared-live (set xs n None) ns i h in
    e ∙ set-live xs n i (subst (λ (o : Option (List Lit)). is_some o ≡ true) e h)

other_than : (n i : ℕ) (b : Bool) → ((n == i) || b) ≡ false → i ≢ n
other_than n i b h = λ e. grind (arith, h, e)

behind : (a b : Bool) → (a || b) ≡ false → b ≡ false
behind a b h = grind arith

-- and so is what isn't named
pub cleared-other : (xs : Slots) (ns : List ℕ) (i : ℕ) → stands_in ns i ≡ false → at (cleared xs ns) i ≡ at xs i
cleared-other xs [] i h = refl
cleared-other xs (n ∷ ns) i h = cleared-other (set xs n None) ns i (behind (n == i) (stands_in ns i) h) ∙ get_or-set_other xs n i None None (other_than n i (stands_in ns i) h)

-- a number that is there is below the count
pub live-below : (xs : Slots) (n : ℕ) → live xs n ≡ true → n < length xs
live-below [] n h = absurd (let q : false ≡ true = h in cc)
live-below (x ∷ xs) zero h = omega arith
live-below (x ∷ xs) (suc n) h = let r = live-below xs n h in omega (arith, r)

-- ---- one slot more

side : (n k : ℕ) → (n < k) ⊎ (k ≤ n)
side n k = grind arith

pub pushed-front : (xs : Slots) (o : Option (List Lit)) (n : ℕ) → n < length xs → at (xs ++ o ∷ []) n ≡ at xs n
pushed-front xs o n lt = get_or_append_left xs (o ∷ []) None n lt

-- two lists of as many slots, which agree where both have a clause, still do so with one clause more
pub pushed-same : (xs ys : Slots) (o : Option (List Lit)) → length xs ≡ length ys
    → ((n : ℕ) → live xs n ≡ true → live ys n ≡ true → at xs n ≡ at ys n)
    → (n : ℕ) → live (xs ++ o ∷ []) n ≡ true → live (ys ++ o ∷ []) n ≡ true → at (xs ++ o ∷ []) n ≡ at (ys ++ o ∷ []) n
pushed-same xs ys o count same n h k = elim (side n (length xs)) [
  | inl lt ↦
      let a = pushed-front xs o n lt in
      let b = pushed-front ys o n (omega (arith, lt, count)) in
      a ∙ same n (subst (λ (o : Option (List Lit)). is_some o ≡ true) a h) (subst (λ (o : Option (List Lit)). is_some o ≡ true) b k) ∙ sym b
  | inr ge ↦ get_or-append_right xs (o ∷ []) (length xs) n None refl ge ∙ sym (get_or-append_right ys (o ∷ []) (length xs) n None (sym count) ge)
]

-- what is there in the first list and in the second one stays so with one clause more
pub pushed-kept : (xs ys : Slots) (o : Option (List Lit)) → length xs ≡ length ys → (n : ℕ)
    → (live xs n ≡ true → live ys n ≡ true) → live (xs ++ o ∷ []) n ≡ true → live (ys ++ o ∷ []) n ≡ true
pushed-kept xs ys o count n kept h = elim (side n (length xs)) [
  | inl lt ↦
      let a = pushed-front xs o n lt in
      let b = pushed-front ys o n (omega (arith, lt, count)) in
      ap is_some b ∙ kept (sym (ap is_some a) ∙ h)
  | inr ge ↦
      ap is_some (get_or-append_right ys (o ∷ []) (length xs) n None (sym count) ge ∙ sym (get_or-append_right xs (o ∷ []) (length xs) n None refl ge)) ∙ h
]
