-- The members of a list with one more at its head, and what tests of all members say.
use Rattle.std.proofs.Common.{◌≡◌, ℕ, zero, suc, ◌<◌, Bool, true, false, ◌||◌, ◌⊎◌, inl, inr, List, [], ◌∷◌, length, slice_index_or, refl, arith}
use Rattle.std.specs.List.{list_any, Contains}

pub nowhere : {X : Type 0} (y : X) → Contains [] y → ⊥
nowhere y m = let lt = m.1 in omega arith

pub cons_cases : {X : Type 0} (x : X) (xs : List X) (y : X) → Contains (x ∷ xs) y → (x ≡ y) ⊎ Contains xs y
cons_cases x xs y m = at m.0 m.1 m.2
  where
    at : (k : ℕ) → k < suc (length xs) → slice_index_or (x ∷ xs) k y ≡ y → (x ≡ y) ⊎ Contains xs y
    at zero lt e = inl e
    at (suc k) lt e = inr (k, (let less : k < length xs = omega arith in less), e)

pub or_false : (a b : Bool) → (a || b) ≡ false → (a ≡ false) × (b ≡ false)
or_false true b h = absurd cc
or_false false b h = (refl, h)

-- where no member passes, none does
pub none_passes : {X : Type 0} (test : X → Bool) (xs : List X) → list_any test xs ≡ false → (x : X) → Contains xs x → test x ≡ false
none_passes test [] h x m = absurd (nowhere x m)
none_passes test (y ∷ ys) h x m =
    let p = or_false (test y) (list_any test ys) h in
    elim (cons_cases y ys x m) [
      | inl e ↦ (let q : test y ≡ false = p.0 in let r : y ≡ x = e in cc)
      | inr r ↦ none_passes test ys p.1 x r
    ]
