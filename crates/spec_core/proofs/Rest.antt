use Rattle.std.proofs.Common.{◌≡◌, ℕ, zero, suc, ◌<◌, ℤ, Bool, true, false, List, [], ◌∷◌, ◌++◌, append_assoc, subst, sym, arith}
use Rattle.spec_core.specs.declared.world.World.{World}
use Rattle.spec_core.specs.World.{size_of}
use Rattle.spec_core.specs.Choices.{all_choices}
use Rattle.spec_core.proofs.Choosing.{choices_at, last_at}

-- ---- the first elements of the last sorts, where they have any

pub last_zero : (w : World) (chosen : List ℕ) (s : ℕ) (p : List ℕ → Bool) → 0 < size_of w s → all_choices w chosen (s ∷ []) p ≡ true → p (chosen ++ 0 ∷ []) ≡ true
last_zero w chosen s p lt h = last_at w chosen s p 0 lt h

pub last_zeros : (w : World) (chosen : List ℕ) (s t : ℕ) (p : List ℕ → Bool) → 0 < size_of w s → 0 < size_of w t → all_choices w chosen (s ∷ t ∷ []) p ≡ true → p (chosen ++ 0 ∷ 0 ∷ []) ≡ true
last_zeros w chosen s t p lt more h =
    subst (λ (xs : List ℕ). p xs ≡ true) (append_assoc chosen (0 ∷ []) (0 ∷ [])) (last_at w (chosen ++ 0 ∷ []) t p 0 more (choices_at w chosen s p (t ∷ []) 0 lt h))

pub some : (n m : ℕ) → n ≡ m → (n ≡ 0 → ⊥) → 0 < m
some n m e h = omega (arith, e, h)
