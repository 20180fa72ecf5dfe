-- The product of two numbers of 64 bits fits into 128 bits.
use Rattle.std.proofs.Common.{◌≡◌, ◌≤◌, ◌^◌, ℤ, pos, negsuc, ◌*ℤ◌, unsigned_abs, FitsSigned, to_z, of_z, arith, subst, sym, ap, ◌∙◌}
use Rattle.std.specs.Int.{w64, w128}
use Rattle.std.proofs.lemmas.Int.{fits_signed_mul, to_z-of_z}

most : (a : ℤ) → FitsSigned w64 a → unsigned_abs a ≤ 2 ^ 63
most (pos n) h = omega (arith, h)
most (negsuc n) h = omega (arith, h)

wide : (a : ℤ) → FitsSigned w64 a → FitsSigned w128 a
wide (pos n) h = omega (arith, h)
wide (negsuc n) h = omega (arith, h)

-- a number of 64 bits, widened
pub widened : (a : ℤ) → FitsSigned w64 a → to_z w128 (of_z w128 (to_z w64 (of_z w64 a))) ≡ a
widened a h = ap (λ (z : ℤ). to_z w128 (of_z w128 z)) (to_z-of_z w64 a h) ∙ to_z-of_z w128 a (wide a h)

product_fits : (a b : ℤ) → FitsSigned w64 a → FitsSigned w64 b → FitsSigned w128 (a *ℤ b)
product_fits a b h k = fits_signed_mul w128 a b (2 ^ 63) (2 ^ 63) (most a h) (most b k) (omega arith)

pub widened_fits : (a b : ℤ) → FitsSigned w64 a → FitsSigned w64 b → FitsSigned w128 (to_z w128 (of_z w128 (to_z w64 (of_z w64 a))) *ℤ to_z w128 (of_z w128 (to_z w64 (of_z w64 b))))
widened_fits a b h k =
    subst (λ (z : ℤ). FitsSigned w128 (z *ℤ to_z w128 (of_z w128 (to_z w64 (of_z w64 b))))) (sym (widened a h))
    (subst (λ (z : ℤ). FitsSigned w128 (a *ℤ z)) (sym (widened b k)) (product_fits a b h k))

pub widened_product : (a b : ℤ) → FitsSigned w64 a → FitsSigned w64 b → to_z w128 (of_z w128 (to_z w128 (of_z w128 (to_z w64 (of_z w64 a))) *ℤ to_z w128 (of_z w128 (to_z w64 (of_z w64 b))))) ≡ a *ℤ b
widened_product a b h k = to_z-of_z w128 _ (widened_fits a b h k) ∙ (λ i. widened a h i *ℤ widened b k i)
