use Rattle.std.proofs.Common.{◌≡◌, ℕ, ◌<◌, length, true, false, ◌||◌, List, refl, sym, ◌∙◌, ap, subst, arith, ◌⊎◌, inl, inr}
use Rattle.std.proofs.lemmas.Bool.{or_left, or_right}
use Rattle.std.specs.Prelude.{◌==◌}
use Rattle.lin_rows.specs.Numbers.{is_zero}
use Rattle.lin_rows.specs.Rows.{Row, is_row, coefficient_at}
use Rattle.lin_rows.proofs.Kept.{rises_of}
use Rattle.proof_lines.proofs.Sets.{same_nat-refl}
use Rattle.theory_api.specs.Chosen.{Choice, is_named}
use Rattle.theory_api.specs.Elimination.{stage}
use Rattle.linear_ints.specs.Points.{is_filled_but}
use Rattle.elimination.specs.Pairs.{place_at}
use Rattle.elimination.proofs.Stages.{stage-zero}
use Rattle.elimination.proofs.Names.{all-named}

-- where all names of a row are places of the order, and those behind the row's stage have values, all its names but the place of its
-- stage have values
pub filled-at : (order : List ℕ) (k : ℕ) (choices : List Choice) (r : Row) → is_row r ≡ true → stage order r ≡ k
    → ((q : ℕ) → is_zero (coefficient_at r.terms q) ≡ false → (m : ℕ) × (m < length order) × (place_at order m ≡ q))
    → ((m : ℕ) → k < m → m < length order → is_named choices (place_at order m) ≡ true)
    → is_filled_but choices (place_at order k) r ≡ true
filled-at order k choices r j s f n = all-named (λ q. (place_at order k == q) || is_named choices q) 0 r.terms (rises_of r j) (λ q z. by_place q z (f q z))
  where
    order_of : (m k : ℕ) → (m < k) ⊎ ((m ≡ k) ⊎ (k < m))
    order_of m k = grind arith

    by_order : (q m : ℕ) → is_zero (coefficient_at r.terms q) ≡ false → m < length order → place_at order m ≡ q → (m < k) ⊎ ((m ≡ k) ⊎ (k < m)) → ((place_at order k == q) || is_named choices q) ≡ true
    by_order q m z l e (inl o) =
        let w = ap (λ p. is_zero (coefficient_at r.terms p)) (sym e) ∙ ap is_zero (stage-zero order m r (subst (λ (n : ℕ). m < n) (sym s) o)) in absurd cc
    by_order q m z l e (inr (inl o)) = or_left (place_at order k == q) (is_named choices q) (ap (λ p. p == q) (ap (λ n. place_at order n) (sym o) ∙ e) ∙ same_nat-refl q)
    by_order q m z l e (inr (inr o)) = or_right (place_at order k == q) (is_named choices q) (ap (λ p. is_named choices p) (sym e) ∙ n m o l)

    by_place : (q : ℕ) → is_zero (coefficient_at r.terms q) ≡ false → (m : ℕ) × (m < length order) × (place_at order m ≡ q) → ((place_at order k == q) || is_named choices q) ≡ true
    by_place q z (m, l, e) = by_order q m z l e (order_of m k)
