use Rattle.std.proofs.Common.{◌≡◌, ℕ, suc, ◌<◌, ◌≤◌, length, ℤ, pos, ◌<ℤ◌, true, false, List, sym, ◌∙◌, ap, arith, ◌⊎◌, inl, inr}
use Rattle.lin_rows.specs.Rows.{Row, is_row, has_no_terms, is_contradiction, coefficient_at}
use Rattle.lin_rows.specs.Cancelling.{combined}
use Rattle.proof_lines.specs.Problems.{row_true}
use Rattle.line_rows.specs.Steps.{row_at}
use Rattle.theory_api.specs.Elimination.{stage}
use Rattle.linear_ints.specs.Points.{with_value}
use Rattle.elimination.specs.Pairs.{place_at, IsCombined}
use Rattle.linear_ints.specs.Descent.{TrueFrom}
use Rattle.linear_ints.proofs.Chosen.{constant-true}
use Rattle.linear_ints.proofs.Deciding.{keeps}
use Rattle.elimination.proofs.Stages.{stage-zero, combined-behind}

-- TRUE ROWS

-- where all rows behind a stage are true, so is the combination of two of its rows
pub combined-true : (order : List ℕ) (held : List Row) (k : ℕ) (x : ℕ → ℤ) (high low : Row) (c : IsCombined order held k high low) → is_row high ≡ true → is_row low ≡ true → k < length order
    → stage order high ≡ k → stage order low ≡ k → pos 0 <ℤ coefficient_at high.terms (place_at order k) → coefficient_at low.terms (place_at order k) <ℤ pos 0
    → TrueFrom order held (suc k) x → row_true x c.sum.row ≡ true
combined-true order held k x high low c j i l s t a b f = by_case c.stands
  where
    by_case : ((has_no_terms c.sum.row.terms ≡ true) × (is_contradiction c.sum.row ≡ false)) ⊎ ((m : ℕ) × (m < length held) × (row_at held m ≡ c.sum.row)) → row_true x c.sum.row ≡ true
    by_case (inl h) = constant-true x c.sum.row h.0 h.1
    by_case (inr (m, n, e)) =
        let g = combined-behind order k high low c.sum j i l s t a b c.sum_is in
        let u : suc k ≤ stage order (row_at held m) = (let v = ap (λ (r : Row). stage order r) e in omega (arith, v, g)) in
        sym (ap (λ (r : Row). row_true x r) e) ∙ f m n u

-- a value for the place of a stage that its rows allow keeps the rows behind it
pub true-next : (order : List ℕ) (held : List Row) (k : ℕ) (x : ℕ → ℤ) (v : ℤ) → x (place_at order k) ≡ pos 0
    → ((i : ℕ) → i < length held → is_row (row_at held i) ≡ true) → TrueFrom order held (suc k) x
    → ((i : ℕ) → i < length held → stage order (row_at held i) ≡ k → row_true (with_value x (place_at order k) v) (row_at held i) ≡ true)
    → TrueFrom order held k (with_value x (place_at order k) v)
true-next order held k x v z r f g i l h = by_order (order_of k (stage order (row_at held i)) h)
  where
    order_of : (m k : ℕ) → m ≤ k → (m < k) ⊎ (k ≡ m)
    order_of m k h = grind arith

    by_order : (k < stage order (row_at held i)) ⊎ (stage order (row_at held i) ≡ k) → row_true (with_value x (place_at order k) v) (row_at held i) ≡ true
    by_order (inl m) = keeps x (place_at order k) v (row_at held i) (r i l) z (stage-zero order k (row_at held i) m) ∙ f i l (omega arith)
    by_order (inr e) = g i l e
