use Rattle.std.proofs.Common.{◌≡◌, ℕ, length, ℤ, true, List, [], ◌∷◌, refl, sym, ◌∙◌, ap, arith}
use Rattle.std.proofs.lemmas.Bool.{and_from, and_parts}
use Rattle.std.specs.List.{list_all}
use Rattle.std.proofs.lemmas.Int.{ints}
use Rattle.lin_rows.specs.Rows.{Row, is_row, value_at, point_of}
use Rattle.lin_rows.specs.Divisors.{tightened}
use Rattle.lin_rows.proofs.Rounding.{satisfies-of_tightened}
use Rattle.line_rows.specs.Evidence.{in_state}
use Rattle.proof_lines.specs.Problems.{row_true}
use Rattle.theory_api.specs.Chosen.{Choice, chosen_point}
use Rattle.theory_api.specs.Laws.{IsModel, all_satisfied}
use Rattle.theory_api.specs.Ends.{after}
use Rattle.linear_ints.specs.Descent.{Descended, IsHeld}
use Rattle.linear_ints.proofs.Splitting.{le_so, le_is}

-- where the tightened row is true, the row is
true-of_tightened : (x : ℕ → ℤ) (r : Row) → is_row r ≡ true → row_true x (tightened r) ≡ true → row_true x r ≡ true
true-of_tightened x r k h = le_so (value_at x r.terms) r.bound (satisfies-of_tightened x r k (le_is (value_at x (tightened r).terms) (tightened r).bound h))

all-true : (order : List ℕ) (held : List Row) (choices : List Choice) (rows : List Row) → Descended order held 0 choices → list_all is_row rows ≡ true → IsHeld held rows
    → all_satisfied (chosen_point (after [] choices)) rows ≡ true
all-true order held choices [] d k h = refl
all-true order held choices (r ∷ rows) d k h =
    let b = and_parts (is_row r) (list_all is_row rows) k in
    and_from (row_true (chosen_point (after [] choices)) r) (all_satisfied (chosen_point (after [] choices)) rows)
    (true-of_tightened (chosen_point (after [] choices)) r b.0 (ap (λ (q : Row). row_true (chosen_point (after [] choices)) q) (sym h.0.2) ∙ d.true_from h.0.0 h.0.1 (omega arith)))
    (all-true order held choices rows d b.1 h.1)

-- the chosen values, listed by place, are a model
pub model : (ints : ℕ) (order : List ℕ) (held : List Row) (choices : List Choice) (rows : List Row) (values : List ℤ) → Descended order held 0 choices → list_all is_row rows ≡ true → IsHeld held rows
    → length values ≡ ints → list_all in_state values ≡ true → ((q : ℕ) → point_of values q ≡ chosen_point (after [] choices) q) → IsModel ints rows values
model ints order held choices rows values d k h l s p = record {
  whole = l;
  in_range = s;
  satisfies = ap (λ (x : ℕ → ℤ). all_satisfied x rows) (λ i q. p q i) ∙ all-true order held choices rows d k h;
}
