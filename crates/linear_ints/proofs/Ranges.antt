use Rattle.std.proofs.Common.{◌≡◌, ℕ, ◌<◌, length, ℤ, pos, ◌-ℤ◌, true, false, not, ◌&&◌, List, [], ◌∷◌, map, refl, ◌∙◌, ap, Some, None, is_none}
use Rattle.std.proofs.lemmas.Bool.{and_from, lt-ltb}
use Rattle.std.specs.Prelude.{◌==◌, nat_lt}
use Rattle.std.specs.List.{list_all}
use Rattle.std.proofs.lemmas.List.{length-map}
use Rattle.lin_rows.specs.Numbers.{is_zero}
use Rattle.lin_rows.specs.Rows.{Row, coefficient_at}
use Rattle.proof_lines.specs.declared.line.RangeWhat.TheVariants.{Value, Sum}
use Rattle.line_rows.specs.Evidence.{in_state, values_fit, rest_with, leaves_state, is_beyond}
use Rattle.line_rows.specs.Steps.{row_at}
use Rattle.line_rows.specs.Splits.{rest_at, other_names, point}
use Rattle.proof_lines.proofs.Sets.{same_nat-refl}
use Rattle.linear_ints.specs.Fractions.{size}
use Rattle.linear_ints.specs.Points.{values_of}
use Rattle.linear_ints.specs.Ceilings.{is_beyond as is_above_state}
use Rattle.linear_ints.proofs.Points.{sum_from-agree, agree-one}

all-in_state : (x : ℕ → ℤ) (ns : List ℕ) → ((q : ℕ) → in_state (x q) ≡ true) → list_all in_state (map x ns) ≡ true
all-in_state x [] h = refl
all-in_state x (n ∷ ns) h = and_from (in_state (x n)) (list_all in_state (map x ns)) (h n) (all-in_state x ns h)

fit : (held : List Row) (x : ℕ → ℤ) (place i : ℕ) → i < length held → is_zero (coefficient_at (row_at held i).terms place) ≡ false → ((q : ℕ) → in_state (x q) ≡ true)
    → values_fit held i place (values_of x place (row_at held i ∷ [])) ≡ true
fit held x place i l z s =
    and_from (nat_lt i (length held) && not (is_zero (coefficient_at (row_at held i).terms place)))
    ((length (values_of x place (row_at held i ∷ [])) == length (other_names place (row_at held i ∷ []))) && list_all in_state (values_of x place (row_at held i ∷ [])))
    (and_from (nat_lt i (length held)) (not (is_zero (coefficient_at (row_at held i).terms place))) (lt-ltb i (length held) l) (ap not z))
    (and_from (length (values_of x place (row_at held i ∷ [])) == length (other_names place (row_at held i ∷ []))) (list_all in_state (values_of x place (row_at held i ∷ [])))
    (ap (λ n. n == length (other_names place (row_at held i ∷ []))) (length-map (other_names place (row_at held i ∷ [])) x) ∙ same_nat-refl (length (other_names place (row_at held i ∷ []))))
    (all-in_state x (other_names place (row_at held i ∷ [])) s))

rest_with-is : (x : ℕ → ℤ) (place : ℕ) (r : Row) → x place ≡ pos 0 → rest_with r place (values_of x place (r ∷ [])) ≡ rest_at x r
rest_with-is x place r z = sum_from-agree (point (other_names place (r ∷ [])) (values_of x place (r ∷ []))) x (pos 0) r.terms (agree-one x place r z)

-- a row that allows a place no number in the range of a state
pub beyond-value : (held : List Row) (x : ℕ → ℤ) (place i : ℕ) (rest : ℤ) → i < length held → is_zero (coefficient_at (row_at held i).terms place) ≡ false → x place ≡ pos 0 → ((q : ℕ) → in_state (x q) ≡ true)
    → rest_at x (row_at held i) ≡ Some rest → is_above_state (rest -ℤ (row_at held i).bound) (size (row_at held i) place) ≡ true
    → is_beyond held (Value i place (values_of x place (row_at held i ∷ []))) ≡ true
beyond-value held x place i rest l z o s r b =
    and_from (values_fit held i place (values_of x place (row_at held i ∷ []))) (leaves_state (row_at held i) place (rest_with (row_at held i) place (values_of x place (row_at held i ∷ []))))
    (fit held x place i l z s) (ap (leaves_state (row_at held i) place) (rest_with-is x place (row_at held i) o ∙ r) ∙ b)

-- a rest beyond the range of a row
pub beyond-sum : (held : List Row) (x : ℕ → ℤ) (place i : ℕ) → i < length held → is_zero (coefficient_at (row_at held i).terms place) ≡ false → x place ≡ pos 0 → ((q : ℕ) → in_state (x q) ≡ true)
    → rest_at x (row_at held i) ≡ None → is_beyond held (Sum i place (values_of x place (row_at held i ∷ []))) ≡ true
beyond-sum held x place i l z o s r =
    and_from (values_fit held i place (values_of x place (row_at held i ∷ []))) (is_none (rest_with (row_at held i) place (values_of x place (row_at held i ∷ []))))
    (fit held x place i l z s) (ap is_none (rest_with-is x place (row_at held i) o ∙ r))
