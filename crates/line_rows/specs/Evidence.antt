-- The evidence of undecided verdicts, as far as rows show it: too many rows, and a number beyond the range.
use Rattle.std.specs.Prelude.{ℕ, ◌^◌, ◌==◌, nat_lt, nat_le, ℤ, pos, ◌-ℤ◌, ◌*ℤ◌, int_lt, unsigned_abs, Bool, true, false, not, ◌&&◌, List, [], ◌∷◌, length, Option, Some, None, is_none, Result, Ok, Err}
use Rattle.std.specs.List.{list_any, list_all}
use Rattle.std.specs.Ordering.{int_eq}
use Rattle.lin_rows.specs.declared.term.RowTerm.{RowTerm}
use Rattle.lin_rows.specs.Numbers.{is_zero}
use Rattle.lin_rows.specs.Rows.{Row, coefficient_at}
use Rattle.lin_rows.specs.Cancelling.{first_factor, second_factor, combined as cancelled}
use Rattle.proof_lines.specs.declared.line.RowStep.{RowStep}
use Rattle.proof_lines.specs.declared.line.RangeWhat.{RangeWhat}
use Rattle.proof_lines.specs.declared.line.RangeWhat.TheVariants.{Product, Value, Sum}
use Rattle.proof_lines.specs.declared.line.Why.{Why}
use Rattle.line_rows.specs.Steps.{row_at, is_negative, is_positive}
use Rattle.line_rows.specs.Splits.{size_at, other_names, point, rest_at}

-- ROWS AND STEPS OF EVIDENCE.

-- a step cancels a place: the left row has a positive coefficient there and the right row a negative one, and the multipliers are
-- the least that cancel it
abbrev pub cancels_at : Row → Row → RowStep → ℕ → Bool
cancels_at l r s place =
    (is_positive (coefficient_at l.terms place) && is_negative (coefficient_at r.terms place))
    && (int_eq s.first (first_factor l r place) && int_eq s.second (second_factor l r place))

-- a step cancels some place that the left one of its two rows names
abbrev pub cancels_some : Row → Row → RowStep → Bool
cancels_some l r s = list_any (λ t. cancels_at l r s t.place) l.terms

-- both rows of a step are there, and it cancels some place
abbrev pub cancels : List Row → RowStep → Bool
cancels rows s =
    (nat_lt s.left (length rows) && nat_lt s.right (length rows))
    && cancels_some (row_at rows s.left) (row_at rows s.right) s

-- each step cancels some place
abbrev pub all_cancel : List Row → List RowStep → Bool
all_cancel rows steps = list_all (cancels rows) steps

-- two lists have equal terms in the same order
abbrev pub same_terms : List RowTerm → List RowTerm → Bool
same_terms [] [] = true
same_terms [] (u ∷ us) = false
same_terms (t ∷ ts) [] = false
same_terms (t ∷ ts) (u ∷ us) = (t.place == u.place) && (int_eq t.coef u.coef && same_terms ts us)

-- two rows have equal terms and equal bounds
abbrev pub same_row : Row → Row → Bool
same_row r q = int_eq r.bound q.bound && same_terms r.terms q.terms

-- the rows are pairwise different
abbrev pub all_different : List Row → Bool
all_different [] = true
all_different (r ∷ rows) = not (list_any (same_row r) rows) && all_different rows

-- as many rows are too many
abbrev pub row_limit : ℕ
row_limit = 10000

-- TOO MANY ROWS: the rows and steps keep the rules of a Farkas line but for its contradiction, each step cancels some place, and the
-- rows are pairwise different.
abbrev pub rows_shown : List RowStep → Result (List Row) Why → Bool
rows_shown steps (Ok rows) = all_different rows && all_cancel rows steps
rows_shown steps (Err w) = false

-- A NUMBER BEYOND THE RANGE.

-- the range of a state: at most 10^15 in size
abbrev pub in_state : ℤ → Bool
in_state v = nat_le (unsigned_abs v) (10 ^ 15)

-- the row is there and names the place, and the values are those of its other names, in the range of a state
abbrev pub values_fit : List Row → ℕ → ℕ → List ℤ → Bool
values_fit rows i place values =
    (nat_lt i (length rows) && not (is_zero (coefficient_at (row_at rows i).terms place)))
    && ((length values == length (other_names place (row_at rows i ∷ [])))
    && list_all in_state values)

-- the sum of a row's terms at names other than the place, with these values for them, where it stays in range
abbrev pub rest_with : Row → ℕ → List ℤ → Option ℤ
rest_with r place values = rest_at (point (other_names place (r ∷ [])) values) r

-- with the rest of the row put in, the row says `place >= p` with p above 10^15, or `place <= q` with q below -10^15: p and -q are
-- (rest - bound) / size, with the size of the coefficient
abbrev pub leaves_state : Row → ℕ → Option ℤ → Bool
leaves_state r place (Some rest) = int_lt (pos (10 ^ 15) *ℤ size_at r place) (rest -ℤ r.bound)
leaves_state r place None = false

-- the least multiples of two rows that cancel a place have a product or a sum beyond the range of a row
abbrev pub product_leaves : Row → Row → ℕ → Bool
product_leaves l r place =
    (is_positive (coefficient_at l.terms place) && is_negative (coefficient_at r.terms place))
    && is_none (cancelled l r place)

-- Product: the left row has a positive coefficient at the place and the right row a negative one, and the least sum that cancels
-- it leaves the range of a row. Value: no product or partial sum leaves the range of a row, and the row allows no number in the
-- range of a state. Sum: a product or partial sum leaves the range of a row
abbrev pub is_beyond : List Row → RangeWhat → Bool
is_beyond rows (Product left right place) =
    (nat_lt left (length rows) && nat_lt right (length rows))
    && product_leaves (row_at rows left) (row_at rows right) place
is_beyond rows (Value i place values) =
    values_fit rows i place values
    && leaves_state (row_at rows i) place (rest_with (row_at rows i) place values)
is_beyond rows (Sum i place values) =
    values_fit rows i place values && is_none (rest_with (row_at rows i) place values)

-- a line's evidence of a number beyond the range: each step cancels some place, and that number is shown
abbrev pub range_shown : List RowStep → RangeWhat → Result (List Row) Why → Bool
range_shown steps what (Ok rows) = all_cancel rows steps && is_beyond rows what
range_shown steps what (Err w) = false
