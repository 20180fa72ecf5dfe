-- The rows of a line, of which those alone are kept that a later step names, or that what the line says at its end names.
use Rattle.std.specs.Prelude.{◌≡◌, ℕ, ◌<◌, ◌+◌, ◌-◌, nat_le, nat_lt, nat_eq, cond, unsigned_abs, Bool, true, false, not, ◌&&◌, ◌||◌, is_none, List, [], ◌∷◌, length, slice_get, slice_index_or, Option, Some, None, Result, Ok, Err}
use Rattle.lin_rows.specs.declared.term.RowTerm.{RowTerm}
use Rattle.lin_rows.specs.Rows.{Row, is_contradiction}
use Rattle.lin_rows.specs.Sums.{row_sum}
use Rattle.proof_lines.specs.declared.line.RowStep.{RowStep}
use Rattle.proof_lines.specs.declared.line.RangeWhat.{RangeWhat}
use Rattle.proof_lines.specs.declared.line.RangeWhat.TheVariants.{Product, Value, Sum}
use Rattle.proof_lines.specs.declared.line.Why.{Why}
use Rattle.proof_lines.specs.declared.line.Why.TheVariants.{Place, Multiplier, Range}
use Rattle.line_rows.specs.Refusals.{need, or_broken}
use Rattle.line_rows.specs.Steps.{is_negative, ends_badly}
use Rattle.line_rows.specs.Evidence.{cancels_some, all_cancel, product_leaves, values_fit, leaves_state, rest_with}

-- the row that is kept under a number, if one is
abbrev pub kept_at : List (Option Row) → ℕ → Option Row
kept_at kept i = slice_index_or kept i None

-- of all rows those with some numbers are kept, each under its number
pub record AreKept (rows : List Row) (named : List ℕ) (kept : List (Option Row)) : Type 0 where
  pub whole : length kept ≡ length rows
  pub there : (j : ℕ) → j < length named
      → kept_at kept (slice_index_or named j 0) ≡ slice_get rows (slice_index_or named j 0)

-- a line has rows, and those with some numbers are kept
abbrev pub HasKept : Result (List Row) Why → List ℕ → List (Option Row) → Type 0
HasKept given named kept = (rows : List Row) × (given ≡ Ok rows) × AreKept rows named kept

-- the first coefficient is 1 or -1, so no others have a divisor in common with it
abbrev pub is_first_unit : List RowTerm → Bool
is_first_unit [] = false
is_first_unit (t ∷ ts) = nat_eq (unsigned_abs t.coef) 1

-- a row is kept, and it is the given one
abbrev pub Keeps : Option Row → Result Row Why → Type 0
Keeps kept given = (row : Row) × (kept ≡ Some row) × (given ≡ Ok row)

-- the row of a step, from its two rows, by the order of its tests
abbrev pub step_sum : Option Row → Option Row → RowStep → Result Row Why
step_sum (Some l) (Some r) s =
    need (not (is_negative s.first || is_negative s.second)) Multiplier
    (or_broken Range (row_sum l s.first r s.second))
step_sum (Some l) None s = Err Place
step_sum None r s = Err Place

-- WHEN A ROW IS NAMED LAST. It mirrors src/kept: a list says of each row after how many steps nothing names it any more.

-- a row has an end, and it is reached after this many steps
abbrev pub is_past : Option ℕ → ℕ → Bool
is_past (Some end) taken = nat_le end taken
is_past None taken = false

-- after this many steps nothing names the row of this number any more
abbrev pub is_done : List ℕ → ℕ → ℕ → Bool
is_done ends taken i = is_past (slice_get ends i) taken

-- no step names a row that is done before it
abbrev pub StepsEnd : List RowStep → ℕ → List ℕ → Type 0
StepsEnd steps count ends =
    (t : ℕ) (s : RowStep) → t < count → slice_get steps t ≡ Some s
    → (is_done ends t s.left ≡ false) × (is_done ends t s.right ≡ false)

-- after so many steps the rows that aren't done are kept
pub record KeptUntil (rows : List Row) (ends : List ℕ) (taken : ℕ)
    (kept : List (Option Row)) : Type 0 where
  pub whole : length kept ≡ length rows
  pub there : (i : ℕ) → is_done ends taken i ≡ false → kept_at kept i ≡ slice_get rows i

-- a line has rows, and after this many steps those that aren't done are kept
abbrev pub HasKeptUntil : Result (List Row) Why → List ℕ → ℕ → List (Option Row) → Type 0
HasKeptUntil given ends taken kept =
    (rows : List Row) × (given ≡ Ok rows) × KeptUntil rows ends taken kept

-- a row that is there is a contradiction
abbrev pub is_bad : Option Row → Bool
is_bad (Some r) = is_contradiction r
is_bad None = false

-- a line has rows, and the last one is a contradiction or isn't
abbrev pub Ends : Bool → Result (List Row) Why → Type 0
Ends b given = (rows : List Row) × (given ≡ Ok rows) × (ends_badly rows ≡ b)

-- A CHAIN OF STEPS, each of which names rows of used literals and the row of the step before it alone. It mirrors src/chain.

-- the row under a number, where those of the used literals are kept and the last of so many rows
abbrev pub chain_at : List (Option Row) → Option Row → ℕ → ℕ → Option Row
chain_at kept last end i =
    cond (nat_lt i (length kept)) (kept_at kept i) (cond (nat_eq (i + 1) end) last None)

-- of so many rows those of the used literals are kept and the last one
pub record IsChain (rows : List Row) (kept : List (Option Row)) (last : Option Row)
    (end : ℕ) : Type 0 where
  pub whole : length rows ≡ end
  pub there : (i : ℕ) (r : Row) → chain_at kept last end i ≡ Some r → slice_get rows i ≡ Some r
  pub ends : (r : Row) → last ≡ Some r → Some r ≡ slice_get rows (length rows - 1)

-- a line has rows, and this is the last one
abbrev pub HasLast : Result (List Row) Why → Row → Type 0
HasLast given row =
    (rows : List Row) × (given ≡ Ok rows) × (Some row ≡ slice_get rows (length rows - 1))

-- EVIDENCE OF A NUMBER BEYOND THE RANGE: besides, each step cancels a place.

-- a step cancels a place of its two rows
abbrev pub step_cancels : Option Row → Option Row → RowStep → Bool
step_cancels (Some l) (Some r) s = cancels_some l r s
step_cancels (Some l) None s = false
step_cancels None r s = false

-- a line has rows, and each of its steps cancels a place
abbrev pub all_cancel_in : Result (List Row) Why → List RowStep → Bool
all_cancel_in (Ok rows) steps = all_cancel rows steps
all_cancel_in (Err w) steps = false

-- either all steps cancel and the rows that aren't done are kept, or not all cancel
abbrev pub AreCancelling : Bool → Result (List Row) Why → List RowStep → List ℕ → List (Option Row)
    → Type 0
AreCancelling true given steps ends kept =
    HasKeptUntil given ends (length steps) kept × (all_cancel_in given steps ≡ true)
AreCancelling false given steps ends kept = all_cancel_in given steps ≡ false

-- the first row that a number beyond the range names
abbrev pub first_named : RangeWhat → ℕ
first_named (Product left right place) = left
first_named (Value i place values) = i
first_named (Sum i place values) = i

-- the second row that a number beyond the range names, or its only one again
abbrev pub second_named : RangeWhat → ℕ
second_named (Product left right place) = right
second_named (Value i place values) = i
second_named (Sum i place values) = i

-- a number beyond the range, from the rows that it names
abbrev pub beyond_in : Option Row → Option Row → RangeWhat → Bool
beyond_in (Some l) (Some r) (Product left right place) = product_leaves l r place
beyond_in (Some l) None (Product left right place) = false
beyond_in None r (Product left right place) = false
beyond_in (Some l) r (Value i place values) =
    values_fit (l ∷ []) 0 place values && leaves_state l place (rest_with l place values)
beyond_in None r (Value i place values) = false
beyond_in (Some l) r (Sum i place values) =
    values_fit (l ∷ []) 0 place values && is_none (rest_with l place values)
beyond_in None r (Sum i place values) = false
