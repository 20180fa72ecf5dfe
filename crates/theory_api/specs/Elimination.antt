-- Steps in an order of names, as elimination takes them.
use Rattle.std.specs.Prelude.{◌≡◌, ℕ, ◌+◌, ◌==◌, nat_lt, nat_le, Bool, true, cond, ◌&&◌, List, [], ◌∷◌, length, slice_index_or, Option, Some, None}
use Rattle.lin_rows.specs.Numbers.{is_zero}
use Rattle.lin_rows.specs.Rows.{Row, coefficient_at}
use Rattle.proof_lines.specs.declared.line.RowStep.{RowStep}
use Rattle.proof_lines.specs.declared.line.RangeWhat.{RangeWhat}
use Rattle.proof_lines.specs.declared.line.RangeWhat.TheVariants.{Product, Value, Sum}
use Rattle.line_rows.specs.Evidence.{cancels_at}
use Rattle.proof_lines.specs.Numbers.{are_different}
use Rattle.line_rows.specs.Steps.{row_at}

-- ELIMINATION STEPS (Fourier and Motzkin): names are eliminated one after the other in some order, so that no step combines rows
-- round and round.

-- how many names of the order stand before the first that the row names
abbrev pub stage : List ℕ → Row → ℕ
stage [] r = 0
stage (place ∷ order) r = cond (is_zero (coefficient_at r.terms place)) (1 + stage order r) 0

-- the first name of the order that the row names
abbrev pub first_place : List ℕ → Row → ℕ
first_place order r = slice_index_or order (stage order r) 0

-- both rows have the same first name of the order, and it doesn't stand before a given stage
abbrev pub meet : List ℕ → ℕ → Row → Row → Bool
meet order least l r =
    nat_le least (stage order l)
    && (nat_lt (stage order l) (length order) && (stage order r == stage order l))

-- a step cancels the first name of both its rows
abbrev pub eliminates : List ℕ → ℕ → Row → Row → RowStep → Bool
eliminates order least l r s = meet order least l r && cancels_at l r s (first_place order l)

-- a product beyond the range counts as one more step
abbrev pub ends_in_order : List ℕ → List Row → ℕ → Option RangeWhat → Bool
ends_in_order order rows least (Some (Product left right place)) =
    meet order least (row_at rows left) (row_at rows right)
    && (first_place order (row_at rows left) == place)
ends_in_order order rows least (Some (Value i place values)) = true
ends_in_order order rows least (Some (Sum i place values)) = true
ends_in_order order rows least None = true

-- each step cancels the first name of both its rows, and from step to step that name never goes back in the order
abbrev pub eliminate : List ℕ → List Row → ℕ → List RowStep → Option RangeWhat → Bool
eliminate order rows least [] what = ends_in_order order rows least what
eliminate order rows least (s ∷ steps) what =
    eliminates order least (row_at rows s.left) (row_at rows s.right) s
    && eliminate order rows (stage order (row_at rows s.left)) steps what

-- the steps among the rows, and the number beyond the range, if there is one, go by some order of different names
pub record AreEliminations (rows : List Row) (steps : List RowStep)
    (what : Option RangeWhat) : Type 0 where
  pub order : List ℕ
  pub different : are_different order ≡ true
  pub in_order : eliminate order rows 0 steps what ≡ true
