-- The test of a row that fits, by its own coefficients; it mirrors src/fitting.
use Rattle.std.specs.Prelude.{ℕ, ℤ, pos, ◌+ℤ◌, unsigned_abs, Bool, false, ◌&&◌, List, [], ◌∷◌}
use Rattle.std.specs.Int.{int_div_euclid}
use Rattle.std.specs.Ordering.{int_eq}
use Rattle.lin_rows.specs.declared.term.RowTerm.{RowTerm}
use Rattle.diff_bounds.specs.Differences.{is_near}

-- the bound divided by the size of a coefficient, and rounded down
abbrev pub over : ℤ → ℤ → ℤ
over bound coef = int_div_euclid bound (pos (unsigned_abs coef))

-- terms and a bound of a row that the solver takes once it is tightened
abbrev pub is_simple : ℕ → List RowTerm → ℤ → Bool
is_simple ints [] b = is_near ints b
is_simple ints (t ∷ []) b = is_near ints (over b t.coef)
is_simple ints (t ∷ u ∷ []) b = int_eq (t.coef +ℤ u.coef) (pos 0) && is_near ints (over b t.coef)
is_simple ints (t ∷ u ∷ v ∷ ts) b = false
