-- Points that agree on some names, or differ in one, and rows all of whose names but one have values.
use Rattle.std.specs.Prelude.{◌≡◌, ℕ, ◌==◌, ℤ, Bool, cond, ◌||◌, List, [], ◌∷◌, map}
use Rattle.std.specs.List.{list_all}
use Rattle.lin_rows.specs.declared.term.RowTerm.{RowTerm}
use Rattle.lin_rows.specs.Rows.{Row}
use Rattle.line_rows.specs.Splits.{other_names}
use Rattle.theory_api.specs.Chosen.{Choice, is_named}

-- two points have the same values at the names of terms
abbrev pub Agree : (ℕ → ℤ) → (ℕ → ℤ) → List RowTerm → Type 0
Agree x y [] = Unit {0}
Agree x y (t ∷ ts) = (x t.place ≡ y t.place) × Agree x y ts

-- a point with another value at a place
abbrev pub with_value : (ℕ → ℤ) → ℕ → ℤ → ℕ → ℤ
with_value x place value q = cond (place == q) value (x q)

-- the values of the names of some rows other than one, in their order
abbrev pub values_of : (ℕ → ℤ) → ℕ → List Row → List ℤ
values_of x place rows = map x (other_names place rows)

-- all names of a row but one have values
abbrev pub is_filled_but : List Choice → ℕ → Row → Bool
is_filled_but choices place r =
    list_all (λ t. (place == t.place) || is_named choices t.place) r.terms
