-- How large the numbers of rows are.
use Rattle.std.specs.Prelude.{ℕ, ◌+◌, ◌^◌, ℤ, unsigned_abs, nat_le, Bool, true, ◌&&◌, List, [], ◌∷◌}
use Rattle.std.specs.List.{list_all}
use Rattle.lin_rows.specs.declared.term.RowTerm.{RowTerm}
use Rattle.lin_rows.specs.Rows.{Row}
use Rattle.ground_numbers.specs.Numbers.{Atom, same_atom, has_atom, row_atom, Table}

-- the sizes of the coefficients together
abbrev pub size_of_terms : List RowTerm → ℕ
size_of_terms [] = 0
size_of_terms (t ∷ ts) = unsigned_abs t.coef + size_of_terms ts

-- the greatest size of a coefficient and of a bound
abbrev pub greatest_number : ℕ
greatest_number = 10 ^ 20

-- a number of at most this size
abbrev pub is_small : ℤ → Bool
is_small n = nat_le (unsigned_abs n) greatest_number

-- no coefficient and no bound is larger
abbrev pub is_small_row : Row → Bool
is_small_row r = list_all (λ t. is_small t.coef) r.terms && is_small r.bound

-- the row of an atom, if it has one, has no larger number
abbrev pub is_small_atom : Atom → Bool
is_small_atom (same_atom a b) = true
is_small_atom (has_atom k r t) = true
is_small_atom (row_atom r) = is_small_row r

-- no row of a table has a larger one
abbrev pub rows_small : Table → Bool
rows_small o = list_all is_small_atom o.atoms
