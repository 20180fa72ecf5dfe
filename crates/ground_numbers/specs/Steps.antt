-- Numbering as it goes: a formula is numbered by the table so far, from left to right. This mirrors what a program does; the
-- numbers are those of the final table, since a number stays as the table grows.
use Rattle.std.specs.Prelude.{ℤ, pos, int_le, Bool, true, false, List, [], ◌∷◌, ◌++◌}
use Rattle.lin_rows.specs.declared.term.RowTerm.{RowTerm}
use Rattle.lin_rows.specs.Rows.{Row}
use Rattle.ground_problem.specs.Symbols.{Part, number, multiple, Symbolic, always, same, has, at_most, negated, both, either}
use Rattle.ground_numbers.specs.Numbered.{Numbered, known, literal, negation, conjunction, disjunction}
use Rattle.ground_numbers.specs.Numbers.{Atom, same_atom, has_atom, row_atom, Table, number_of, integer_of, with_atom, with_integer, signed, added_up, bound_of}

-- ---- sums

-- the table after a part of a sum, and the terms so far
pub record Terms : Type 0 where
  pub table : Table
  pub terms : List RowTerm

-- the multiples of a sum, after those so far
abbrev pub terms_after : Bool → Table → List RowTerm → List Part → Terms
terms_after s o done [] = record { table = o; terms = done }
terms_after s o done (number n ∷ ps) = terms_after s o done ps
terms_after s o done (multiple k x ∷ ps) =
    terms_after s (with_integer o x)
    (done ++ record { place = integer_of o x; coef = signed s k } ∷ []) ps

-- ---- formulas

-- the table after a formula, and the formula over numbers
pub record Step : Type 0 where
  pub table : Table
  pub form : Numbered

-- an atom, numbered: a new one gets the next number
abbrev pub atom_step : Table → Atom → Step
atom_step o a = record { table = with_atom o a; form = literal (number_of o a) true }

-- a row, numbered as an atom; without terms it is a truth value
abbrev pub row_step : Table → List RowTerm → Row → Step
row_step o [] r = record { table = o; form = known (int_le (pos 0) r.bound) }
row_step o (t ∷ ts) r = atom_step o (row_atom r)

-- the row of these terms, added up, and of a bound
abbrev pub terms_step : Terms → ℤ → Step
terms_step a bound =
    row_step a.table (added_up a.terms) (record { terms = added_up a.terms; bound = bound })

-- the row of a first sum, whose terms are numbered, and a second one, which is numbered now
abbrev pub at_most_step : Terms → List Part → ℤ → Step
at_most_step a u bound = terms_step (terms_after false a.table a.terms u) bound

-- the negation of a formula that is numbered
abbrev pub negation_step : Step → Step
negation_step a = record { table = a.table; form = negation a.form }

-- A formula, numbered from left to right, and the table then.
abbrev pub steps : Table → Symbolic → Step
steps o (always b) = record { table = o; form = known b }
steps o (same a b) = atom_step o (same_atom a b)
steps o (has k r t) = atom_step o (has_atom k r t)
steps o (at_most t u n) = at_most_step (terms_after true o [] t) u (bound_of t u n)
steps o (negated f) = negation_step (steps o f)
steps o (both f g) =
    (let a = steps o f in let b = steps a.table g in record {
      table = b.table;
      form = conjunction a.form b.form;
    })
steps o (either f g) =
    (let a = steps o f in let b = steps a.table g in record {
      table = b.table;
      form = disjunction a.form b.form;
    })

-- ---- lists of formulas

-- the table after some formulas, and the formulas over numbers
pub record Steps : Type 0 where
  pub table : Table
  pub forms : List Numbered

-- these formulas, after those so far
abbrev pub steps_after : List Numbered → Table → List Symbolic → Steps
steps_after done o [] = record { table = o; forms = done }
steps_after done o (f ∷ fs) = steps_after (done ++ (steps o f).form ∷ []) (steps o f).table fs
