-- Formulas that are numbered as they are made: as in the steps of a numbering, with the readings that are named on the way.
use Rattle.std.specs.Prelude.{ℕ, ℤ, pos, int_le, Bool, true, false, List, [], ◌∷◌, ◌++◌}
use Rattle.lin_rows.specs.declared.term.RowTerm.{RowTerm}
use Rattle.lin_rows.specs.Rows.{Row}
use Rattle.ground_problem.specs.Symbols.{Part, number, multiple, Symbolic, always, same, has, at_most, negated, both, either}
use Rattle.ground_numbers.specs.Numbered.{Numbered, known, literal, negation, conjunction, disjunction}
use Rattle.ground_numbers.specs.Numbers.{Atom, same_atom, has_atom, row_atom, number_of, integer_of, signed, added_up, bound_of}
use Rattle.ground_atoms.specs.Known.{Known, know_atom, know_integer}

-- ---- sums

-- what is known after a part of a sum, and the terms so far
pub record KnownTerms : Type 0 where
  pub known : Known
  pub terms : List RowTerm

-- the multiples of a sum, after those so far
abbrev pub make_terms : Bool → Known → List RowTerm → List Part → KnownTerms
make_terms s k done [] = record { known = k; terms = done }
make_terms s k done (number n ∷ ps) = make_terms s k done ps
make_terms s k done (multiple c x ∷ ps) =
    make_terms s (know_integer k x)
    (done ++ record { place = integer_of k.table x; coef = signed s c } ∷ []) ps

-- ---- formulas

-- what is known after a formula, and the formula over numbers
pub record Made : Type 0 where
  pub known : Known
  pub form : Numbered

-- an atom, made: a new one gets the next number
abbrev pub make_atom : Known → Atom → Made
make_atom k a = record { known = know_atom k a; form = literal (number_of k.table a) true }

-- a row is an atom, and a truth value where it has no terms
abbrev pub make_row : Known → List RowTerm → Row → Made
make_row k [] r = record { known = k; form = known (int_le (pos 0) r.bound) }
make_row k (t ∷ ts) r = make_atom k (row_atom r)

-- the row of these terms, added up, and of a bound
abbrev pub make_sum : KnownTerms → ℤ → Made
make_sum a bound =
    make_row a.known (added_up a.terms) (record { terms = added_up a.terms; bound = bound })

-- one numbered whole number less another one
abbrev pub difference : ℕ → ℕ → List RowTerm
difference m n =
    record { place = m; coef = signed true (pos 1) }
    ∷ record { place = n; coef = signed false (pos 1) }
    ∷ []

-- that one numbered whole number is at most another one
abbrev pub make_at_most_name : Known → ℕ → ℕ → Made
make_at_most_name k m n = make_sum (record { known = k; terms = difference m n }) (pos 0)

-- the row of a first sum, whose terms are made, and a second one, which is made now
abbrev pub make_at_most : KnownTerms → List Part → ℤ → Made
make_at_most a u bound = make_sum (make_terms false a.known a.terms u) bound

-- A formula, made from left to right.
abbrev pub make : Known → Symbolic → Made
make k (always b) = record { known = k; form = known b }
make k (same a b) = make_atom k (same_atom a b)
make k (has s r t) = make_atom k (has_atom s r t)
make k (at_most t u n) = make_at_most (make_terms true k [] t) u (bound_of t u n)
make k (negated f) = (let a = make k f in record { known = a.known; form = negation a.form })
make k (both f g) =
    (let a = make k f in let b = make a.known g in record {
      known = b.known;
      form = conjunction a.form b.form;
    })
make k (either f g) =
    (let a = make k f in let b = make a.known g in record {
      known = b.known;
      form = disjunction a.form b.form;
    })

-- ---- lists of formulas

-- what is known after some formulas, and the formulas over numbers
pub record MadeList : Type 0 where
  pub known : Known
  pub forms : List Numbered

-- these formulas, after those so far
abbrev pub make_all : List Numbered → Known → List Symbolic → MadeList
make_all done k [] = record { known = k; forms = done }
make_all done k (f ∷ fs) = make_all (done ++ (make k f).form ∷ []) (make k f).known fs
