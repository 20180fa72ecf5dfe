use Rattle.std.proofs.Common.{◌≡◌, zero, suc, ℕ, true, false, Bool, cond, List, [], ◌∷◌, refl, Option, Some, None}
use Rattle.std.specs.Option.{option_and_then}
use Rattle.lin_rows.specs.Rows.{Row, negated}
use Rattle.proof_lines.specs.declared.clause.Lit.{Lit}
use Rattle.proof_lines.specs.declared.problem.AtomKind.{AtomKind}
use Rattle.proof_lines.specs.declared.problem.AtomKind.TheVariants.{Plain, Row as OfRow}
use Rattle.line_rows.specs.Steps.{atom_row, lit_row}
use Rattle.sat_core.specs.Forcing.{are_plain}
use Rattle.sat_core.specs.Answers.{AreRowsOf}
use Rattle.search_tests.proofs.clauses.answer_bare.Goals as goal

no_row : (atoms : List AtomKind) (a : ℕ) → are_plain atoms ≡ true → atom_row atoms a ≡ None
no_row [] a h = refl
no_row (Plain ∷ atoms) zero h = refl
no_row (Plain ∷ atoms) (suc a) h = no_row atoms a h
no_row (OfRow r ∷ atoms) a h = absurd cc

no_literal : (atoms : List AtomKind) (l : Lit) (r : Row) → are_plain atoms ≡ true → lit_row atoms l ≡ Some r → ⊥
no_literal atoms l r h e = by_case l.positive (atom_row atoms l.atom) (no_row atoms l.atom h) e
  where
    by_case : (p : Bool) (o : Option Row) → o ≡ None → cond p o (option_and_then negated o) ≡ Some r → ⊥
    by_case p (Some q) h e = absurd cc
    by_case true None h e = absurd cc
    by_case false None h e = absurd cc

-- no rows stand for literals of a problem without rows
no_rows : (atoms : List AtomKind) (lits : List Lit) (rows : List Row) → are_plain atoms ≡ true → AreRowsOf atoms lits rows → rows ≡ []
no_rows atoms lits [] h e = refl
no_rows atoms [] (r ∷ rows) h e = absurd cc
no_rows atoms (l ∷ lits) (r ∷ rows) h e = absurd (no_literal atoms l r h cc)

pub solve_plain-requires : goal.solve_plain-requires
solve_plain-requires c = record { taken = λ h lits rows e. (no_rows c.args.problem.now.atoms lits rows c.requires.plain e, c.requires.no_ints) }
