-- What an answer of one solver says of a search with any solver.
use Rattle.std.proofs.Common.{◌≡◌, zero, suc, ℕ, true, false, Bool, cond, List, [], ◌∷◌, refl, Option, Some, None}
use Rattle.std.specs.Option.{option_and_then}
use Rattle.lin_rows.specs.Rows.{Row, negated}
use Rattle.proof_lines.specs.declared.clause.Lit.{Lit}
use Rattle.proof_lines.specs.declared.line.Line.{Line}
use Rattle.proof_lines.specs.declared.problem.AtomKind.{AtomKind}
use Rattle.proof_lines.specs.declared.problem.AtomKind.TheVariants.{Plain, Row as OfRow}
use Rattle.proof_lines.specs.Problems.{PlainProblem}
use Rattle.line_rows.specs.Steps.{atom_row, lit_row}
use Rattle.sat_core.specs.Forcing.{are_plain}
use Rattle.sat_core.specs.declared.answer.Answer.{Answer}
use Rattle.sat_core.specs.declared.answer.Answer.TheVariants.{Unsat, Sat, Lines, Rows, Range, Memory}
use Rattle.sat_core.specs.Answers.{AreRowsOf, IsShort, IsAnswer}

-- ---- no rows stand for literals of a problem without rows

no_row : (atoms : List AtomKind) (a : ℕ) → are_plain atoms ≡ true → atom_row atoms a ≡ None
no_row [] a h = refl
no_row (Plain ∷ atoms) zero h = refl
no_row (Plain ∷ atoms) (suc a) h = no_row atoms a h
no_row (OfRow r ∷ atoms) a h = absurd cc

no_literal : (atoms : List AtomKind) (l : Lit) (r : Row) → are_plain atoms ≡ true → lit_row atoms l ≡ Some r → ⊥
no_literal atoms l r h e = by_case l.positive (atom_row atoms l.atom) (no_row atoms l.atom h) e
  where
    by_case : (p : Bool) (o : Option Row) → o ≡ None → cond p o (option_and_then negated o) ≡ Some r → ⊥
    by_case p (Some q) h e = absurd cc
    by_case true None h e = absurd cc
    by_case false None h e = absurd cc

pub no_rows : (atoms : List AtomKind) (lits : List Lit) (rows : List Row) → are_plain atoms ≡ true → AreRowsOf atoms lits rows → rows ≡ []
no_rows atoms lits [] h e = refl
no_rows atoms [] (r ∷ rows) h e = absurd cc
no_rows atoms (l ∷ lits) (r ∷ rows) h e = absurd (no_literal atoms l r h cc)

-- ---- a search that doesn't split, nor stops for rows, is one that may

short-any : (p : PlainProblem) (log : List Line) → IsShort false p log → IsShort true p log
short-any p log s = record { unsplit = λ e. absurd cc; plain = s.plain; few = s.few }

never : false ≡ true → ⊥
never e = absurd cc

pub answer-any : (p : PlainProblem) (budget : ℕ) (a : Answer) → IsAnswer false false p budget a → IsAnswer true true p budget a
answer-any p budget (Unsat log) h = record { state = h.state; runs = h.runs; empty = h.empty; within = h.within; short = short-any p log h.short; uneasy = h.uneasy }
answer-any p budget (Sat i) h = h
answer-any p budget (Lines log) h = record { judged = h.judged; whole = h.whole; makes = h.makes; searched = h.searched; short = short-any p log h.short; uneasy = h.uneasy; hard = h.hard }
answer-any p budget (Rows e) h = absurd (never h.0)
answer-any p budget (Range e) h = absurd (never h.0)
answer-any p budget Memory h = tt
