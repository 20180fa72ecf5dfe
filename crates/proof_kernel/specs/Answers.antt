-- The answers to whole logs: accepted, the first bad line, or what is missing.
use Rattle.std.specs.Prelude.{◌≡◌, ℕ, Bool, true, false, cond, ◌&&◌, ◌==◌, List, length, Result, Ok, Err}
use Rattle.proof_lines.specs.declared.line.Line.{Line}
use Rattle.proof_lines.specs.declared.line.Why.{Why}
use Rattle.proof_lines.specs.declared.line.Why.TheVariants.{Evidence}
use Rattle.proof_kernel.specs.declared.answer.Checked.{Checked}
use Rattle.proof_lines.specs.declared.line.RowsEvidence.{RowsEvidence}
use Rattle.proof_lines.specs.declared.line.RangeEvidence.{RangeEvidence}
use Rattle.proof_kernel.specs.declared.answer.KernelRefused.{KernelRefused}
use Rattle.proof_kernel.specs.declared.answer.KernelRefused.TheVariants.{BadLine, NoEmptyClause, Memory as NoMemory}
use Rattle.proof_lines.specs.Problems.{PlainProblem}
use Rattle.proof_kernel.specs.Rules.{State, run}
use Rattle.proof_kernel.specs.Evidence.{is_fresh, rows_hold, range_holds}

-- a refusal of a log names the first line that breaks a rule, with that rule
abbrev pub IsRunTold : KernelRefused → Result State (ℕ × Why) → Type 0
IsRunTold (BadLine k w) given = given ≡ Err (k, w)
IsRunTold NoEmptyClause given = ⊥
IsRunTold NoMemory given = Unit {0}

-- an answer to a whole log: accepted where an empty clause stands, the first bad line, or no empty clause
abbrev pub IsJudged : List Line → Result State (ℕ × Why) → Result Checked KernelRefused → Type 0
IsJudged lines given (Err (BadLine k w)) = given ≡ Err (k, w)
IsJudged lines given (Err NoMemory) = Unit {0}
IsJudged lines (Ok s) (Ok c) = (s.empty ≡ true) × (c.lines ≡ length lines)
IsJudged lines (Ok s) (Err NoEmptyClause) = s.empty ≡ false
IsJudged lines (Err e) (Ok c) = ⊥
IsJudged lines (Err e) (Err NoEmptyClause) = ⊥

-- a log with evidence: the first bad line, or else, with the number of lines, whether the evidence of a test is there
abbrev pub judged : (State → Bool) → List Line → Result State (ℕ × Why)
    → Result (Unit {0}) (ℕ × Why)
judged test lines (Err e) = Err e
judged test lines (Ok s) = cond (test s) (Ok tt) (Err (length lines, Evidence))

-- an answer to a log with evidence
abbrev pub Answers : Result (Unit {0}) (ℕ × Why) → Result (Unit {0}) KernelRefused → Type 0
Answers given (Ok u) = given ≡ Ok tt
Answers given (Err (BadLine k w)) = given ≡ Err (k, w)
Answers given (Err NoEmptyClause) = ⊥
Answers given (Err NoMemory) = Unit {0}

-- the evidence of a spent budget: the log is fresh and has exactly so many lines
abbrev pub lines_judged : PlainProblem → List Line → ℕ → Result (Unit {0}) (ℕ × Why)
lines_judged p lines budget =
    judged (λ s. (length lines == budget) && is_fresh s) lines (run p lines)

-- the evidence of too many rows
abbrev pub rows_judged : PlainProblem → RowsEvidence → Result (Unit {0}) (ℕ × Why)
rows_judged p e = judged (λ s. is_fresh s && rows_hold s e.used e.steps) e.log (run p e.log)

-- the evidence of a number beyond the range
abbrev pub range_judged : PlainProblem → RangeEvidence → Result (Unit {0}) (ℕ × Why)
range_judged p e =
    judged (λ s. is_fresh s && range_holds s e.used e.steps e.what) e.log (run p e.log)
