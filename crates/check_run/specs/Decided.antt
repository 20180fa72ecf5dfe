-- What can leave an obligation undecided whose rows are differences.
use Rattle.std.specs.Prelude.{ℕ, ◌^◌, ◌≤◌}
use Rattle.proof_report.specs.declared.verdict.Cause.{Cause}
use Rattle.proof_report.specs.declared.verdict.Cause.TheVariants as causes
use Rattle.proof_report.specs.declared.verdict.Verdict.{Verdict}
use Rattle.proof_report.specs.declared.verdict.Verdict.TheVariants as verdicts

-- the budget alone stops a search over so many atoms, and only one of few lines
abbrev pub IsSmallBudget : ℕ → ℕ → Cause → Type 0
IsSmallBudget atoms budget causes.Instances = ⊥
IsSmallBudget atoms budget (causes.Lines log) = budget ≤ 3 ^ atoms
IsSmallBudget atoms budget (causes.Rows e) = ⊥
IsSmallBudget atoms budget (causes.Range e) = ⊥

-- A verdict is a proof or a refutation, or else the budget was too small.
abbrev pub IsDecided : ℕ → ℕ → Verdict → Type 0
IsDecided atoms budget (verdicts.Proved log) = Unit {0}
IsDecided atoms budget (verdicts.Refuted w) = Unit {0}
IsDecided atoms budget (verdicts.Undecided cause) = IsSmallBudget atoms budget cause
