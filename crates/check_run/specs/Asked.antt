-- What a verdict has to be on the obligation that is asked, with logs of so many lines.
use Rattle.std.specs.Prelude.{◌≡◌, true, length}
use Rattle.diff_bounds.specs.Differences.{problem_fits}
use Rattle.ground_numbers.specs.Problem.{problem_of}
use Rattle.proof_report.specs.declared.verdict.Verdict.{Verdict}
use Rattle.report_bytes.specs.Showing.{shown_verdict, IsFit}
use Rattle.check_run.specs.declared.question.Question.{Question}
use Rattle.check_run.specs.Good.{IsGood}
use Rattle.check_run.specs.Decided.{IsDecided}
use Rattle.check_run.specs.Reports.{written_version}

-- a verdict on it is good
abbrev pub IsGoodFor : Question → Verdict → Type 0
IsGoodFor asked v =
    IsGood asked.spec.now asked.budget asked.ob.now (shown_verdict asked.spec.now v)

-- a verdict on it can stand in a report
abbrev pub IsFitFor : Question → Verdict → Type 0
IsFitFor asked v = IsFit asked.spec.now written_version asked.ob.now v

-- all rows of its problem are differences
abbrev pub HasDifferences : Question → Type 0
HasDifferences asked = problem_fits (problem_of asked.spec.now asked.ob.now) ≡ true

-- a verdict on it is a proof or a refutation, or else the budget was too small
abbrev pub IsDecidedFor : Question → Verdict → Type 0
IsDecidedFor asked v =
    IsDecided (length (problem_of asked.spec.now asked.ob.now).atoms) asked.budget v
