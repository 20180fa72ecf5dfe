-- What `check` answers for a specification.
use Rattle.std.specs.Prelude.{◌≡◌, ℕ, List}
use Rattle.spec_core.specs.Specification.{Specification}
use Rattle.report_lines.specs.declared.head.Tally.{Tally}
use Rattle.proof_report.specs.Events.{outcome_of}
use Rattle.check_run.specs.Reports.{IsChecked, IsFront, status_of}

-- The report of a good verdict on each obligation of the specification, with a budget of log lines, and the status that they come to: 0
-- where all are proved, 1 where one is refuted, else 5.
pub record IsReport (budget : ℕ) (d : Specification) (status : ℕ) (text : List ℕ) : Type 0 where
  pub tally : Tally
  pub checked : IsChecked d budget tally text
  pub status_is : status ≡ status_of (outcome_of tally)

-- what is left of a check that is stopped
abbrev pub IsReportFront : ℕ → Specification → List ℕ → Type 0
IsReportFront budget d front = IsFront d budget front
