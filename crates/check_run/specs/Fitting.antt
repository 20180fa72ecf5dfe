-- Which verdicts the lines of a report can hold: a number in a line, and the length of a list in it, is below 2^32, and a whole number
-- is in the range of a row.
use Rattle.std.specs.Prelude.{Bool, true, false, ◌&&◌}
use Rattle.spec_core.specs.Specification.{Specification}
use Rattle.obligation_list.specs.declared.obligation.Obligation.{Obligation}
use Rattle.report_lines.specs.Evidence.{rows_format, range_format}
use Rattle.proof_report.specs.declared.verdict.Cause.{Cause}
use Rattle.proof_report.specs.declared.verdict.Cause.TheVariants as causes
use Rattle.proof_report.specs.declared.verdict.Verdict.{Verdict}
use Rattle.proof_report.specs.declared.verdict.Verdict.TheVariants as verdicts
use Rattle.proof_report.specs.Verdicts.{is_log}
use Rattle.report_bytes.specs.Showing.{CanBeShown}

-- lines hold the log and the evidence of a cause
abbrev pub holds_cause : Cause → Bool
holds_cause causes.Instances = true
holds_cause (causes.Lines log) = is_log false log
holds_cause (causes.Rows e) =
    is_log false e.log && rows_format.fits (record { used = e.used; steps = e.steps })
holds_cause (causes.Range e) =
    is_log false e.log
    && range_format.fits (record { used = e.used; steps = e.steps; what = e.what })

-- lines hold the log or the evidence of a verdict
abbrev pub holds_verdict : Verdict → Bool
holds_verdict (verdicts.Proved log) = is_log false log
holds_verdict (verdicts.Refuted w) = true
holds_verdict (verdicts.Undecided cause) = holds_cause cause

-- the witness of a verdict can be shown
abbrev pub HasShown : Specification → Obligation → Verdict → Type 0
HasShown d ob (verdicts.Proved log) = Unit {0}
HasShown d ob (verdicts.Refuted w) = CanBeShown d ob w
HasShown d ob (verdicts.Undecided cause) = Unit {0}
