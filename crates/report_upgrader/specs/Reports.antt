-- The upgraded report: version 2, the same budget and verdicts, and each log that proves upgraded.
use Rattle.std.specs.Prelude.{ℕ, nat_le, Bool, true, length, map}
use Rattle.report_lines.specs.Fields.{most_count}
use Rattle.proof_report.specs.Verdicts.{VerdictForm, proved, refuted, instances, lines, rows, range, ReportForm}
use Rattle.report_upgrader.specs.UpgradedLogs.{upgraded}

-- a verdict with its log upgraded, where that proves
abbrev pub upgraded_verdict : VerdictForm → VerdictForm
upgraded_verdict (proved log) = proved (upgraded log)
upgraded_verdict (refuted p es) = refuted p es
upgraded_verdict instances = instances
upgraded_verdict (lines log) = lines log
upgraded_verdict (rows log r) = rows log r
upgraded_verdict (range log r) = range log r

-- the version of the format in which logs may drop clauses
abbrev pub upgraded_version : ℕ
upgraded_version = 2

-- THE UPGRADED REPORT.
abbrev pub upgraded_report : ReportForm → ReportForm
upgraded_report r =
    record {
      version = upgraded_version;
      budget = r.budget;
      verdicts = map upgraded_verdict r.verdicts;
    }

-- whether a log that proves has a number of lines, upgraded, that a report can show
abbrev pub has_room : VerdictForm → Bool
has_room (proved log) = nat_le (length (upgraded log)) most_count
has_room (refuted p es) = true
has_room instances = true
has_room (lines log) = true
has_room (rows log r) = true
has_room (range log r) = true
