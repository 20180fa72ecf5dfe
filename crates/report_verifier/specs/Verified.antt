-- What is answered to the bytes of a report.
use Rattle.std.specs.Prelude.{◌≡◌, ◌⊎◌, ℕ, ◌<◌, ◌≤◌, true, List, length, Option, Some, None, Result, Ok, Err}
use Rattle.std.specs.List.{fold}
use Rattle.byte_ports.specs.Told.{Tells}
use Rattle.spec_core.specs.Specification.{Specification}
use Rattle.report_lines.specs.declared.head.Tally.{Tally}
use Rattle.proof_report.specs.declared.kind.Fault.{Fault}
use Rattle.proof_report.specs.Verdicts.{VerdictForm, ReportForm, is_report}
use Rattle.proof_report.specs.Events.{no_verdicts, with_verdict}
use Rattle.report_bytes.specs.Bytes.{report_bytes}
use Rattle.report_bytes.specs.Reading.{first_fault}
use Rattle.report_verifier.specs.Rules.{verdict_fault}
use Rattle.report_verifier.specs.declared.refused.VerifyRefused.{VerifyRefused}
use Rattle.report_verifier.specs.declared.refused.VerifyRefused.TheVariants as refused

-- a report has at most 64 MiB
abbrev pub most_report_bytes : ℕ
most_report_bytes = 67108864

-- how many verdicts of each kind there are
abbrev pub tally_of : List VerdictForm → Tally
tally_of vs = fold (λ t v. with_verdict v t) no_verdicts vs

-- Bytes are those of this report.
pub record AreBytesOf (d : Specification) (bytes : List ℕ) (r : ReportForm) : Type 0 where
  pub can_stand : is_report d r ≡ true
  pub same : bytes ≡ report_bytes d r

-- They are those of a report whose verdicts have no fault, so many of each kind.
pub record IsAccepted (d : Specification) (bytes : List ℕ) (tally : Tally) : Type 0 where
  pub report : ReportForm
  pub bytes_of : AreBytesOf d bytes report
  pub sound : verdict_fault d report ≡ None
  pub counts : tally ≡ tally_of report.verdicts

-- They have this fault: as a text, or else, being those of a report, in its verdicts.
abbrev pub IsFaultOf : Specification → List ℕ → Fault → Type 0
IsFaultOf d bytes fault =
    (first_fault d bytes ≡ Some fault)
    ⊎ ((r : ReportForm) × AreBytesOf d bytes r × (verdict_fault d r ≡ Some fault))

-- What is answered to bytes.
abbrev pub IsVerified : Specification → List ℕ → Result Tally VerifyRefused → Type 0
IsVerified d bytes (Ok tally) = (length bytes ≤ most_report_bytes) × IsAccepted d bytes tally
IsVerified d bytes (Err (refused.Line n k)) =
    (length bytes ≤ most_report_bytes) × IsFaultOf d bytes (record { number = n; kind = k })
IsVerified d bytes (Err refused.Long) = most_report_bytes < length bytes
IsVerified d bytes (Err refused.Fault) = Unit {0}
IsVerified d bytes (Err refused.Memory) = Unit {0}

-- What is answered to the bytes that a source gives.
abbrev pub IsVerifiedFrom : Specification → Option (List ℕ) → Result Tally VerifyRefused → Type 0
IsVerifiedFrom d told result = (bytes : List ℕ) × Tells told bytes × IsVerified d bytes result

-- An answer to all bytes that a source gave: a report is accepted, or a line is refused.
abbrev pub IsOnAll : Result Tally VerifyRefused → Type 0
IsOnAll (Ok tally) = Unit {0}
IsOnAll (Err (refused.Line n k)) = Unit {0}
IsOnAll (Err refused.Long) = ⊥
IsOnAll (Err refused.Fault) = ⊥
IsOnAll (Err refused.Memory) = ⊥
