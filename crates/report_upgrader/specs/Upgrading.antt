-- What is answered to the bytes of a report that is to be upgraded, and what is written for them.
use Rattle.std.specs.Prelude.{◌≡◌, ◌⊎◌, ℕ, ◌≤◌, List, take, length, Option, Result, Ok, Err}
use Rattle.std.specs.Io.KnownBytes.{Keeps, Appends}
use Rattle.byte_ports.specs.Told.{Tells}
use Rattle.spec_core.specs.Specification.{Specification}
use Rattle.report_lines.specs.declared.head.Tally.{Tally}
use Rattle.report_bytes.specs.Bytes.{report_bytes}
use Rattle.report_verifier.specs.declared.refused.VerifyRefused.{VerifyRefused}
use Rattle.report_verifier.specs.declared.refused.VerifyRefused.TheVariants as verifying
use Rattle.report_verifier.specs.Verified.{most_report_bytes, IsAccepted, IsVerified}
use Rattle.report_upgrader.specs.Reports.{upgraded_report}
use Rattle.report_upgrader.specs.declared.refused.UpgradeRefused.{UpgradeRefused}
use Rattle.report_upgrader.specs.declared.refused.UpgradeRefused.TheVariants as refused

-- Bytes are those of a report whose verdicts have no fault, so many of each kind; and a text is that of the upgraded report.
pub record IsUpgradedText (d : Specification) (bytes : List ℕ) (tally : Tally)
    (text : List ℕ) : Type 0 where
  pub accepted : IsAccepted d bytes tally
  pub text_is : text ≡ report_bytes d (upgraded_report accepted.report)

-- Nothing was written; or the bytes are those of such a report, and a front of the text was.
abbrev pub IsFront : Specification → List ℕ → Option (List ℕ) → Option (List ℕ) → Type 0
IsFront d bytes before after =
    Keeps before after
    ⊎ ((tally : Tally) × (text : List ℕ) × (n : ℕ) × (length bytes ≤ most_report_bytes)
    × IsUpgradedText d bytes tally text × Appends before after (take n text))

-- a report that doesn't stand is refused as it is verified
abbrev pub refused_as : VerifyRefused → UpgradeRefused
refused_as verifying.Long = refused.Long
refused_as (verifying.Line n k) = refused.Line n k
refused_as verifying.Fault = refused.Fault
refused_as verifying.Memory = refused.Memory

-- What is answered to bytes, by what the sink held before and after. A report that stands is upgraded. One that doesn't is refused as it
-- is verified, and nothing is written.
abbrev pub IsUpgraded : Specification → List ℕ → Option (List ℕ) → Option (List ℕ)
    → Result Tally UpgradeRefused → Type 0
IsUpgraded d bytes before after (Ok tally) =
    (length bytes ≤ most_report_bytes) × (text : List ℕ) × IsUpgradedText d bytes tally text
    × Appends before after text
IsUpgraded d bytes before after (Err refused.Long) =
    IsVerified d bytes (Err verifying.Long) × Keeps before after
IsUpgraded d bytes before after (Err (refused.Line n k)) =
    IsVerified d bytes (Err (verifying.Line n k)) × Keeps before after
IsUpgraded d bytes before after (Err refused.Fault) = Keeps before after
IsUpgraded d bytes before after (Err refused.WriteFault) = IsFront d bytes before after
IsUpgraded d bytes before after (Err refused.Memory) = IsFront d bytes before after

-- What is answered to the bytes that a source gives.
abbrev pub IsUpgradedFrom : Specification → Option (List ℕ) → Option (List ℕ) → Option (List ℕ)
    → Result Tally UpgradeRefused → Type 0
IsUpgradedFrom d told before after result =
    (bytes : List ℕ) × Tells told bytes × IsUpgraded d bytes before after result

-- An answer to all bytes that a source gave.
abbrev pub IsOnAll : Result Tally UpgradeRefused → Type 0
IsOnAll (Ok tally) = Unit {0}
IsOnAll (Err (refused.Line n k)) = Unit {0}
IsOnAll (Err refused.Long) = ⊥
IsOnAll (Err refused.Fault) = ⊥
IsOnAll (Err refused.WriteFault) = Unit {0}
IsOnAll (Err refused.Memory) = ⊥

-- An answer before which nothing was written.
abbrev pub IsUnwritten : Result Tally UpgradeRefused → Type 0
IsUnwritten (Ok tally) = ⊥
IsUnwritten (Err (refused.Line n k)) = Unit {0}
IsUnwritten (Err refused.Long) = Unit {0}
IsUnwritten (Err refused.Fault) = Unit {0}
IsUnwritten (Err refused.WriteFault) = ⊥
IsUnwritten (Err refused.Memory) = ⊥
