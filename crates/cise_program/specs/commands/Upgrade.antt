-- What `upgrade` answers for a specification and the bytes of a report.
use Rattle.std.specs.Prelude.{◌≡◌, ◌⊎◌, ℕ, ◌≤◌, List, length}
use Rattle.byte_ports.specs.Ending.{IsFrontOfOne}
use Rattle.spec_core.specs.Specification.{Specification}
use Rattle.report_lines.specs.declared.head.Tally.{Tally}
use Rattle.proof_report.specs.Events.{outcome_of}
use Rattle.check_run.specs.Reports.{status_of}
use Rattle.report_verifier.specs.Verified.{most_report_bytes}
use Rattle.report_upgrader.specs.Upgrading.{IsUpgradedText}
use Rattle.cise_program.specs.commands.Verify.{IsVerdict}

-- The text of the upgraded report, where the report stands, and the status that its verdicts come to: 0 where all are proved, 1 where one is
-- refuted, else 5.
pub record IsUpgradedReport (d : Specification) (bytes : List ℕ) (status : ℕ)
    (text : List ℕ) : Type 0 where
  pub tally : Tally
  pub short : length bytes ≤ most_report_bytes
  pub upgraded : IsUpgradedText d bytes tally text
  pub status_is : status ≡ status_of (outcome_of tally)

-- Or else what `verify` says of the bytes that are refused, with status 4.
abbrev pub IsUpgraded : Specification → List ℕ → ℕ → List ℕ → Type 0
IsUpgraded d bytes status text =
    IsUpgradedReport d bytes status text ⊎ ((status ≡ 4) × IsVerdict d bytes status text)

-- what is left of it where it is stopped
abbrev pub IsUpgradeFront : Specification → List ℕ → List ℕ → Type 0
IsUpgradeFront d bytes front = IsFrontOfOne (IsUpgraded d bytes) front
