-- A report that comes in pieces.
use Rattle.std.specs.Prelude.{◌≡◌, ℕ, ◌≤◌, ◌==◌, true, not, List, length, Option}
use Rattle.std.specs.List.{list_all}
use Rattle.std.specs.Io.KnownBytes.{Consumes}
use Rattle.report_verifier.specs.Verifier.{VerifierForm, AreFed}
use Rattle.report_verifier.specs.Verified.{most_report_bytes}

-- No line of bytes is ended: there is no line feed in them.
abbrev pub IsUnended : List ℕ → Type 0
IsUnended bytes = list_all (λ b. not (b == 10)) bytes ≡ true

-- A source gave some bytes, no more than a report has. All their lines are fed, and what stands behind them is kept.
pub record AreTaken (left_then left_now : Option (List ℕ)) (v w : VerifierForm)
    (line : List ℕ) : Type 0 where
  pub bytes : List ℕ
  pub given : Consumes left_then left_now bytes
  pub few : length bytes ≤ most_report_bytes
  pub fed : AreFed v bytes w line
