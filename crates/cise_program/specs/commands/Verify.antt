-- What `verify` answers for a specification and the bytes of a report.
use Rattle.std.specs.Prelude.{◌≡◌, ℕ, List, [], ◌∷◌, ◌++◌, Option, None, Some, Result, Ok, Err, codes, decimal}
use Rattle.byte_ports.specs.Ending.{IsFrontOfOne}
use Rattle.spec_core.specs.Specification.{Specification}
use Rattle.report_lines.specs.declared.head.Tally.{Tally}
use Rattle.proof_report.specs.declared.kind.ReportKind.{ReportKind}
use Rattle.proof_report.specs.declared.kind.ReportKind.TheVariants as kind
use Rattle.proof_report.specs.Events.{outcome_of}
use Rattle.proof_report.specs.Texts.{end_text}
use Rattle.spec_from_bytes.specs.Lines.{line}
use Rattle.check_run.specs.Reports.{status_of}
use Rattle.report_verifier.specs.declared.refused.VerifyRefused.{VerifyRefused}
use Rattle.report_verifier.specs.declared.refused.VerifyRefused.TheVariants as refused
use Rattle.report_verifier.specs.Verified.{IsVerified}

-- ---- texts

-- the word of a kind of fault
abbrev pub kind_word : ReportKind → List ℕ
kind_word kind.Form = codes "form"
kind_word kind.Obligation = codes "obligation"
kind_word kind.Summary = codes "summary"
kind_word kind.Place = codes "place"
kind_word kind.Pivot = codes "pivot"
kind_word kind.Multiplier = codes "multiplier"
kind_word kind.Contradiction = codes "contradiction"
kind_word kind.Range = codes "range"
kind_word kind.SplitAgain = codes "splitagain"
kind_word kind.SplitCause = codes "splitcause"
kind_word kind.NoEmpty = codes "noempty"
kind_word kind.Witness = codes "witness"
kind_word kind.Evidence = codes "evidence"
kind_word kind.Dropped = codes "dropped"

-- how many verdicts of each kind were verified, and what they come to
abbrev pub verified_text : Tally → List ℕ
verified_text tally = line (codes "cise" ∷ codes "verify" ∷ codes "1" ∷ []) ++ end_text tally

-- a report that is refused, and why
abbrev pub refused_report : List (List ℕ) → List ℕ
refused_report why = line (codes "refused" ∷ codes "report" ∷ why)

-- ---- answers

-- The status of what the verifier says: that of the verdicts of an accepted report, and 4 of a refused one.
abbrev pub status_said : Result Tally VerifyRefused → ℕ
status_said (Ok tally) = status_of (outcome_of tally)
status_said (Err why) = 4

-- The text of it. Where a source has failed or memory ran out, there is none.
abbrev pub text_said : Result Tally VerifyRefused → Option (List ℕ)
text_said (Ok tally) = Some (verified_text tally)
text_said (Err refused.Long) = Some (refused_report (codes "long" ∷ []))
text_said (Err (refused.Line n k)) =
    Some (refused_report (codes "line" ∷ decimal n ∷ kind_word k ∷ []))
text_said (Err refused.Fault) = None
text_said (Err refused.Memory) = None

-- What the verifier says of the bytes of a report, as a status and a text.
pub record IsVerdict (d : Specification) (bytes : List ℕ) (status : ℕ)
    (text : List ℕ) : Type 0 where
  pub said : Result Tally VerifyRefused
  pub verified : IsVerified d bytes said
  pub status_is : status ≡ status_said said
  pub text_is : text_said said ≡ Some text

-- what is left of it where it is stopped
abbrev pub IsVerdictFront : Specification → List ℕ → List ℕ → Type 0
IsVerdictFront d bytes front = IsFrontOfOne (IsVerdict d bytes) front
