-- What is said of bytes that are held, and of those that a source tells.
use Rattle.std.proofs.Common.{◌≡◌, ℕ, ◌<◌, ◌≤◌, List, length, Option, Some, None, Result, Ok, Err, inl, inr, refl, sym, ap, ◌∙◌}
use Rattle.std.specs.Prelude.{IfSome, IsErrOf}
use Rattle.std.specs.Io.KnownBytes.{Appends}
use Rattle.std.proofs.KnownBytes.{Keeps-refl}
use Rattle.byte_ports.specs.Written.{IsFrontWritten}
use Rattle.byte_ports.proofs.Sources.{long_told, some_told}
use Rattle.spec_core.specs.Specification.{Specification}
use Rattle.report_lines.specs.declared.head.Tally.{Tally}
use Rattle.report_bytes.specs.Bytes.{report_bytes}
use Rattle.report_upgrader.specs.Reports.{upgraded_report}
use Rattle.report_verifier.specs.declared.refused.VerifyRefused.{VerifyRefused}
use Rattle.report_verifier.specs.declared.refused.VerifyRefused.TheVariants as verifying
use Rattle.report_verifier.specs.Verified.{most_report_bytes, IsAccepted, IsVerified}
use Rattle.report_upgrader.specs.declared.refused.UpgradeRefused.{UpgradeRefused}
use Rattle.report_upgrader.specs.declared.refused.UpgradeRefused.TheVariants as refused
use Rattle.report_upgrader.specs.Upgrading.{refused_as, IsFront, IsUpgraded, IsUpgradedFrom}

-- ---- what is written of them

-- a report that is refused, before anything is written
pub refused_so : (d : Specification) (bytes : List ℕ) (held : Option (List ℕ)) (why : VerifyRefused) → IsVerified d bytes (Err why) → IsUpgraded d bytes held held (Err (refused_as why))
refused_so d bytes held verifying.Long v = (v, Keeps-refl held)
refused_so d bytes held (verifying.Line n k) v = (v, Keeps-refl held)
refused_so d bytes held verifying.Fault v = Keeps-refl held
refused_so d bytes held verifying.Memory v = inl (Keeps-refl held)

-- the whole upgraded text
pub written_so : (d : Specification) (bytes : List ℕ) (tally : Tally) (before after : Option (List ℕ)) (accepted : IsAccepted d bytes tally) → length bytes ≤ most_report_bytes → Appends before after (report_bytes d (upgraded_report accepted.report))
    → IsUpgraded d bytes before after (Ok tally)
written_so d bytes tally before after accepted short written = (short, report_bytes d (upgraded_report accepted.report), record { accepted = accepted; text_is = refl }, written)

-- a front of it
pub stopped_so : (d : Specification) (bytes : List ℕ) (tally : Tally) (before after : Option (List ℕ)) (accepted : IsAccepted d bytes tally) → length bytes ≤ most_report_bytes → IsFrontWritten (report_bytes d (upgraded_report accepted.report)) before after
    → IsFront d bytes before after
stopped_so d bytes tally before after accepted short (n, written) =
    inr (tally, report_bytes d (upgraded_report accepted.report), n, short, record { accepted = accepted; text_is = refl }, written)

-- ---- what a refusal is

same_error : {T E : Type 0} (x y : E) → IsErrOf {T = T} (Err x) y → x ≡ y
same_error x y e = cc

fault_as : (why : VerifyRefused) → refused_as why ≡ refused.Fault → why ≡ verifying.Fault
fault_as verifying.Long e = absurd cc
fault_as (verifying.Line n k) e = absurd cc
fault_as verifying.Fault e = refl
fault_as verifying.Memory e = absurd cc

not_written : (why : VerifyRefused) → refused_as why ≡ refused.WriteFault → ⊥
not_written verifying.Long e = cc
not_written (verifying.Line n k) e = cc
not_written verifying.Fault e = cc
not_written verifying.Memory e = cc

-- no read fails where none failed that was verified
pub no_read : (why : VerifyRefused) (x : UpgradeRefused) → x ≡ refused_as why → (IsErrOf {T = Tally} (Err why) verifying.Fault → ⊥) → IsErrOf {T = Tally} (Err x) refused.Fault → ⊥
no_read why x is none e = none (ap Err (fault_as why (sym is ∙ same_error x refused.Fault e)))

-- and no write
pub no_write : (why : VerifyRefused) (x : UpgradeRefused) → x ≡ refused_as why → IsErrOf {T = Tally} (Err x) refused.WriteFault → ⊥
no_write why x is e = not_written why (sym is ∙ same_error x refused.WriteFault e)

-- ---- the bytes of a source

pub told_upgraded : (d : Specification) (left : Option (List ℕ)) (bytes : List ℕ) (before after : Option (List ℕ)) (result : Result Tally UpgradeRefused) → IfSome left (λ told. bytes ≡ told) → IsUpgraded d bytes before after result → IsUpgradedFrom d left before after result
told_upgraded d None bytes before after result h u = (bytes, tt, u)
told_upgraded d (Some told) bytes before after result h u = (bytes, sym h, u)

-- the bytes that were read are those that the source tells
pub read_as : (left : Option (List ℕ)) (items bytes : List ℕ) → bytes ≡ items → IfSome left (λ told. items ≡ told) → IfSome left (λ told. bytes ≡ told)
read_as None items bytes e h = tt
read_as (Some told) items bytes e h = e ∙ h

pub too_long : (d : Specification) (left held : Option (List ℕ)) → IfSome left (λ told. most_report_bytes < length told) → IsUpgradedFrom d left held held (Err refused.Long)
too_long d left held h = long_told most_report_bytes (λ bytes. IsUpgraded d bytes held held (Err refused.Long)) left h (λ bytes long. (long, Keeps-refl held))

pub not_told : (d : Specification) (left held : Option (List ℕ)) → IsUpgradedFrom d left held held (Err refused.Fault) × IsUpgradedFrom d left held held (Err refused.Memory)
not_told d left held = let b = some_told left in ((b.0, b.1, Keeps-refl held), (b.0, b.1, inl (Keeps-refl held)))
