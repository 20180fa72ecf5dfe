-- That the inputs of a job were read to their ends.
use Rattle.std.proofs.Common.{◌≡◌, ℕ, ◌<◌, List, length, Option, None, Some, IfSome, sym, subst}
use Rattle.std.specs.Prelude.{Result, Ok, Err}
use Rattle.std.specs.Io.KnownBytes.{IsAtEnd}
use Rattle.byte_ports.specs.Told.{Tells, IsReadWithin}
use Rattle.byte_ports.proofs.Sources.{read_at_end, read_of_many}
use Rattle.spec_core.specs.Specification.{Specification}
use Rattle.report_lines.specs.declared.head.Tally.{Tally}
use Rattle.report_verifier.specs.declared.refused.VerifyRefused.{VerifyRefused}
use Rattle.report_verifier.specs.declared.refused.VerifyRefused.TheVariants as verifying
use Rattle.report_verifier.specs.Verified.{most_report_bytes, IsVerifiedFrom, IsOnAll}
use Rattle.report_upgrader.specs.declared.refused.UpgradeRefused.{UpgradeRefused}
use Rattle.report_upgrader.specs.declared.refused.UpgradeRefused.TheVariants as upgrading
use Rattle.report_upgrader.specs.Upgrading.{IsUpgradedFrom}
use Rattle.cise_program.specs.declared.words.Job.{Job}
use Rattle.cise_program.specs.Outside.{Told}
use Rattle.cise_program.specs.Words.{AreRead}
use Rattle.cise_program.specs.commands.Verify.{text_said}

-- where too many bytes are told
told_many : (most : ℕ) (told : Option (List ℕ)) (bytes : List ℕ) → Tells told bytes → most < length bytes → IfSome told (λ given. most < length given)
told_many most None bytes t many = tt
told_many most (Some given) bytes t many = subst (λ (bs : List ℕ). most < length bs) (sym t) many

-- what the verifier says was said behind the end, or of too many bytes
pub verified_to_end : (d : Specification) (told after : Option (List ℕ)) (x : Result Tally VerifyRefused) (text : List ℕ) → text_said x ≡ Some text → IsVerifiedFrom d told x → (IsOnAll x → IsAtEnd after)
    → IsReadWithin most_report_bytes told after
verified_to_end d told after (Ok tally) text e v end = read_at_end most_report_bytes told after (end tt)
verified_to_end d told after (Err verifying.Long) text e (bytes, t, many) end = read_of_many most_report_bytes told after (told_many most_report_bytes told bytes t many)
verified_to_end d told after (Err (verifying.Line n k)) text e v end = read_at_end most_report_bytes told after (end tt)
verified_to_end d told after (Err verifying.Fault) text e v end = absurd cc
verified_to_end d told after (Err verifying.Memory) text e v end = absurd cc

-- so with an upgrade that is refused for too many bytes
pub long_upgrade : (d : Specification) (told before now after : Option (List ℕ)) (x : UpgradeRefused) → x ≡ upgrading.Long → IsUpgradedFrom d told before now (Err x) → IsReadWithin most_report_bytes told after
long_upgrade d told before now after upgrading.Long is (bytes, t, u) = read_of_many most_report_bytes told after (told_many most_report_bytes told bytes t u.0)
long_upgrade d told before now after (upgrading.Line n k) is u = absurd cc
long_upgrade d told before now after upgrading.Fault is u = absurd cc
long_upgrade d told before now after upgrading.WriteFault is u = absurd cc
long_upgrade d told before now after upgrading.Memory is u = absurd cc

-- what is read for a job is read for the words that ask for it
pub AreRead-asked : (job : Option Job) (asked : Option Job) (status : ℕ) (before after : Told) → job ≡ asked → AreRead job status before after → AreRead asked status before after
AreRead-asked job asked status before after e r = subst (λ (j : Option Job). AreRead j status before after) e r
