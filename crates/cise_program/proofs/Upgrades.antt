-- An upgrade says what a verification says.
use Rattle.std.proofs.Common.{◌≡◌, ℕ, ◌≤◌, ◌<◌, List, [], ◌∷◌, length, take, Option, None, Some, inl, inr, refl, sym, subst, ◌∙◌, decimal, arith}
use Rattle.std.specs.Prelude.{Ok, Err, codes}
use Rattle.std.specs.Io.KnownBytes.{Appends}
use Rattle.byte_ports.specs.Faults.{IsFault}
use Rattle.byte_ports.specs.Ports.{Port}
use Rattle.byte_ports.specs.Told.{Tells}
use Rattle.byte_ports.specs.Ending.{IsOne, IsFrontOf, IsBroken, Ends}
use Rattle.byte_ports.proofs.Endings.{Ends-one}
use Rattle.spec_core.specs.Specification.{Specification}
use Rattle.report_lines.specs.declared.head.Tally.{Tally}
use Rattle.report_lines.specs.declared.head.Outcome.{Outcome}
use Rattle.report_lines.specs.declared.head.Outcome.TheVariants.{Accepted, Rejected, Undecided}
use Rattle.proof_report.specs.declared.kind.ReportKind.{ReportKind}
use Rattle.proof_report.specs.Events.{outcome_of}
use Rattle.check_run.specs.Reports.{status_of}
use Rattle.report_verifier.specs.declared.refused.VerifyRefused.{VerifyRefused}
use Rattle.report_verifier.specs.declared.refused.VerifyRefused.TheVariants as verifying
use Rattle.report_verifier.specs.Verified.{most_report_bytes, IsVerified, IsAccepted}
use Rattle.report_upgrader.specs.declared.refused.UpgradeRefused.{UpgradeRefused}
use Rattle.report_upgrader.specs.declared.refused.UpgradeRefused.TheVariants as upgrading
use Rattle.report_upgrader.specs.Upgrading.{IsUpgradedText, IsFront, IsUpgradedFrom, IsUnwritten}
use Rattle.cise_program.specs.Answer.{EndsWith}
use Rattle.cise_program.specs.commands.Verify.{kind_word, verified_text, refused_report, text_said, IsVerdict}
use Rattle.cise_program.specs.commands.Upgrade.{IsUpgraded, IsUpgradeFront}

-- what `verify` says of a report that is accepted
pub verdict_on : (d : Specification) (bytes : List ℕ) (tally : Tally) → length bytes ≤ most_report_bytes → IsAccepted d bytes tally → IsVerdict d bytes (status_of (outcome_of tally)) (verified_text tally)
verdict_on d bytes tally short accepted = record { said = Ok tally; verified = (short, accepted); status_is = refl; text_is = refl }

-- where an upgrade ends with a status, so does the verification of the same bytes
pub as_verdict : (d : Specification) (bytes : List ℕ) (status : ℕ) (text : List ℕ) → IsUpgraded d bytes status text → (said : List ℕ) × IsVerdict d bytes status said
as_verdict d bytes status text (inl u) =
    (verified_text u.tally, record { said = Ok u.tally; verified = (u.short, u.upgraded.accepted); status_is = u.status_is; text_is = refl })
as_verdict d bytes status text (inr (four, v)) = (text, v)

-- ---- how an upgrade ends

low_status : (o : Outcome) → status_of o < 6
low_status Accepted = omega arith
low_status Rejected = omega arith
low_status Undecided = omega arith

-- of a report that stands
pub upgraded_report_ends : (d : Specification) (bytes : List ℕ) (tally : Tally) (status : ℕ) (before after : Port) → status ≡ status_of (outcome_of tally)
    → (length bytes ≤ most_report_bytes) × (text : List ℕ) × IsUpgradedText d bytes tally text × Appends before.held after.held text
    → Ends (IsUpgraded d bytes) (IsUpgradeFront d bytes) status before after
upgraded_report_ends d bytes tally status before after is (short, text, up, written) = record {
  answered = λ below. (text, inl (record { tally = tally; short = short; upgraded = up; status_is = is }), written);
  write_fault = λ e. absurd (omega (arith, low, e));
  front = λ high. absurd (omega (arith, low, high));
  known = omega (arith, low);
}
  where
    low : status < 6
    low = let l = low_status (outcome_of tally) in omega (arith, l, is)

-- of one that is refused
pub refused_report_ends : (d : Specification) (bytes text : List ℕ) (why : VerifyRefused) (status : ℕ) (before after : Port) → IsVerified d bytes (Err why)
    → text_said (Err why) ≡ Some text → Ends (IsOne 4 text) (IsFrontOf text) status before after → Ends (IsUpgraded d bytes) (IsUpgradeFront d bytes) status before after
refused_report_ends d bytes text why status before after said is e =
    Ends-one (IsUpgraded d bytes) 4 text status before after (inr (refl, record { said = Err why; verified = said; status_is = refl; text_is = is })) e

broken_upgrade : (d : Specification) (bytes : List ℕ) (before after : Option (List ℕ)) → IsFront d bytes before after → IsBroken (IsUpgradeFront d bytes) before after
broken_upgrade d bytes before after (inl kept) = inl kept
broken_upgrade d bytes before after (inr (tally, text, n, short, up, written)) =
    inr (take n text, (status_of (outcome_of tally), text, inl (record { tally = tally; short = short; upgraded = up; status_is = refl }), (n, refl)), written)

-- of one that is stopped
pub stopped_upgrade_ends : (d : Specification) (bytes : List ℕ) (status : ℕ) (before after : Port) → 5 < status → status < 9 → (status ≡ 7 → IsFault before.faults after.faults)
    → IsFront d bytes before.held after.held → Ends (IsUpgraded d bytes) (IsUpgradeFront d bytes) status before after
stopped_upgrade_ends d bytes status before after high low fault front = record {
  answered = λ below. absurd (omega (arith, high, below));
  write_fault = fault;
  front = λ above. broken_upgrade d bytes before.held after.held front;
  known = low;
}

-- ---- what stopped an upgrade

-- the ending of what was answered to the bytes that a source tells
pub ends_told : (d : Specification) (told : Option (List ℕ)) (bytes : List ℕ) (status : ℕ) (before after : Port) → Tells told bytes
    → Ends (IsUpgraded d bytes) (IsUpgradeFront d bytes) status before after → EndsWith told (IsUpgraded d) (IsUpgradeFront d) status before after
ends_told d told bytes status before after t e = (bytes, t, e)

-- a report that stands
pub ok_ends : (d : Specification) (told : Option (List ℕ)) (tally : Tally) (status : ℕ) (before after : Port) → status ≡ status_of (outcome_of tally) → IsUpgradedFrom d told before.held after.held (Ok tally)
    → EndsWith told (IsUpgraded d) (IsUpgradeFront d) status before after
ok_ends d told tally status before after is (bytes, t, u) = ends_told d told bytes status before after t (upgraded_report_ends d bytes tally status before after is u)

-- one that is refused, behind which its refusal was written: nothing was written before
refused_ends : {K : Type 0} (port : K → Port) (old mid new : K) (d : Specification) (told : Option (List ℕ)) (bytes text : List ℕ) (why : VerifyRefused) (status : ℕ) → mid ≡ old → Tells told bytes
    → IsVerified d bytes (Err why) → text_said (Err why) ≡ Some text → Ends (IsOne 4 text) (IsFrontOf text) status (port mid) (port new)
    → EndsWith told (IsUpgraded d) (IsUpgradeFront d) status (port old) (port new)
refused_ends {K} port old mid new d told bytes text why status same t said is e =
    ends_told d told bytes status (port old) (port new) t
    (refused_report_ends d bytes text why status (port old) (port new) said is
    (subst (λ (k : K). Ends (IsOne 4 text) (IsFrontOf text) status (port k) (port new)) same e))

abbrev long_text : List ℕ
long_text = refused_report (codes "long" ∷ [])

abbrev line_text : ℕ → ReportKind → List ℕ
line_text n k = refused_report (codes "line" ∷ decimal n ∷ kind_word k ∷ [])

pub long_ends : {K : Type 0} (port : K → Port) (old mid new : K) (d : Specification) (told : Option (List ℕ)) (status : ℕ) (x : UpgradeRefused) → x ≡ upgrading.Long → (IsUnwritten (Err x) → mid ≡ old) → IsUpgradedFrom d told (port old).held (port mid).held (Err x)
    → ((text : List ℕ) → text_said (Err verifying.Long) ≡ Some text → Ends (IsOne 4 text) (IsFrontOf text) status (port mid) (port new))
    → EndsWith told (IsUpgraded d) (IsUpgradeFront d) status (port old) (port new)
long_ends port old mid new d told status upgrading.Long is same (bytes, t, u) e =
    refused_ends port old mid new d told bytes long_text verifying.Long status (same tt) t u.0 refl (e long_text refl)
long_ends port old mid new d told status (upgrading.Line n k) is same u e = absurd cc
long_ends port old mid new d told status upgrading.Fault is same u e = absurd cc
long_ends port old mid new d told status upgrading.WriteFault is same u e = absurd cc
long_ends port old mid new d told status upgrading.Memory is same u e = absurd cc

pub line_ends : {K : Type 0} (port : K → Port) (old mid new : K) (d : Specification) (told : Option (List ℕ)) (status : ℕ) (n : ℕ) (k : ReportKind) → mid ≡ old → IsUpgradedFrom d told (port old).held (port mid).held (Err (upgrading.Line n k))
    → ((text : List ℕ) → text_said (Err (verifying.Line n k)) ≡ Some text → Ends (IsOne 4 text) (IsFrontOf text) status (port mid) (port new))
    → EndsWith told (IsUpgraded d) (IsUpgradeFront d) status (port old) (port new)
line_ends port old mid new d told status n k same (bytes, t, u) e =
    refused_ends port old mid new d told bytes (line_text n k) (verifying.Line n k) status same t u.0 refl (e (line_text n k) refl)

-- one before which a read failed
pub fault_ends : (d : Specification) (told : Option (List ℕ)) (before after : Port) → IsUpgradedFrom d told before.held after.held (Err upgrading.Fault) → EndsWith told (IsUpgraded d) (IsUpgradeFront d) 6 before after
fault_ends d told before after (bytes, t, kept) =
    ends_told d told bytes 6 before after t (stopped_upgrade_ends d bytes 6 before after (omega arith) (omega arith) (λ e. absurd (omega (arith, e))) (inl kept))

-- one whose writing failed
pub write_fault_ends : (d : Specification) (told : Option (List ℕ)) (before after : Port) → IsUpgradedFrom d told before.held after.held (Err upgrading.WriteFault) → IsFault before.faults after.faults → EndsWith told (IsUpgraded d) (IsUpgradeFront d) 7 before after
write_fault_ends d told before after (bytes, t, front) fault =
    ends_told d told bytes 7 before after t (stopped_upgrade_ends d bytes 7 before after (omega arith) (omega arith) (λ e. fault) front)

-- one that lacked memory
pub memory_ends : (d : Specification) (told : Option (List ℕ)) (before after : Port) → IsUpgradedFrom d told before.held after.held (Err upgrading.Memory) → EndsWith told (IsUpgraded d) (IsUpgradeFront d) 8 before after
memory_ends d told before after (bytes, t, front) =
    ends_told d told bytes 8 before after t (stopped_upgrade_ends d bytes 8 before after (omega arith) (omega arith) (λ e. absurd (omega (arith, e))) front)

-- a text that was written is the one that is said
pub said_ends : (text items slice : List ℕ) (said : Option (List ℕ)) (status : ℕ) (before after : Port) → said ≡ Some items → said ≡ Some text → slice ≡ items → Ends (IsOne 4 slice) (IsFrontOf slice) status before after
    → Ends (IsOne 4 text) (IsFrontOf text) status before after
said_ends text items slice said status before after a b same e =
    let is : slice ≡ text = same ∙ one_text items text (sym a ∙ b) in
    subst (λ (x : List ℕ). Ends (IsOne 4 x) (IsFrontOf x) status before after) is e
  where
    one_text : (x y : List ℕ) → Some x ≡ Some y → x ≡ y
    one_text x y e = cc
