use Rattle.std.proofs.Common.{◌≡◌, ℕ, true, None, ◌∙◌}
use Rattle.obligation_list.specs.declared.obligation.Obligation.{Obligation}
use Rattle.proof_report.specs.declared.verdict.Verdict.{Verdict}
use Rattle.proof_report.specs.Verdicts.{is_verdict}
use Rattle.proof_report.specs.Events.{no_verdicts}
use Rattle.report_bytes.specs.Showing.{report_on, shown_verdict}
use Rattle.check_run.specs.Good.{IsGood}
use Rattle.check_run.specs.Reports.{forms_of, written_version}
use Rattle.report_verifier.specs.Rules.{rule_fault}
use Rattle.cise_program.proofs.CheckedVerdicts.{good_valid}
use Rattle.cise_program.proofs.CheckedReports.{same_count, no_fault}
use Rattle.cise_program.proofs.checked.law_checked_is_verified.Goals as goal

pub returns : goal.returns
returns c = λ d budget tally text typed least most checked short.
    let read = c.law_checked_is_read.ensures d budget tally text typed least most checked in
    let sound : (line : ℕ) (ob : Obligation) (v : Verdict) → is_verdict d written_version ob (shown_verdict d v) ≡ true → IsGood d budget ob (shown_verdict d v) → rule_fault d budget line ob (shown_verdict d v) ≡ None =
    λ line ob v fit good. (c.law_valid_verdicts.ensures d written_version budget line ob (shown_verdict d v) fit).1 (good_valid d budget ob v good) in (
      short,
      record {
        report = report_on d written_version budget checked.verdicts;
        bytes_of = record { can_stand = read.0; same = read.1 };
        sound = no_fault d budget sound checked.verdicts checked.good read.0;
        counts = checked.tally_is ∙ same_count no_verdicts (forms_of d checked.verdicts);
      },
    )
