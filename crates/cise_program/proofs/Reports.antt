-- What a report says of its specification, where it was written by a check or verified.
use Rattle.std.proofs.Common.{◌≡◌, ℕ, ◌≤◌, true, List, refl, sym, subst, ap, ◌∙◌, inl, inr, arith}
use Rattle.std.specs.Prelude.{Result, Ok, Err, nat_le}
use Rattle.std.proofs.lemmas.Bool.{and_parts}
use Rattle.std.proofs.lemmas.Bool.Decides.{nat_tests}
use Rattle.spec_core.specs.Specification.{Specification}
use Rattle.spec_core.specs.Typed.{is_specification}
use Rattle.spec_trees.specs.Form.{TreeForm}
use Rattle.obligation_list.specs.Obligations.{obligations_of}
use Rattle.obligation_list.specs.Breaking.{Safe}
use Rattle.report_lines.specs.declared.head.Tally.{Tally}
use Rattle.proof_report.specs.Verdicts.{refuted, obligation_at}
use Rattle.report_lines.specs.Heads.{most_budget}
use Rattle.report_bytes.specs.Showing.{report_on}
use Rattle.proof_report.specs.Events.{outcome_of}
use Rattle.check_run.specs.Shown.{listing_of}
use Rattle.check_run.specs.Reports.{status_of, forms_of, written_version}
use Rattle.report_verifier.specs.declared.refused.VerifyRefused.{VerifyRefused}
use Rattle.report_verifier.specs.Verified.{IsVerified, IsAccepted}
use Rattle.spec_from_bytes.specs.Refusal.{IsReadAs, IsSpecificationOf}
use Rattle.cise_program.specs.Words.{is_within}
use Rattle.cise_program.specs.commands.Check.{IsReport}
use Rattle.cise_program.specs.commands.Verify.{status_said, IsVerdict}
use Rattle.cise_program.specs.Headline.{IsRefutedRightly, is_outcome}
use Rattle.cise_program.proofs.Laws.{TypesWell, OfChecks, OfReports}
use Rattle.cise_program.proofs.Outcomes.{accepted_zero, good_at}

-- what bytes are read as is a specification
pub is_specification-read : (bytes : List ℕ) (tree : TreeForm) (d : Specification) → TypesWell → IsReadAs bytes tree d → is_specification d ≡ true
is_specification-read bytes tree d well read = well tree d read.is_tree.read.0 read.typed

pub not_four : (status : ℕ) → is_outcome status ≡ true → status ≡ 4 → ⊥
not_four status o e = absurd (cc (subst (λ n. is_outcome n ≡ true) e o))

pub least : (n : ℕ) → nat_le 1 n ≡ true → 1 ≤ n
least n h = grind (arith, nat_tests)

pub most : (n : ℕ) → nat_le n most_budget ≡ true → n ≤ 1000000
most n h = grind (arith, nat_tests)

-- ---- checks

pub safe_checked : (d : Specification) (budget : ℕ) (text : List ℕ) → OfChecks → is_specification d ≡ true → IsReport budget d 0 text → Safe d
safe_checked d budget text laws is r =
    let accepted = accepted_zero (outcome_of r.tally) r.status_is in
    laws.safe d budget (forms_of d r.checked.verdicts) is r.checked.good (ap outcome_of (sym r.checked.tally_is) ∙ accepted)

pub right_checked : (bytes : List ℕ) (d : Specification) (budget status : ℕ) (text : List ℕ) → OfChecks → IsSpecificationOf bytes d → is_specification d ≡ true → is_within most_budget budget ≡ true
    → IsReport budget d status text → IsRefutedRightly bytes text
right_checked bytes d budget status text laws read is within r =
    let vs = r.checked.verdicts in
    let limits = and_parts (nat_le 1 budget) (nat_le budget most_budget) within in
    let read_as = laws.is_read d budget r.tally text is (least budget limits.0) (most budget limits.1) r.checked in
    record {
      specification = d;
      read = read;
      verdicts = report_on d written_version budget vs;
      written = record { can_stand = read_as.0; same = read_as.1 };
      right = λ i p es e. record {
        state = listing_of d p;
        shown = inl refl;
        breaks = laws.breaks d budget (obligation_at d i) p es (good_at d budget (obligations_of d) (forms_of d vs) i (refuted p es) r.checked.good e);
      };
    }

-- ---- verified reports

-- An answer that tells an outcome tells that the report was accepted.
pub record IsAcceptedAs (d : Specification) (bytes : List ℕ) (status : ℕ) : Type 0 where
  pub tally : Tally
  pub accepted : IsAccepted d bytes tally
  pub status_is : status ≡ status_of (outcome_of tally)

pub accepted_as : (d : Specification) (bytes : List ℕ) (status : ℕ) (said : Result Tally VerifyRefused) → is_outcome status ≡ true → IsVerified d bytes said → status ≡ status_said said → IsAcceptedAs d bytes status
accepted_as d bytes status (Ok tally) o v e = record { tally = tally; accepted = v.1; status_is = e }
accepted_as d bytes status (Err why) o v e = absurd (not_four status o e)

pub safe_verified : (d : Specification) (bytes text : List ℕ) → OfReports → is_specification d ≡ true → IsVerdict d bytes 0 text → Safe d
safe_verified d bytes text laws is v =
    let a = accepted_as d bytes 0 v.said refl v.verified v.status_is in
    laws.safe d bytes a.tally is a.accepted (accepted_zero (outcome_of a.tally) a.status_is)

pub right_accepted : (bytes : List ℕ) (d : Specification) (report : List ℕ) (tally : Tally) → OfReports → IsSpecificationOf bytes d → IsAccepted d report tally → IsRefutedRightly bytes report
right_accepted bytes d report tally laws is a = record {
  specification = d;
  read = is;
  verdicts = a.report;
  written = a.bytes_of;
  right = λ i p es e.
      let broken = laws.breaks d a.report i p es a.bytes_of.can_stand a.sound e in
      record { state = broken.0; shown = inr broken.1; breaks = broken.2 };
}

pub right_verified : (bytes : List ℕ) (d : Specification) (report : List ℕ) (status : ℕ) (text : List ℕ) → OfReports → IsSpecificationOf bytes d → is_outcome status ≡ true
    → IsVerdict d report status text → IsRefutedRightly bytes report
right_verified bytes d report status text laws is o v =
    let a = accepted_as d report status v.said o v.verified v.status_is in right_accepted bytes d report a.tally laws is a.accepted
