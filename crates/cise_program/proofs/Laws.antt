-- What the layers below promise of reports, as the proofs of the headline use it.
use Rattle.std.proofs.Common.{◌≡◌, ◌≤◌, ℕ, true, List, length, Some, None}
use Rattle.std.specs.Prelude.{Ok, slice_get}
use Rattle.spec_core.specs.Specification.{Specification}
use Rattle.spec_core.specs.State.{Listing, reads}
use Rattle.spec_core.specs.Typed.{is_specification}
use Rattle.spec_trees.specs.Form.{TreeForm}
use Rattle.spec_trees.specs.Trees.{IsTree}
use Rattle.typing_rules.specs.Items.{typing}
use Rattle.obligation_list.specs.declared.obligation.Obligation.{Obligation}
use Rattle.obligation_list.specs.Obligations.{obligations_of}
use Rattle.obligation_list.specs.Breaking.{Breaks, Safe}
use Rattle.report_lines.specs.declared.head.Tally.{Tally}
use Rattle.report_lines.specs.declared.head.Outcome.TheVariants.{Accepted}
use Rattle.proof_report.specs.declared.place.PartialWitness.{PartialWitness}
use Rattle.proof_report.specs.Verdicts.{VerdictForm, refuted, obligation_at, ReportForm, is_report}
use Rattle.proof_report.specs.Events.{outcome_of}
use Rattle.report_reader.specs.Reader.{reads_of}
use Rattle.report_bytes.specs.Bytes.{report_bytes}
use Rattle.report_bytes.specs.Showing.{report_on}
use Rattle.report_bytes.specs.Reading.{first_fault}
use Rattle.check_run.specs.Shown.{listing_of}
use Rattle.check_run.specs.Good.{IsGood, AreGood}
use Rattle.check_run.specs.Reports.{tally_of, written_version, IsChecked}
use Rattle.report_verifier.specs.Rules.{verdict_fault}
use Rattle.report_verifier.specs.Verified.{most_report_bytes, IsVerified, IsAccepted}
use Rattle.report_upgrader.specs.Upgrading.{IsUpgradedText}

-- a typed tree is a specification
abbrev pub TypesWell : Type 0
TypesWell = (t : TreeForm) (d : Specification) → IsTree t → typing t ≡ Ok d → is_specification d ≡ true

-- of checks
pub record OfChecks : Type 0 where
  pub safe : (d : Specification) (budget : ℕ) (vs : List VerdictForm) → is_specification d ≡ true → AreGood d budget (obligations_of d) vs → outcome_of (tally_of vs) ≡ Accepted → Safe d
  pub breaks : (d : Specification) (budget : ℕ) (ob : Obligation) (p : PartialWitness) (es : List ℕ) → IsGood d budget ob (refuted p es) → Breaks d ob p.world (listing_of d p) p.calls es
  pub is_read : (d : Specification) (budget : ℕ) (tally : Tally) (text : List ℕ) → is_specification d ≡ true → 1 ≤ budget → budget ≤ 1000000 → (checked : IsChecked d budget tally text)
      → (is_report d (report_on d written_version budget checked.verdicts) ≡ true) × (text ≡ report_bytes d (report_on d written_version budget checked.verdicts)) × (first_fault d text ≡ None)

-- of upgraded reports
abbrev pub KeepsVerdicts : Type 0
KeepsVerdicts = (d : Specification) (bytes : List ℕ) (tally : Tally) (text : List ℕ) → length bytes ≤ most_report_bytes → IsUpgradedText d bytes tally text → IsAccepted d text tally

-- of reports of checks that are verified
abbrev pub AcceptsChecked : Type 0
AcceptsChecked = (d : Specification) (budget : ℕ) (tally : Tally) (text : List ℕ) → is_specification d ≡ true → 1 ≤ budget → budget ≤ 1000000 → IsChecked d budget tally text
    → length text ≤ most_report_bytes → IsVerified d text (Ok tally)

-- of verified reports
pub record OfReports : Type 0 where
  pub safe : (d : Specification) (bytes : List ℕ) (tally : Tally) → is_specification d ≡ true → IsAccepted d bytes tally → outcome_of tally ≡ Accepted → Safe d
  pub breaks : (d : Specification) (r : ReportForm) (i : ℕ) (p : PartialWitness) (es : List ℕ) → is_report d r ≡ true → verdict_fault d r ≡ None
      → slice_get r.verdicts i ≡ Some (refuted p es) → (s : Listing) × (reads s ≡ reads_of p) × Breaks d (obligation_at d i) p.world s p.calls es
  pub keeps : KeepsVerdicts
