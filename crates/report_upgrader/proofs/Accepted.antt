-- An upgraded report is accepted.
use Rattle.std.proofs.Common.{◌≡◌, ℕ, suc, ◌+◌, ◌≤◌, true, ◌&&◌, List, [], ◌∷◌, map, length, Option, Some, None, Result, Ok, Err, refl, sym, ap, subst, ◌∙◌}
use Rattle.std.specs.Prelude.{◌↔◌, nat_lt}
use Rattle.std.specs.List.{fold, list_all}
use Rattle.std.proofs.lemmas.Bool.{and_parts}
use Rattle.spec_core.specs.Specification.{Specification}
use Rattle.spec_core.specs.Typed.{is_specification}
use Rattle.obligation_list.specs.declared.obligation.Obligation.{Obligation}
use Rattle.proof_lines.specs.declared.line.Line.{Line}
use Rattle.proof_lines.specs.declared.line.Why.{Why}
use Rattle.proof_lines.specs.Problems.{PlainProblem}
use Rattle.proof_kernel.specs.Rules.{State, run}
use Rattle.ground_numbers.specs.Problem.{problem_of}
use Rattle.report_lines.specs.declared.head.Tally.{Tally}
use Rattle.report_lines.specs.Heads.{title_format, budget_format}
use Rattle.proof_report.specs.declared.kind.Fault.{Fault}
use Rattle.proof_report.specs.Verdicts.{VerdictForm, proved, refuted, instances, lines, rows, range, is_verdict, are_verdicts, obligation_at, obligation_count, ReportForm, is_report}
use Rattle.proof_report.specs.Events.{no_verdicts, with_verdict, verdict_lines}
use Rattle.report_bytes.specs.Bytes.{report_bytes}
use Rattle.report_bytes.specs.Reading.{blocks_behind}
use Rattle.report_bytes.proofs.BytesOfReports.{one_report_of_bytes}
use Rattle.report_verifier.specs.Rules.{or_else, rule_fault, blocks_fault, verdict_fault}
use Rattle.report_verifier.specs.Valid.{IsProof, IsValid}
use Rattle.report_verifier.specs.Verified.{most_report_bytes, IsAccepted}
use Rattle.report_upgrader.specs.UpgradedLogs.{upgraded}
use Rattle.report_upgrader.specs.Agreement.{IsAccepted as IsTaken}
use Rattle.report_upgrader.specs.Reports.{upgraded_verdict, upgraded_report, upgraded_version, has_room}
use Rattle.report_upgrader.specs.Upgrading.{IsUpgradedText}
use Rattle.report_upgrader.proofs.Room.{report_room}

-- the laws of the crates below
abbrev pub LogsAreTaken : Type 0
LogsAreTaken = (p : PlainProblem) (log : List Line) → IsTaken (run p log) → IsTaken (run p (upgraded log))

abbrev pub VerdictsAreValid : Type 0
VerdictsAreValid = (d : Specification) (version budget line : ℕ) (ob : Obligation) (v : VerdictForm) → is_verdict d version ob v ≡ true → (rule_fault d budget line ob v ≡ None) ↔ IsValid d budget ob v

abbrev pub ReportsStand : Type 0
ReportsStand = (d : Specification) (r : ReportForm) → is_report d r ≡ true → list_all has_room r.verdicts ≡ true → is_report d (upgraded_report r) ≡ true

abbrev pub SameSummary : Type 0
SameSummary = (r : ReportForm) → fold (λ t v. with_verdict v t) no_verdicts (upgraded_report r).verdicts ≡ fold (λ t v. with_verdict v t) no_verdicts r.verdicts

-- ---- a verdict

record Taken (x : Result State (ℕ × Why)) : Type 0 where
  state : State
  is : x ≡ Ok state
  empty : state.empty ≡ true

taken : (x : Result State (ℕ × Why)) → IsTaken x → Taken x
taken (Ok s) h = record { state = s; is = refl; empty = h }
taken (Err e) h = absurd h

proof_upgraded : LogsAreTaken → (d : Specification) (ob : Obligation) (log : List Line) → IsProof d ob log → IsProof d ob (upgraded log)
proof_upgraded logs d ob log p =
    let before : IsTaken (run (problem_of d ob) log) = subst IsTaken (sym p.leads) p.empty in
    let t = taken (run (problem_of d ob) (upgraded log)) (logs (problem_of d ob) log before) in
    record { few = p.few; state = t.state; leads = t.is; empty = t.empty }

valid_upgraded : LogsAreTaken → (d : Specification) (budget : ℕ) (ob : Obligation) (v : VerdictForm) → IsValid d budget ob v → IsValid d budget ob (upgraded_verdict v)
valid_upgraded logs d budget ob (proved log) g = proof_upgraded logs d ob log g
valid_upgraded logs d budget ob (refuted p es) g = g
valid_upgraded logs d budget ob instances g = g
valid_upgraded logs d budget ob (lines log) g = g
valid_upgraded logs d budget ob (rows log r) g = g
valid_upgraded logs d budget ob (range log r) g = g

-- ---- a report

first_none : (o p : Option Fault) → or_else o p ≡ None → (o ≡ None) × (p ≡ None)
first_none None p h = (refl, h)
first_none (Some f) p h = absurd cc

blocks_upgraded : LogsAreTaken → VerdictsAreValid → (d : Specification) (version budget n m i : ℕ) (vs : List VerdictForm) → are_verdicts d version i vs ≡ true → are_verdicts d upgraded_version i (map upgraded_verdict vs) ≡ true
    → blocks_fault d budget i (blocks_behind n vs) ≡ None → blocks_fault d budget i (blocks_behind m (map upgraded_verdict vs)) ≡ None
blocks_upgraded logs valid d version budget n m i [] f g h = refl
blocks_upgraded logs valid d version budget n m i (v ∷ vs) f g h =
    let ob : Obligation = obligation_at d i in
    let u : VerdictForm = upgraded_verdict v in
    let a = and_parts (nat_lt i (obligation_count d)) (is_verdict d version ob v && are_verdicts d version (suc i) vs) f in
    let b = and_parts (is_verdict d version ob v) (are_verdicts d version (suc i) vs) a.1 in
    let c = and_parts (nat_lt i (obligation_count d)) (is_verdict d upgraded_version ob u && are_verdicts d upgraded_version (suc i) (map upgraded_verdict vs)) g in
    let e = and_parts (is_verdict d upgraded_version ob u) (are_verdicts d upgraded_version (suc i) (map upgraded_verdict vs)) c.1 in
    let k = first_none (rule_fault d budget (n + 2) ob v) (blocks_fault d budget (suc i) (blocks_behind (n + 1 + length (verdict_lines v [])) vs)) h in
    let good = valid_upgraded logs d budget ob v ((valid d version budget (n + 2) ob v b.0).0 k.0) in
    let none : rule_fault d budget (m + 2) ob u ≡ None = (valid d upgraded_version budget (m + 2) ob u e.0).1 good in
    let next : ℕ = m + 1 + length (verdict_lines u []) in
    ap (λ (o : Option Fault). or_else o (blocks_fault d budget (suc i) (blocks_behind next (map upgraded_verdict vs)))) none
    ∙ blocks_upgraded logs valid d version budget (n + 1 + length (verdict_lines v [])) next (suc i) vs b.1 e.1 k.1

-- the verdicts of a report that can be written and read
verdicts_in : (d : Specification) (r : ReportForm) → is_report d r ≡ true → are_verdicts d r.version 0 r.verdicts ≡ true
verdicts_in d r ok =
    let a = and_parts (title_format.fits r.version) (budget_format.fits r.budget && are_verdicts d r.version 0 r.verdicts) ok in
    (and_parts (budget_format.fits r.budget) (are_verdicts d r.version 0 r.verdicts) a.1).1

fault_upgraded : LogsAreTaken → VerdictsAreValid → (d : Specification) (r : ReportForm) → is_report d r ≡ true → is_report d (upgraded_report r) ≡ true → verdict_fault d r ≡ None → verdict_fault d (upgraded_report r) ≡ None
fault_upgraded logs valid d r ok so none = blocks_upgraded logs valid d r.version r.budget 3 3 0 r.verdicts (verdicts_in d r ok) (verdicts_in d (upgraded_report r) so) none

-- an upgraded report can be written and read
pub upgraded_stands : ReportsStand → (d : Specification) (bytes : List ℕ) (tally : Tally) (accepted : IsAccepted d bytes tally) → length bytes ≤ most_report_bytes → is_report d (upgraded_report accepted.report) ≡ true
upgraded_stands stand d bytes tally accepted few = stand d accepted.report accepted.bytes_of.can_stand (report_room d bytes accepted.report accepted.bytes_of.same few)

pub upgraded_accepted : LogsAreTaken → VerdictsAreValid → ReportsStand → SameSummary → (d : Specification) (bytes : List ℕ) (tally : Tally) (text : List ℕ) → length bytes ≤ most_report_bytes → IsUpgradedText d bytes tally text → IsAccepted d text tally
upgraded_accepted logs valid stand count d bytes tally text few up =
    let a = up.accepted in
    let so = upgraded_stands stand d bytes tally a few in
    record {
      report = upgraded_report a.report;
      bytes_of = record { can_stand = so; same = up.text_is };
      sound = fault_upgraded logs valid d a.report a.bytes_of.can_stand so a.sound;
      counts = a.counts ∙ sym (count a.report);
    }

-- and its text is that of the report alone, which upgraded is the same
pub upgraded_again : ReportsStand → ((r : ReportForm) → upgraded_report (upgraded_report r) ≡ upgraded_report r)
    → (d : Specification) (bytes : List ℕ) (tally : Tally) (text : List ℕ) (counted : Tally) (again : List ℕ) → is_specification d ≡ true → length bytes ≤ most_report_bytes → IsUpgradedText d bytes tally text → IsUpgradedText d text counted again → again ≡ text
upgraded_again stand twice d bytes tally text counted again ok few up over =
    let r = up.accepted.report in
    let q = over.accepted.report in
    let same : q ≡ upgraded_report r = one_report_of_bytes d q (upgraded_report r) ok over.accepted.bytes_of.can_stand (upgraded_stands stand d bytes tally up.accepted few) (sym over.accepted.bytes_of.same ∙ up.text_is) in
    over.text_is ∙ ap (λ (x : ReportForm). report_bytes d (upgraded_report x)) same ∙ ap (report_bytes d) (twice r) ∙ sym up.text_is

-- two upgraded texts of the same bytes
pub one_upgraded : (d : Specification) (bytes : List ℕ) (tally : Tally) (text : List ℕ) (counted : Tally) (other : List ℕ) → is_specification d ≡ true → IsUpgradedText d bytes tally text → IsUpgradedText d bytes counted other → text ≡ other
one_upgraded d bytes tally text counted other ok up down =
    let a = up.accepted in
    let b = down.accepted in
    let same : a.report ≡ b.report = one_report_of_bytes d a.report b.report ok a.bytes_of.can_stand b.bytes_of.can_stand (sym a.bytes_of.same ∙ b.bytes_of.same) in
    up.text_is ∙ ap (λ (x : ReportForm). report_bytes d (upgraded_report x)) same ∙ sym down.text_is
