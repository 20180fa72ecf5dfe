-- What is kept of what a reader tells is what is kept of what lines say.
use Rattle.std.proofs.Common.{◌≡◌, ℕ, Bool, ◌&&◌, Option, Some, None, refl, ap, ◌∙◌}
use Rattle.spec_core.specs.Specification.{Specification}
use Rattle.proof_kernel.specs.Evidence.{is_fresh, rows_hold, range_holds}
use Rattle.report_lines.specs.declared.head.Tally.{Tally}
use Rattle.proof_report.specs.declared.event.Event.{Event}
use Rattle.proof_report.specs.declared.kind.ReportKind.TheVariants as kinds
use Rattle.proof_report.specs.declared.place.State.{State as Place}
use Rattle.proof_report.specs.declared.verdict.Ended.{Ended}
use Rattle.proof_report.specs.declared.verdict.Ended.TheVariants as ends
use Rattle.proof_report.specs.declared.verdict.Fed.{Fed}
use Rattle.report_reader.specs.Reader.{EndForm, end_proved, end_refuted, end_instances, end_lines, end_rows, end_range, IsEnd, begin_of, log_of_event, ended_by, Tells}
use Rattle.report_verifier.specs.declared.judgement.Judgement.{Judgement}
use Rattle.report_verifier.specs.Rules.{fault_at, unless, or_else}
use Rattle.report_verifier.specs.Verifier.{obligation_due, begun, logged, ended, kernel_fault, unrefuted, end_fault, with_ended, judge}
use Rattle.report_verifier.specs.Taking.{end_fault_of, with_ended_as, ended_as, taken_as}
use Rattle.report_verifier.proofs.Same.{refutes_same}

fault_same : (d : Specification) (budget : ℕ) (j : Judgement) (e : EndForm) (x : Ended) → IsEnd d (Some e) (Some x) → end_fault_of d (obligation_due d j) budget j x ≡ end_fault d budget j e
fault_same d budget j end_proved ends.Proved h = refl
fault_same d budget j (end_refuted p es) (ends.Refuted w) h = ap (λ (b : Bool). unless b (fault_at j.line (unrefuted j.many))) (refutes_same d (obligation_due d j) p es w h)
fault_same d budget j end_instances ends.Instances h = refl
fault_same d budget j end_lines ends.Lines h = refl
fault_same d budget j (end_rows r) (ends.Rows used steps) h = λ i. kernel_fault j.line (λ s. unless (is_fresh s && rows_hold s (h.0 i) (h.1 i)) (fault_at j.line kinds.Evidence)) j.kernel
fault_same d budget j (end_range r) (ends.Range used steps what) h = λ i. kernel_fault j.line (λ s. unless (is_fresh s && range_holds s (h.0 i) (h.1 i) (h.2 i)) (fault_at j.line kinds.Evidence)) j.kernel
fault_same d budget j _ _ h = absurd h

tally_same : (d : Specification) (t : Tally) (e : EndForm) (x : Ended) → IsEnd d (Some e) (Some x) → with_ended_as x t ≡ with_ended e t
tally_same d t end_proved ends.Proved h = refl
tally_same d t (end_refuted p es) (ends.Refuted w) h = refl
tally_same d t end_instances ends.Instances h = refl
tally_same d t end_lines ends.Lines h = refl
tally_same d t (end_rows r) (ends.Rows used steps) h = refl
tally_same d t (end_range r) (ends.Range used steps what) h = refl
tally_same d t _ _ h = absurd h

ended_same : (d : Specification) (budget : ℕ) (j : Judgement) (o : Option EndForm) (x : Option Ended) → IsEnd d o x → ended_as d budget x j ≡ ended d budget o j
ended_same d budget j None None h = refl
ended_same d budget j None (Some x) h = absurd h
ended_same d budget j (Some end_proved) None h = absurd h
ended_same d budget j (Some (end_refuted p es)) None h = absurd h
ended_same d budget j (Some end_instances) None h = absurd h
ended_same d budget j (Some end_lines) None h = absurd h
ended_same d budget j (Some (end_rows r)) None h = absurd h
ended_same d budget j (Some (end_range r)) None h = absurd h
ended_same d budget j (Some e) (Some x) h =
    let t = tally_same d j.tally e x h in
    let f = fault_same d budget j e x h in
    λ i. record { tally = t i; line = j.line; many = j.many; kernel = None; log = j.log; fault = or_else j.fault (f i) }

pub taken_same : (d : Specification) (budget n : ℕ) (s : Place) (e : Event) (f : Fed) (j : Judgement) → Tells d s e f → taken_as d budget n f j ≡ judge d budget n s e j
taken_same d budget n s e f j t =
    (λ i. ended_as d budget f.ended (logged n (t.log i) (begun d n (t.begin i) j)))
    ∙ ended_same d budget (logged n (log_of_event e) (begun d n (begin_of e) j)) (ended_by s e) f.ended t.ended
