-- What a verifier makes of a line that its reader has read, step by step. It mirrors the code.
use Rattle.std.specs.Prelude.{◌≡◌, ℕ, ◌==◌, Bool, true, false, ◌&&◌, Option, Some, None, Result, Ok, Err}
use Rattle.spec_core.specs.Specification.{Specification}
use Rattle.obligation_list.specs.declared.obligation.Obligation.{Obligation}
use Rattle.obligation_list.specs.declared.witness.Witness.{Witness}
use Rattle.obligation_list.specs.Refuting.{refutes}
use Rattle.proof_kernel.specs.Evidence.{is_fresh, rows_hold, range_holds}
use Rattle.report_lines.specs.declared.head.Tally.{Tally}
use Rattle.proof_report.specs.declared.kind.Fault.{Fault}
use Rattle.proof_report.specs.declared.kind.ReportKind.TheVariants as kinds
use Rattle.proof_report.specs.declared.verdict.Ended.{Ended}
use Rattle.proof_report.specs.declared.verdict.Ended.TheVariants as ends
use Rattle.proof_report.specs.declared.verdict.Fed.{Fed}
use Rattle.proof_report.specs.Events.{with_proved, with_refuted, with_undecided}
use Rattle.report_verifier.specs.declared.judgement.Judgement.{Judgement}
use Rattle.report_verifier.specs.Rules.{fault_at, unless, or_else}
use Rattle.report_bytes.specs.Collecting.{budget_in}
use Rattle.report_verifier.specs.Verifier.{obligation_due, begun, logged, kernel_fault, unrefuted, VerifierForm}

-- the witness breaks the obligation
abbrev pub witness_refutes : Specification → Obligation → Witness → Bool
witness_refutes d ob w = refutes d ob w.world w.state w.calls w.elements

-- what is wrong with a verdict that ends so, as the code holds it
abbrev pub end_fault_of : Specification → Obligation → ℕ → Judgement → Ended → Option Fault
end_fault_of d ob budget j ends.Proved =
    kernel_fault j.line (λ s. unless s.empty (fault_at j.line kinds.NoEmpty)) j.kernel
end_fault_of d ob budget j (ends.Refuted w) =
    unless (witness_refutes d ob w) (fault_at j.line (unrefuted j.many))
end_fault_of d ob budget j ends.Instances = unless j.many (fault_at j.line kinds.Evidence)
end_fault_of d ob budget j ends.Lines =
    kernel_fault j.line
    (λ s. unless ((j.log == budget) && is_fresh s) (fault_at j.line kinds.Evidence)) j.kernel
end_fault_of d ob budget j (ends.Rows used steps) =
    kernel_fault j.line
    (λ s. unless (is_fresh s && rows_hold s used steps) (fault_at j.line kinds.Evidence)) j.kernel
end_fault_of d ob budget j (ends.Range used steps what) =
    kernel_fault j.line
    (λ s. unless (is_fresh s && range_holds s used steps what)
    (fault_at j.line kinds.Evidence)) j.kernel

-- one more verdict of this kind
abbrev pub with_ended_as : Ended → Tally → Tally
with_ended_as ends.Proved t = with_proved t
with_ended_as (ends.Refuted w) t = with_refuted t
with_ended_as ends.Instances t = with_undecided t
with_ended_as ends.Lines t = with_undecided t
with_ended_as (ends.Rows used steps) t = with_undecided t
with_ended_as (ends.Range used steps what) t = with_undecided t

-- what is kept after a block that ends so
abbrev pub ended_as : Specification → ℕ → Option Ended → Judgement → Judgement
ended_as d budget None j = j
ended_as d budget (Some e) j = record {
  tally = with_ended_as e j.tally;
  line = j.line;
  many = j.many;
  kernel = None;
  log = j.log;
  fault = or_else j.fault (end_fault_of d (obligation_due d j) budget j e);
}

-- what is kept behind the line of this number, of which this is told
abbrev pub taken_as : Specification → ℕ → ℕ → Fed → Judgement → Judgement
taken_as d budget n f j = ended_as d budget f.ended (logged n f.log (begun d n f.begin j))

-- What is told of a line was taken, or the verifier has failed.
abbrev pub IsTold : {E : Type 0} → VerifierForm → Fed → VerifierForm → Result (Unit {0}) E → Type 0
IsTold v f w (Ok x) =
    w ≡ record {
      reader = v.reader;
      judgement = taken_as v.reader.spec (budget_in v.reader.budget) v.reader.number f v.judgement;
      failed = false;
    }
IsTold v f w (Err error) = w.failed ≡ true
