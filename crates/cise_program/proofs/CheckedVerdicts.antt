-- A good verdict is valid.
use Rattle.std.proofs.Common.{◌≡◌, ℕ, Bool, true, false, cond, ◌&&◌, ◌==◌, List, length, Result, Ok, Err, refl}
use Rattle.std.proofs.lemmas.Bool.{and_parts}
use Rattle.spec_core.specs.Specification.{Specification}
use Rattle.obligation_list.specs.declared.obligation.Obligation.{Obligation}
use Rattle.proof_lines.specs.declared.line.Line.{Line}
use Rattle.proof_lines.specs.declared.line.Why.{Why}
use Rattle.proof_lines.specs.declared.line.Why.TheVariants.{Evidence}
use Rattle.proof_kernel.specs.Rules.{State, run}
use Rattle.proof_kernel.specs.Evidence.{is_fresh, rows_hold, range_holds}
use Rattle.proof_kernel.specs.Answers.{judged}
use Rattle.ground_numbers.specs.Problem.{problem_of}
use Rattle.proof_report.specs.declared.verdict.Cause.{Cause}
use Rattle.proof_report.specs.declared.verdict.Cause.TheVariants as causes
use Rattle.proof_report.specs.declared.verdict.Verdict.{Verdict}
use Rattle.proof_report.specs.declared.verdict.Verdict.TheVariants as verdicts
use Rattle.report_bytes.specs.Showing.{shown_cause, shown_verdict, shown_by}
use Rattle.check_run.specs.Shown.{listing_of}
use Rattle.check_run.specs.Good.{IsGood}
use Rattle.report_verifier.specs.Valid.{IsValid}
use Rattle.cise_program.proofs.CheckedStates.{shown_reads}

-- a log with the evidence of a test leads to a state in which the test holds
record Tested (test : State → Bool) (given : Result State (ℕ × Why)) : Type 0 where
  state : State
  leads : given ≡ Ok state
  there : test state ≡ true

no_fault : (e : ℕ × Why) → ◌≡◌ {A = Result (Unit {0}) (ℕ × Why)} (Err e) (Ok tt) → ⊥
no_fault e h = cc

tested : (test : State → Bool) (log : List Line) (given : Result State (ℕ × Why)) → judged test log given ≡ Ok tt → Tested test given
tested test log (Err e) h = absurd (no_fault e h)
tested test log (Ok s) h = by_test (test s) refl h
  where
    by_test : (b : Bool) → test s ≡ b → ◌≡◌ {A = Result (Unit {0}) (ℕ × Why)} (cond b (Ok tt) (Err (length log, Evidence))) (Ok tt) → Tested test (Ok s)
    by_test true e h = record { state = s; leads = refl; there = e }
    by_test false e h = absurd (no_fault (length log, Evidence) h)

cause_valid : (d : Specification) (budget : ℕ) (ob : Obligation) (cause : Cause) → IsGood d budget ob (shown_cause cause) → IsValid d budget ob (shown_cause cause)
cause_valid d budget ob causes.Instances g = g
cause_valid d budget ob (causes.Lines log) g =
    let t = tested (λ s. (length log == budget) && is_fresh s) log (run (problem_of d ob) log) g.1.judged in
    let a = and_parts (length log == budget) (is_fresh t.state) t.there in
    record { few = g.0; state = t.state; leads = t.leads; fresh = a.1; all = g.1.whole }
cause_valid d budget ob (causes.Rows e) g =
    let t = tested (λ s. is_fresh s && rows_hold s e.used e.steps) e.log (run (problem_of d ob) e.log) g.1.judged in
    let a = and_parts (is_fresh t.state) (rows_hold t.state e.used e.steps) t.there in
    (g.0, t.state, t.leads, a.0, a.1)
cause_valid d budget ob (causes.Range e) g =
    let t = tested (λ s. is_fresh s && range_holds s e.used e.steps e.what) e.log (run (problem_of d ob) e.log) g.1.judged in
    let a = and_parts (is_fresh t.state) (range_holds t.state e.used e.steps e.what) t.there in
    (g.0, t.state, t.leads, a.0, a.1)

-- what is shown of a verdict is valid where it is good
pub good_valid : (d : Specification) (budget : ℕ) (ob : Obligation) (v : Verdict) → IsGood d budget ob (shown_verdict d v) → IsValid d budget ob (shown_verdict d v)
good_valid d budget ob (verdicts.Proved log) g = record { few = g.few; state = g.refutes.state; leads = g.refutes.runs; empty = g.refutes.empty }
good_valid d budget ob (verdicts.Refuted w) g = record { state = listing_of d (shown_by d w); reads_so = shown_reads d w; breaks = g }
good_valid d budget ob (verdicts.Undecided cause) g = cause_valid d budget ob cause g
