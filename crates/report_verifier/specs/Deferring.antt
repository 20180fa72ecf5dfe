-- What stands where the lines of a log are deferred.
use Rattle.std.specs.Prelude.{suc, IfSome, Option, Some, None}
use Rattle.spec_core.specs.Specification.{Specification}
use Rattle.proof_kernel.specs.Rules.{State, start}
use Rattle.ground_numbers.specs.Problem.{problem_of}
use Rattle.lazy_logs.specs.Refuted.{Refutes}
use Rattle.report_verifier.specs.declared.judgement.Judgement.{Judgement}
use Rattle.report_verifier.specs.declared.deferring.DeferredLog.{DeferredLog}
use Rattle.report_verifier.specs.declared.deferring.Judging.{Judging}
use Rattle.report_verifier.specs.Verifier.{obligation_due, log_all}
use Rattle.report_verifier.specs.Posing.{IsLazyOf}

-- what is kept where this stands in the kernel
abbrev pub with_kernel : Option State → Judgement → Judgement
with_kernel kernel j = record {
  tally = j.tally;
  line = j.line;
  many = j.many;
  kernel = kernel;
  log = j.log;
  fault = j.fault;
}

-- what stands once the kernel has taken the lines that were deferred, on the problem of the verdict's obligation
abbrev pub after_deferred : Specification → Judgement → Option DeferredLog → Judgement
after_deferred d j None = j
after_deferred d j (Some x) =
    log_all (suc j.line) x.lines (with_kernel (Some (start (problem_of d (obligation_due d j)))) j)

-- WHAT IS KEPT OF THE VERDICTS, whether the kernel has taken all lines so far or some were deferred.
abbrev pub judgement_of : Specification → Judging → Judgement
judgement_of d x = after_deferred d x.judgement x.deferred

-- the problem of a log that was deferred is that of the verdict's obligation
abbrev pub HasDeferred : Specification → Judging → Type 0
HasDeferred d x = IfSome x.deferred (λ log. IsLazyOf d (obligation_due d x.judgement) log.ground)

-- the lines that were deferred refute the problem of the verdict's obligation
abbrev pub AreRefuting : Specification → Judgement → Option DeferredLog → Type 0
AreRefuting d j None = ⊥
AreRefuting d j (Some x) = Refutes (problem_of d (obligation_due d j)) x.lines

-- there are some, and they do
abbrev pub IsRefutedBy : Specification → Judging → Type 0
IsRefutedBy d x = AreRefuting d x.judgement x.deferred
