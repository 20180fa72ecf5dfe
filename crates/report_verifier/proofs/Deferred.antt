-- What stands once the kernel has taken the lines of a log that were deferred.
use Rattle.std.proofs.Common.{OnOk, IfSome, ◌≡◌, ℕ, zero, suc, ◌+◌, Bool, List, [], ◌∷◌, ◌++◌, length, take, slice_get, Option, Some, None, Result, Ok, Err, refl, sym, ◌∙◌, ap, subst, arith}
use Rattle.spec_core.specs.Specification.{Specification}
use Rattle.obligation_list.specs.declared.obligation.Obligation.{Obligation}
use Rattle.ground_numbers.specs.Problem.{problem_of}
use Rattle.proof_lines.specs.declared.line.Line.{Line}
use Rattle.proof_lines.specs.Problems.{PlainProblem}
use Rattle.proof_kernel.specs.Rules.{State, start}
use Rattle.proof_report.specs.declared.kind.Fault.{Fault}
use Rattle.proof_report.specs.declared.kind.ReportKind.TheVariants as kinds
use Rattle.proof_report.specs.declared.verdict.Ended.TheVariants as ends
use Rattle.proof_report.specs.Events.{with_proved}
use Rattle.lazy_logs.specs.Refuted.{Refutes}
use Rattle.report_verifier.specs.declared.judgement.Judgement.{Judgement}
use Rattle.report_verifier.specs.Rules.{fault_at, unless, or_else}
use Rattle.report_verifier.specs.Verifier.{obligation_due, logged, log_all}
use Rattle.report_verifier.specs.Taking.{ended_as}
use Rattle.report_verifier.specs.declared.deferring.DeferredLog.{DeferredLog}
use Rattle.report_verifier.specs.declared.deferring.Judging.{Judging}
use Rattle.report_verifier.specs.Deferring.{with_kernel, after_deferred, judgement_of, HasDeferred, AreRefuting, IsRefutedBy}
use Rattle.report_verifier.specs.Posing.{IsLazyOf}
use Rattle.report_verifier.proofs.Blocks.{ran, left_by, posed_log}

-- one line more comes behind the others
pub log_all-push : (n : ℕ) (ls : List Line) (l : Line) (j : Judgement) → log_all n (ls ++ l ∷ []) j ≡ logged (n + length ls) (Some l) (log_all n ls j)
log_all-push n [] l j = let e : n ≡ n + 0 = omega arith in ap (λ (k : ℕ). logged k (Some l) j) e
log_all-push n (m ∷ ms) l j =
    let e : suc n + length ms ≡ n + suc (length ms) = omega arith in
    log_all-push (suc n) ms l (logged n (Some m) j) ∙ ap (λ (k : ℕ). logged k (Some l) (log_all (suc n) ms (logged n (Some m) j))) e

-- one more of the lines is taken
pub log_all-next : (n k : ℕ) (ls : List Line) (l : Line) (j : Judgement) → slice_get ls k ≡ Some l → log_all n (take (k + 1) ls) j ≡ logged (n + k) (Some l) (log_all n (take k ls) j)
log_all-next n k [] l j h = absurd cc
log_all-next n zero (m ∷ ms) l j h =
    let e : m ≡ l = cc in
    let z : n ≡ n + 0 = omega arith in
    ap (λ (x : Line). logged n (Some x) j) e ∙ ap (λ (k : ℕ). logged k (Some l) j) z
log_all-next n (suc k) (m ∷ ms) l j h =
    let e : suc n + k ≡ n + suc k = omega arith in
    let f : suc k + 1 ≡ suc (k + 1) = omega arith in
    ap (λ (i : ℕ). log_all n (take i (m ∷ ms)) j) f ∙ log_all-next (suc n) k ms l (logged n (Some m) j) h ∙ ap (λ (i : ℕ). logged i (Some l) (log_all (suc n) (take k ms) (logged n (Some m) j))) e

-- what is kept behind a proved verdict with so many lines and no fault
abbrev pub proved_behind : ℕ → Judgement → Judgement
proved_behind n j = record {
  tally = with_proved j.tally;
  line = j.line;
  many = j.many;
  kernel = None;
  log = j.log + n;
  fault = j.fault;
}

no_later : (o : Option Fault) → or_else o None ≡ o
no_later None = refl
no_later (Some f) = refl

pub refuted_log : (d : Specification) (budget : ℕ) (p : PlainProblem) (ls : List Line) (j : Judgement) → Refutes p ls
    → ended_as d budget (Some ends.Proved) (log_all (suc j.line) ls (with_kernel (Some (start p)) j)) ≡ proved_behind (length ls) j
refuted_log d budget p ls j r =
    let i : Judgement = with_kernel (Some (start p)) j in
    let logs : log_all (suc j.line) ls i ≡ left_by i (length ls) (Some r.state) j.fault =
    (let e : suc j.line ≡ j.line + 1 + 0 = omega arith in ap (λ (n : ℕ). log_all n ls i) e) ∙ posed_log j.line 0 ls i (start p) refl ∙ ap (ran j.line i (length ls)) r.runs in
    let empty : or_else j.fault (unless r.state.empty (fault_at j.line kinds.NoEmpty)) ≡ j.fault =
    ap (λ (b : Bool). or_else j.fault (unless b (fault_at j.line kinds.NoEmpty))) r.empty ∙ no_later j.fault in
    ap (ended_as d budget (Some ends.Proved)) logs
    ∙ (λ k. record { tally = with_proved j.tally; line = j.line; many = j.many; kernel = None; log = j.log + length ls; fault = empty k })

-- what stands once the lines that were deferred are taken by the kernel of this problem
pub settled_so : {E : Type 0} (d : Specification) (j k i : Judgement) (s : State) (ls ms : List Line) (ob : Obligation) (r : Result (Unit {0}) E) → k ≡ with_kernel (Some s) j → s ≡ start (problem_of d ob) → obligation_due d j ≡ ob → ls ≡ ms
    → OnOk r (i ≡ log_all (suc k.line) ls k) → OnOk r (i ≡ log_all (suc j.line) ms (with_kernel (Some (start (problem_of d (obligation_due d j)))) j))
settled_so d j k i s ls ms ob r e b o l h =
    let kernel : s ≡ start (problem_of d (obligation_due d j)) = b ∙ ap (λ (z : Obligation). start (problem_of d z)) (sym o) in
    let same : log_all (suc k.line) ls k ≡ log_all (suc j.line) ms (with_kernel (Some (start (problem_of d (obligation_due d j)))) j) =
    (λ x. log_all (suc (e x).line) (l x) (e x)) ∙ ap (λ (z : State). log_all (suc j.line) ms (with_kernel (Some z) j)) kernel in
    subst (λ (z : Judgement). OnOk r (i ≡ z)) same h

-- what stands behind a proved verdict whose lines were deferred and refute its problem
pub proved_so : (d : Specification) (budget : ℕ) (x : Judging) (log : DeferredLog) (i : Judgement) → x.deferred ≡ Some log → IsRefutedBy d x → i ≡ proved_behind (length log.lines) x.judgement → i ≡ ended_as d budget (Some ends.Proved) (judgement_of d x)
proved_so d budget x log i e h b =
    let refutes : AreRefuting d x.judgement (Some log) = subst (λ (o : Option DeferredLog). AreRefuting d x.judgement o) e h in
    b ∙ sym (refuted_log d budget (problem_of d (obligation_due d x.judgement)) log.lines x.judgement refutes)
    ∙ sym (ap (λ (o : Option DeferredLog). ended_as d budget (Some ends.Proved) (after_deferred d x.judgement o)) e)

-- what follows where a call went well
pub on_ok : {A E P Q : Type 0} (r : Result A E) → (P → Q) → OnOk r P → OnOk r Q
on_ok (Ok x) f h = f h
on_ok (Err y) f h = h

-- one more line is deferred
pub deferred_so : (d : Specification) (x : Judging) (log : DeferredLog) (number : ℕ) (line : Line) (ls : List Line) → x.deferred ≡ Some log → ls ≡ log.lines ++ line ∷ [] → number ≡ suc x.judgement.line + length log.lines
    → log_all (suc x.judgement.line) ls (with_kernel (Some (start (problem_of d (obligation_due d x.judgement)))) x.judgement) ≡ logged number (Some line) (judgement_of d x)
deferred_so d x log number line ls e l n =
    let j : Judgement = with_kernel (Some (start (problem_of d (obligation_due d x.judgement)))) x.judgement in
    ap (λ (z : List Line). log_all (suc x.judgement.line) z j) l
    ∙ log_all-push (suc x.judgement.line) log.lines line j
    ∙ ap (λ (k : ℕ). logged k (Some line) (log_all (suc x.judgement.line) log.lines j)) (sym n)
    ∙ ap (λ (o : Option DeferredLog). logged number (Some line) (after_deferred d x.judgement o)) (sym e)

-- what is kept once nothing is deferred any more
pub settled_is : (d : Specification) (x y : Judging) → y.deferred ≡ None → y.judgement ≡ judgement_of d x → judgement_of d y ≡ judgement_of d x
settled_is d x y n e = ap (λ (o : Option DeferredLog). after_deferred d y.judgement o) n ∙ e

pub none_deferred : (d : Specification) (y : Judging) → y.deferred ≡ None → HasDeferred d y
none_deferred d y n = subst (λ (o : Option DeferredLog). IfSome o (λ log. IsLazyOf d (obligation_due d y.judgement) log.ground)) (sym n) tt
