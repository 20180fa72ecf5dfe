use Rattle.std.proofs.Common.{◌≡◌, suc, Bool, false, cond, List, Some, None, sym, subst, ap, ◌∙◌}
use Rattle.obligation_list.specs.declared.obligation.Obligation.{Obligation}
use Rattle.proof_lines.specs.declared.line.Line.{Line}
use Rattle.proof_kernel.specs.Rules.{start}
use Rattle.ground_numbers.specs.Problem.{problem_of}
use Rattle.lazy_ground.specs.declared.grounding.LazyGround.{LazyGround}
use Rattle.report_verifier.specs.declared.posing.Posed.{Posed}
use Rattle.report_verifier.specs.Rules.{has_many}
use Rattle.report_verifier.specs.Verifier.{obligation_due, log_all}
use Rattle.report_verifier.specs.Posing.{IsLazyOf, IsPosed}
use Rattle.report_verifier.specs.Deferring.{with_kernel}
use Rattle.report_verifier.proofs.judging.begin_log.Goals as goal

pub returns-then-is_deferred-clause-deferred : goal.returns-then-is_deferred-clause-deferred
returns-then-is_deferred-clause-deferred c =
    let d = c.args.spec.now in
    let ob : Obligation = c.args.ob.now in
    let lazy : (has_many d ob ≡ false) × IsLazyOf d ob c.in-Lazy.ground = subst (λ (p : Posed). IsPosed d ob p) c.in-Lazy.is c.requires.posed in
    subst (λ (o : Obligation). IsLazyOf d o c.new.result.ground) (sym c.requires.due)
    (subst (λ (g : LazyGround). IsLazyOf d ob g) (sym c.new.ensures.ground) lazy.1)

pub returns-then-is_deferred-clause-begun : goal.returns-then-is_deferred-clause-begun
returns-then-is_deferred-clause-begun c =
    let d = c.args.spec.now in
    let ob : Obligation = c.args.ob.now in
    let j = c.args.judging.now.judgement in
    let lazy : (has_many d ob ≡ false) × IsLazyOf d ob c.in-Lazy.ground = subst (λ (p : Posed). IsPosed d ob p) c.in-Lazy.is c.requires.posed in
    ap (λ (ls : List Line). log_all (suc j.line) ls (with_kernel (Some (start (problem_of d (obligation_due d j)))) j)) c.new.ensures.lines
    ∙ ap (λ (o : Obligation). with_kernel (Some (start (problem_of d o))) j) c.requires.due
    ∙ sym (ap (λ (b : Bool). with_kernel (cond b None (Some (start (problem_of d ob)))) j) lazy.0)
