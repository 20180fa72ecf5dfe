use Rattle.std.proofs.Common.{refl, subst}
use Rattle.obligation_list.specs.declared.obligation.Obligation.{Obligation}
use Rattle.lazy_ground.specs.Lazy.{IsLazyGround}
use Rattle.report_verifier.proofs.Deferred.{settled_so}
use Rattle.report_verifier.proofs.deferring.settle_log.Goals as goal

pub complete-requires-clause-ground : goal.complete-requires-clause-ground
complete-requires-clause-ground c = subst (λ (ob : Obligation). IsLazyGround c.args.listed.now.spec.now ob c.args.log.ground) c.in-Ok.ensures.due c.requires.log.ground

pub returns-clause-settled : goal.returns-clause-settled
returns-clause-settled c =
    settled_so c.args.listed.now.spec.now c.args.judgement.now _ c.add_lines-added.new.judgement c.in-Ok-complete.value c.as_slice.result.now c.args.log.lines c.in-Ok.value.now c.add_lines-added.result refl c.in-Ok-complete.ensures.kernel c.in-Ok.ensures.due c.as_slice.ensures c.add_lines-added.ensures
