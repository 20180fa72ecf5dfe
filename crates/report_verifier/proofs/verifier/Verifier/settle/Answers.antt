use Rattle.std.proofs.Common.{sym, subst}
use Rattle.report_verifier.specs.declared.judgement.Judgement.{Judgement}
use Rattle.report_verifier.specs.Verifier.{IsWithin}
use Rattle.report_verifier.proofs.Deferred.{settled_is, none_deferred}
use Rattle.report_verifier.proofs.Due.{listed-held}
use Rattle.report_verifier.proofs.verifier.Verifier.settle.Goals as goal

pub settle-requires-clause-listed : goal.settle-requires-clause-listed
settle-requires-clause-listed c = listed-held c.self.inside.spec.now c.self.inside.obligations _ c.as_slice.ensures c.self.invariant.0 c.self.invariant.2

pub invariant_of-self : goal.invariant_of-self
invariant_of-self c = (
  c.self.invariant.0,
  c.self.invariant.1,
  c.self.invariant.2,
  subst (λ (j : Judgement). IsWithin c.self.inside.spec.now j) (sym (settled_is c.self.inside.spec.now c.self.inside.judging c.settle.new.judging c.settle.ensures.none c.in-Ok.ensures.settled)) c.self.invariant.3,
  c.settle.ensures.kept,
  none_deferred c.self.inside.spec.now c.settle.new.judging c.settle.ensures.none,
)
