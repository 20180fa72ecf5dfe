use Rattle.std.proofs.Common.{sym}
use Rattle.report_verifier.specs.Deferring.{judgement_of}
use Rattle.report_verifier.proofs.Within.{told_so, within_so}
use Rattle.report_verifier.proofs.Due.{listed-held}
use Rattle.report_verifier.proofs.verifier.Verifier.take.Goals as goal

pub take-requires-clause-listed : goal.take-requires-clause-listed
take-requires-clause-listed c = listed-held c.self.inside.spec.now c.self.inside.obligations _ c.as_slice.ensures c.self.invariant.0 c.self.invariant.2

pub invariant_of-self : goal.invariant_of-self
invariant_of-self c = (
  c.self.invariant.0,
  c.self.invariant.1,
  c.self.invariant.2,
  within_so c.self.inside.spec.now (judgement_of c.self.inside.spec.now c.self.inside.judging) (judgement_of c.self.inside.spec.now c.take.new.judging) c.args.fed.now c.budget_in.result c.taken.result c.self.invariant.3 c.in-Ok.ensures.taken,
  c.take.ensures.kept,
  c.in-Ok.ensures.deferred,
)

pub returns-in-Ok : goal.returns-in-Ok
returns-in-Ok c =
    told_so c.args.self.now c.self.inside.spec.now c.self.inside.reader (judgement_of c.self.inside.spec.now c.self.inside.judging) (judgement_of c.self.inside.spec.now c.take.new.judging) c.self.inside.failed c.args.fed.now c.budget_in.result c.taken.result
    (sym c.self.view_is) c.self.invariant.1 c.requires c.budget_in.ensures c.taken.ensures c.in-Ok.ensures.taken
