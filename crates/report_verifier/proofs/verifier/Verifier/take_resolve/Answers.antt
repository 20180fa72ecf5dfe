use Rattle.std.proofs.Common.{sym, refl}
use Rattle.report_reader.specs.Resolving.{resolve_told}
use Rattle.report_bytes.specs.Collecting.{budget_in}
use Rattle.report_verifier.specs.Deferring.{judgement_of}
use Rattle.report_verifier.proofs.Within.{told_so, within_so}
use Rattle.report_verifier.proofs.Due.{listed-held}
use Rattle.report_verifier.proofs.verifier.Verifier.take_resolve.Goals as goal

pub log_or_defer-requires-clause-listed : goal.log_or_defer-requires-clause-listed
log_or_defer-requires-clause-listed c = listed-held c.self.inside.spec.now c.self.inside.obligations _ c.as_slice.ensures c.self.invariant.0 c.self.invariant.2

pub invariant_of-self : goal.invariant_of-self
invariant_of-self c = (
  c.self.invariant.0,
  c.self.invariant.1,
  c.self.invariant.2,
  within_so c.self.inside.spec.now (judgement_of c.self.inside.spec.now c.self.inside.judging) (judgement_of c.self.inside.spec.now c.log_or_defer.new.judging) (resolve_told c.args.line) (budget_in c.self.inside.reader.budget) c.taken.result c.self.invariant.3 c.in-Ok.ensures.taken,
  c.log_or_defer.ensures.kept,
  c.in-Ok.ensures.deferred,
)

pub returns-in-Ok : goal.returns-in-Ok
returns-in-Ok c =
    told_so c.args.self.now c.self.inside.spec.now c.self.inside.reader (judgement_of c.self.inside.spec.now c.self.inside.judging) (judgement_of c.self.inside.spec.now c.log_or_defer.new.judging) c.self.inside.failed (resolve_told c.args.line) (budget_in c.self.inside.reader.budget) c.taken.result
    (sym c.self.view_is) c.self.invariant.1 c.requires refl c.taken.ensures c.in-Ok.ensures.taken
