use Rattle.std.proofs.Common.{◌≡◌, Option, ap, sym, subst, ◌∙◌}
use Rattle.report_verifier.specs.declared.judgement.Judgement.{Judgement}
use Rattle.report_verifier.specs.Verifier.{IsWithin, clauses_in}
use Rattle.report_verifier.specs.declared.deferring.DeferredLog.{DeferredLog}
use Rattle.report_verifier.specs.Deferring.{after_deferred, judgement_of}
use Rattle.report_verifier.proofs.Within.{kept_bound}
use Rattle.report_verifier.proofs.Deferred.{settled_is, none_deferred}
use Rattle.report_verifier.proofs.Due.{listed-held}
use Rattle.report_verifier.proofs.verifier.Verifier.kept.Goals as goal

pub settle-requires-clause-listed : goal.settle-requires-clause-listed
settle-requires-clause-listed c = listed-held c.self.inside.spec.now c.self.inside.obligations _ c.as_slice.ensures c.self.invariant.0 c.self.invariant.2

pub invariant_of-self : goal.invariant_of-self
invariant_of-self c = (
  c.self.invariant.0,
  c.self.invariant.1,
  c.self.invariant.2,
  subst (λ (j : Judgement). IsWithin c.self.inside.spec.now j) (sym (settled_is c.self.inside.spec.now c.self.inside.judging c.settle.new.judging c.settle.ensures.none c.in-Ok.ensures.settled)) c.self.invariant.3,
  c.settle.ensures.kept,
  none_deferred c.self.inside.spec.now c.settle.new.judging c.settle.ensures.none,
)

pub returns-in-Ok-clause-bound : goal.returns-in-Ok-clause-bound
returns-in-Ok-clause-bound c =
    let d = c.self.inside.spec.now in
    let y = c.settle.new.judging in
    let plain : judgement_of d y ≡ y.judgement = ap (λ (o : Option DeferredLog). after_deferred d y.judgement o) c.settle.ensures.none in
    let within : IsWithin d (judgement_of d y) = subst (λ (j : Judgement). IsWithin d j) (sym (settled_is d c.self.inside.judging y c.settle.ensures.none c.in-Ok.ensures.settled)) c.self.invariant.3 in
    kept_bound d c.self.inside.reader.spec (judgement_of d y) c.clauses_in.result within (c.clauses_in.ensures ∙ sym (ap (λ (j : Judgement). clauses_in j.kernel) plain)) c.self.invariant.1
