use Rattle.std.proofs.Common.{◌≡◌, true, sym, subst}
use Rattle.spec_core.specs.Specification.{Specification}
use Rattle.spec_core.specs.Typed.{is_specification}
use Rattle.report_verifier.proofs.Lines.{resolve_words}
use Rattle.report_verifier.proofs.verifier.Verifier.feed_noted.Goals as goal

pub returns-in-Ok-clause-is : goal.returns-in-Ok-clause-is
returns-in-Ok-clause-is c =
    let well : is_specification c.self.inside.reader.spec ≡ true = subst (λ (d : Specification). is_specification d ≡ true) (sym c.self.invariant.1) c.well_formed-2.ensures in
    (c.in-Some.line.pivot, resolve_words c.self.inside.reader c.args.text.now c.feed_resolve.new.self c.in-Some.line well c.in-Some.ensures.some)
