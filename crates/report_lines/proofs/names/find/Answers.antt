use Rattle.std.proofs.Common.{◌∙◌, sym, ap, ℕ, List}
use Rattle.std.specs.Str.{bytes_eq}
use Rattle.report_lines.proofs.Finding.{is_here, is_behind}
use Rattle.report_lines.proofs.names.find.Goals as goal

pub returns-then-eq : goal.returns-then-eq
returns-then-eq g c = is_here g.T.Named.named c.args.things.now c.places.place c.index-things-place.result c.args.name.now _ c.places-test.true c.index-things-place.is (ap (λ (v : List ℕ). bytes_eq c.args.name.now v) (sym c.name.ensures) ∙ sym c.eq.ensures ∙ c.if-eq.true) c.places.invariant

pub places-preserved : goal.places-preserved
places-preserved g c = is_behind g.T.Named.named c.args.things.now c.places.place c.index-things-place.result c.args.name.now _ c.places-test.true c.index-things-place.is (ap (λ (v : List ℕ). bytes_eq c.args.name.now v) (sym c.name.ensures) ∙ sym c.eq.ensures ∙ c.if-eq.false) c.places.invariant
