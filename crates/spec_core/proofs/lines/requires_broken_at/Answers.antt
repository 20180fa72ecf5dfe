use Rattle.std.proofs.Common.{◌≡◌, true, List, ℤ, subst, sym, ap, ◌∙◌}
use Rattle.std.specs.Prelude.{is_none}
use Rattle.std.specs.List.{list_all}
use Rattle.spec_core.specs.Line.{Line}
use Rattle.spec_core.specs.Specification.{op_of}
use Rattle.spec_core.specs.Truth.{line_true}
use Rattle.spec_core.specs.Fits.{line_fits}
use Rattle.spec_core.proofs.Operations.{call_operation_fits}
use Rattle.spec_core.proofs.Positions.{position_none}
use Rattle.spec_core.proofs.lines.requires_broken_at.Goals as goal

pub line_broken_at-requires-clause-fits : goal.line_broken_at-requires-clause-fits
line_broken_at-requires-clause-fits g c =
    let d = c.args.spec.now in
    let w = c.args.world.now in
    let fits = call_operation_fits d w c.args.call.now c.well_formed-2.ensures c.requires.world c.requires.call in
    subst (λ (lines : List Line). list_all (line_fits d w c.as_slice.result.now) lines ≡ true) (sym c.requires_of-lines.ensures)
    (subst (λ (args : List ℤ). list_all (line_fits d w args) (op_of d c.args.call.now.op).requires_ ≡ true) (sym c.as_slice.ensures) fits.requires_)

pub returns-clause-none : goal.returns-clause-none
returns-clause-none g c =
    let w = c.args.world.now in
    let r = g.R.Readings.reads c.args.at.now in
    ap is_none c.line_broken_at.ensures
    ∙ position_none (line_true w r c.as_slice.result.now) 0 c.requires_of-lines.result.now
    ∙ (λ i. list_all (line_true w r (c.as_slice.ensures i)) (c.requires_of-lines.ensures i))
