use Rattle.std.proofs.Common.{[], ◌∙◌, ap}
use Rattle.spec_core.specs.Fits.{line_fits}
use Rattle.obligation_list.proofs.LineFits.{invariant_fits}
use Rattle.obligation_list.proofs.breaking.safety_concluded.Goals as goal

pub line_at-requires-clause-fits : goal.line_at-requires-clause-fits
line_at-requires-clause-fits c =
    ap (line_fits c.args.spec.now c.args.world.now []) c.invariant_line.ensures ∙ invariant_fits c.args.spec.now c.args.world.now c.well_formed-2.ensures c.requires.world c.args.inv c.requires.inv
