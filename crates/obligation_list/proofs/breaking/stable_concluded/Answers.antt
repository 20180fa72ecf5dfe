use Rattle.std.proofs.Common.{◌≡◌, ◌<◌, ℕ, true, ◌∙◌, subst, length}
use Rattle.spec_core.specs.Specification.{op_of}
use Rattle.spec_core.specs.Fits.{line_fits}
use Rattle.obligation_list.specs.Breaking.{requires_line}
use Rattle.obligation_list.proofs.LineFits.{requires_line_fits}
use Rattle.obligation_list.proofs.breaking.stable_concluded.Goals as goal

pub line_at-requires-clause-fits : goal.line_at-requires-clause-fits
line_at-requires-clause-fits c =
    let d = c.args.spec.now in let w = c.args.world.now in let a = c.args.a.now in let l = c.args.line in
    (λ i. line_fits d w (c.as_slice.ensures i) (c.requires_line.ensures i))
    ∙ subst (λ (o : ℕ). l < length (op_of d o).requires_ → line_fits d w a.args (requires_line d o l) ≡ true) c.requires.op (requires_line_fits d w c.well_formed-2.ensures c.requires.world a c.requires.a l) c.requires.line
