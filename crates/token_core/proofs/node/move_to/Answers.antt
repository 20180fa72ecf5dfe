use Rattle.std.proofs.Common.{sym, ◌∙◌, ap}
use Rattle.spec_core.specs.State.{Listing, reads}
use Rattle.effectors.specs.Effect.{after}
use Rattle.token_core.proofs.node.move_to.Goals as goal

pub spare-requires-clause-reads : goal.spare-requires-clause-reads
spare-requires-clause-reads g c =
    let d = g.R.Runner.specification c.args.runner.now in
    let w = g.R.Runner.setting c.args.runner.now in
    ap reads c.replace-before.ensures.after ∙ c.requires.reads ∙ ap (λ (s : Listing). after d w c.args.call.now (reads s)) (sym c.replace-before.ensures.value)
