use Rattle.std.proofs.Common.{sym, ◌∙◌, ap, subst}
use Rattle.spec_core.specs.State.{reads}
use Rattle.effectors.specs.Effect.{after}
use Rattle.replica_replay.specs.Tried.{IsTried}
use Rattle.replica_replay.specs.declared.trying.Tried.TheVariants.{Ready}
use Rattle.token_core.specs.Held.{HeldNode}
use Rattle.token_core.proofs.node.Node.end.Goals as goal

pub move_to-requires-clause-reads : goal.move_to-requires-clause-reads
move_to-requires-clause-reads g c =
    let d = g.R.Runner.specification c.args.runner.now in
    let w = g.R.Runner.setting c.args.runner.now in
    let t : IsTried d w (reads c.args.self.now.state) c.args.call (Ready c.in-Ready.state) =
    subst (IsTried d w (reads c.args.self.now.state) c.args.call) c.in-Ready.is c.requires.tried in
    t.2 ∙ ap (λ (n : HeldNode). after d w c.args.call (reads n.state)) (sym c.self.view_is)
