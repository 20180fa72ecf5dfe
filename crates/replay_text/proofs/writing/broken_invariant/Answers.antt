use Rattle.std.proofs.Common.{[], get_or, ◌∙◌, ap}
use Rattle.spec_core.specs.declared.world.World.{World}
use Rattle.spec_core.specs.Specification.{Specification}
use Rattle.spec_core.specs.Meaning.{broken_at}
use Rattle.spec_core.specs.State.{reads}
use Rattle.replica_replay.specs.Steps.{state_of}
use Rattle.replay_text.proofs.writing.broken_invariant.Goals as goal

pub returns : goal.returns
returns g c =
    let d = c.args.spec.now in let p = c.args.replay.now in
    c.invariant_broken_at.ensures
    ∙ ap (λ (w : World). broken_at d w (reads c.state_of.result.now)) c.world.ensures.value
    ∙ ap (broken_at d p.world) (c.state_of.ensures.reads ∙ ap (λ (x : Specification). state_of x p.world p.held (get_or p.held.taken c.args.replica [])) c.requires.replica.spec)
