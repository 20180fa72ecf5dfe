use Rattle.replay_text.proofs.Asked.{front_holds}
use Rattle.replay_text.proofs.writing.broken_after.Goals as goal

pub returns-then-is_front_elsewhere : goal.returns-then-is_front_elsewhere
returns-then-is_front_elsewhere g c =
    front_holds c.args.spec.now c.args.replay.now.world c.args.replay.now.held c.args.replica c.requires.others (c.is_front_elsewhere.ensures c.if-is_front_elsewhere.true)
