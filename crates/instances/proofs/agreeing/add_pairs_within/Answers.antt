use Rattle.instances.proofs.Pairs.{pairs_beyond}
use Rattle.instances.proofs.agreeing.add_pairs_within.Goals as goal

pub returns-in-Err : goal.returns-in-Err
returns-in-Err c =
    pairs_beyond c.in-Err.refused c.args.grounding.now c.args.grounding.now c.args.thing c.args.tuples.now c.in-Err.ensures
