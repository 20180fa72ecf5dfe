use Rattle.diff_bounds.proofs.RelaxingLemmas.{relaxed-next}
use Rattle.diff_bounds.proofs.relaxing.relax.Goals as goal

pub returns : goal.returns
returns c =
    relaxed-next c.args.edges.now c.args.number c.args.walks.now c.push.new.self c.in-Some.visit c.requires.kept c.requires.near c.requires.short c.in-Some.ensures
    c.in_ok-push.ensures.ints c.in_ok-push.ensures.visits c.in_ok-push.ensures.latest
