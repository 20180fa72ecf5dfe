use Rattle.watched_search.proofs.Evaluation.{more-truths}
use Rattle.watched_search.proofs.evaluating.have_truths.Goals as goal

pub loop-place-preserved : goal.loop-place-preserved
loop-place-preserved c =
    more-truths c.loop-place.place c.args.atoms.now c.args.numbers.now c.args.truths.now _ _ c.loop-place.invariant (c.has_truth.ensures c.if-not-has_truth.false) c.atom_at-atom.ensures c.truth_at_place.ensures
