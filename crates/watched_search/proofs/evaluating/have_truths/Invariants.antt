use Rattle.watched_search.specs.Reduced.{HaveTruths}
use Rattle.watched_search.proofs.evaluating.have_truths.Given as goal

abbrev pub invariant-loop-place : goal.invariant-loop-place
invariant-loop-place l = HaveTruths l.place l.atoms l.numbers l.truths
