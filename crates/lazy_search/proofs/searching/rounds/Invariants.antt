use Rattle.lazy_search.specs.Refuting.{AreOf}
use Rattle.lazy_search.proofs.searching.rounds.Given as goal

abbrev pub invariant-loop-round : goal.invariant-loop-round
invariant-loop-round l = AreOf l.measured.ground.now l.chosen
