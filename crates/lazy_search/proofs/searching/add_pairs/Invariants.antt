use Rattle.lazy_search.specs.Refuting.{AreOf}
use Rattle.lazy_search.proofs.searching.add_pairs.Given as goal

abbrev pub invariant-loop-pair : goal.invariant-loop-pair
invariant-loop-pair l = AreOf l.measured.ground.now l.chosen
