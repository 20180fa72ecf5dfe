use Rattle.lazy_search.specs.Refuting.{AreOf}
use Rattle.lazy_search.proofs.searching.add_numbered.Given as goal

abbrev pub invariant-loop-number : goal.invariant-loop-number
invariant-loop-number l = AreOf l.measured.ground.now l.chosen
