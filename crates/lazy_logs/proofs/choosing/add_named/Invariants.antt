use Rattle.lazy_search.specs.Refuting.{AreOf}
use Rattle.lazy_logs.proofs.choosing.add_named.Given as goal

abbrev pub invariant-loop-number : goal.invariant-loop-number
invariant-loop-number l = AreOf l.ground l.chosen
