use Rattle.std.proofs.Common.{◌≡◌, ◌++◌, map}
use Rattle.spec_core.specs.World.{below}
use Rattle.obligation_list.specs.declared.obligation.Obligation.TheVariants.{Stable}
use Rattle.obligation_list.proofs.listing.add_stable.Given as goal

abbrev pub invariant-loop-other : goal.invariant-loop-other
invariant-loop-other l = l.list ≡ l.fn.list ++ map (λ p. Stable l.op l.line p) (below l.other)
