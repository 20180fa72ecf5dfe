use Rattle.std.proofs.Common.{◌≡◌, ◌++◌, map}
use Rattle.spec_core.specs.World.{below}
use Rattle.obligation_list.specs.declared.obligation.Obligation.TheVariants.{Safety}
use Rattle.obligation_list.proofs.listing.add_safety.Given as goal

abbrev pub invariant-loop-inv : goal.invariant-loop-inv
invariant-loop-inv l = l.list ≡ l.fn.list ++ map (λ i. Safety l.op i) (below l.inv)
