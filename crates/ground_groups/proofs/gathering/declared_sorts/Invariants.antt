use Rattle.std.proofs.Common.{◌≡◌, ◌++◌, drop, map}
use Rattle.ground_groups.proofs.gathering.declared_sorts.Given as goal

abbrev pub invariant-loop-constant : goal.invariant-loop-constant
invariant-loop-constant l = l.sorts ++ map (λ c. c.sort) (drop l.constant-index l.constant-items) ≡ map (λ c. c.sort) l.constant-items
