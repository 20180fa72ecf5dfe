use Rattle.std.proofs.Common.{◌+◌, ◌≤◌, length, drop}
use Rattle.std.specs.List.{flat_map}
use Rattle.ground_problem.specs.Constants.{assignments}
use Rattle.ground_groups.specs.Calls.{constants_in}
use Rattle.ground_groups.proofs.entry.count_all.Given as goal

abbrev pub invariant-loop-invariant : goal.invariant-loop-invariant
invariant-loop-invariant l =
    l.count + length (flat_map (λ i. assignments (constants_in l.named) i.line.vars) (drop l.invariant-index l.invariants))
    ≤ length (flat_map (λ i. assignments (constants_in l.named) i.line.vars) l.invariants)
