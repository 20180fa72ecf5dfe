use Rattle.std.proofs.Common.{◌≡◌, drop}
use Rattle.ground_groups.specs.Limited.{made_with}
use Rattle.ground_problem.specs.Equality.{agree_with_pairs}
use Rattle.instances.proofs.equating.add_pairs.Given as goal

abbrev pub invariant-loop-place : goal.invariant-loop-place
invariant-loop-place l = made_with l.grounding (agree_with_pairs l.a (drop l.place l.later)) ≡ made_with l.initial.grounding (agree_with_pairs l.a l.later)
