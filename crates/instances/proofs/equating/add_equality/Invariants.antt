use Rattle.std.proofs.Common.{◌≡◌, drop}
use Rattle.ground_groups.specs.Limited.{made_with}
use Rattle.ground_problem.specs.Equality.{equality}
use Rattle.instances.proofs.equating.add_equality.Given as goal

abbrev pub invariant-loop-place : goal.invariant-loop-place
invariant-loop-place l = made_with l.grounding (equality l.place (drop l.place l.sorts)) ≡ made_with l.initial.grounding (equality 0 l.sorts)
