use Rattle.std.proofs.Common.{◌≡◌, drop}
use Rattle.ground_problem.specs.Equality.{congruent_pairs}
use Rattle.ground_groups.specs.Limited.{made_with}
use Rattle.instances.proofs.agreeing.add_pairs.Given as goal

abbrev pub invariant-loop-place : goal.invariant-loop-place
invariant-loop-place l = made_with l.grounding (congruent_pairs l.thing (drop l.place l.tuples)) ≡ made_with l.initial.grounding (congruent_pairs l.thing l.tuples)
