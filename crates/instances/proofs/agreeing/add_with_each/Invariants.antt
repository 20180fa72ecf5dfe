use Rattle.std.proofs.Common.{◌≡◌, map, drop}
use Rattle.ground_problem.specs.Equality.{congruent}
use Rattle.ground_groups.specs.Limited.{made_with}
use Rattle.instances.proofs.agreeing.add_with_each.Given as goal

abbrev pub invariant-loop-other : goal.invariant-loop-other
invariant-loop-other l =
    made_with l.grounding (map (congruent l.thing l.tuple) (drop l.other-index l.later))
    ≡ made_with l.initial.grounding (map (congruent l.thing l.tuple) l.later)
