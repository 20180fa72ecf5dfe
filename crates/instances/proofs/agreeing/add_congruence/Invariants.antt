use Rattle.std.proofs.Common.{◌≡◌, map, drop}
use Rattle.ground_groups.specs.Limited.{made_with}
use Rattle.ground_problem.specs.Equality.{congruence}
use Rattle.ground_atoms.specs.Symbols.{reading_of}
use Rattle.instances.proofs.agreeing.add_congruence.Given as goal

abbrev pub invariant-loop-thing : goal.invariant-loop-thing
invariant-loop-thing l =
    made_with l.grounding (congruence (map reading_of l.readings) (drop l.thing-index l.things))
    ≡ made_with l.initial.grounding (congruence (map reading_of l.readings) l.things)
