use Rattle.std.proofs.Common.{◌≡◌, drop}
use Rattle.std.specs.List.{flat_map}
use Rattle.ground_groups.specs.Limited.{made_with}
use Rattle.ground_groups.specs.Defined.{defined_by}
use Rattle.ground_groups.proofs.defining.add_each_definition.Given as goal

abbrev pub invariant-loop-reading : goal.invariant-loop-reading
invariant-loop-reading l =
    made_with l.grounding (flat_map (λ q. defined_by l.spec l.calls q.stage q.thing q.tuple) (drop l.reading-index l.readings))
    ≡ made_with l.initial.grounding (flat_map (λ q. defined_by l.spec l.calls q.stage q.thing q.tuple) l.readings)
