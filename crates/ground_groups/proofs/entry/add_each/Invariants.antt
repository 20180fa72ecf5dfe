use Rattle.std.proofs.Common.{◌≡◌, drop}
use Rattle.std.specs.List.{flat_map}
use Rattle.ground_problem.specs.Formulas.{instances}
use Rattle.stage_defs.specs.Settings.{readings_in, caller_in}
use Rattle.ground_groups.specs.Limited.{made_with}
use Rattle.ground_groups.specs.Calls.{constants_in}
use Rattle.ground_groups.proofs.entry.add_each.Given as goal

abbrev pub invariant-loop-invariant : goal.invariant-loop-invariant
invariant-loop-invariant l =
    made_with l.grounding (flat_map (λ i. instances (constants_in l.named) (readings_in l.setting) (caller_in l.setting) i.line.vars i.line.body) (drop l.invariant-index l.invariants))
    ≡ made_with l.initial.grounding (flat_map (λ i. instances (constants_in l.named) (readings_in l.setting) (caller_in l.setting) i.line.vars i.line.body) l.invariants)
