use Rattle.std.proofs.Common.{◌≡◌, drop}
use Rattle.std.specs.List.{flat_map}
use Rattle.ground_groups.specs.Limited.{made_with}
use Rattle.stage_defs.specs.Settings.{caller_in}
use Rattle.ground_groups.specs.Rules.{unmatched_as}
use Rattle.ground_groups.proofs.conflicting.add_with_each.Given as goal

abbrev pub invariant-loop-line : goal.invariant-loop-line
invariant-loop-line l =
    made_with l.grounding (flat_map (λ u. unmatched_as l.swapped l.rule (caller_in l.left.call) l.left.line.now (caller_in l.other) u) (drop l.line-index l.lines))
    ≡ made_with l.initial.grounding (flat_map (λ u. unmatched_as l.swapped l.rule (caller_in l.left.call) l.left.line.now (caller_in l.other) u) l.lines)
