use Rattle.std.proofs.Common.{◌≡◌, drop}
use Rattle.std.specs.List.{flat_map}
use Rattle.ground_groups.specs.Limited.{made_with}
use Rattle.stage_defs.specs.Settings.{caller_in}
use Rattle.ground_groups.specs.Rules.{unmatched_as}
use Rattle.ground_groups.proofs.conflicting.add_each_with_each.Given as goal

abbrev pub invariant-loop-line : goal.invariant-loop-line
invariant-loop-line l =
    made_with l.grounding (flat_map (λ t. flat_map (λ u. unmatched_as l.swapped l.rule (caller_in l.call) t (caller_in l.other.call) u) l.other.lines.now) (drop l.line-index l.lines))
    ≡ made_with l.initial.grounding (flat_map (λ t. flat_map (λ u. unmatched_as l.swapped l.rule (caller_in l.call) t (caller_in l.other.call) u) l.other.lines.now) l.lines)
