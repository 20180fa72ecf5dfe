use Rattle.std.proofs.Common.{◌≡◌, drop}
use Rattle.std.specs.List.{flat_map}
use Rattle.ground_groups.specs.Limited.{made_with}
use Rattle.stage_defs.specs.Settings.{caller_in}
use Rattle.ground_problem.specs.Entry.{rule_unmatched}
use Rattle.ground_groups.proofs.conflicting.add_rules.Given as goal

abbrev pub invariant-loop-rule : goal.invariant-loop-rule
invariant-loop-rule l =
    made_with l.grounding (flat_map (rule_unmatched (caller_in l.a.call) l.a.lines.now (caller_in l.b.call) l.b.lines.now) (drop l.rule-index l.rules))
    ≡ made_with l.initial.grounding (flat_map (rule_unmatched (caller_in l.a.call) l.a.lines.now (caller_in l.b.call) l.b.lines.now) l.rules)
