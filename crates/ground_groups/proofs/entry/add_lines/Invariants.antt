use Rattle.std.proofs.Common.{◌≡◌, drop}
use Rattle.stage_defs.specs.Settings.{readings_in, caller_in}
use Rattle.ground_groups.specs.Limited.{made_with}
use Rattle.ground_groups.specs.Calls.{constants_in}
use Rattle.ground_groups.specs.Lines.{lines_at}
use Rattle.ground_groups.proofs.entry.add_lines.Given as goal

abbrev pub invariant-loop-place : goal.invariant-loop-place
invariant-loop-place l =
    made_with l.grounding (lines_at (constants_in l.named) (readings_in l.setting) (caller_in l.setting) l.place (drop l.place l.lines) (drop l.place l.owns))
    ≡ made_with l.initial.grounding (lines_at (constants_in l.named) (readings_in l.setting) (caller_in l.setting) 0 l.lines l.owns)
