use Rattle.std.proofs.Common.{◌≡◌, not, drop}
use Rattle.std.specs.List.{position_from}
use Rattle.spec_core.specs.Truth.{line_true}
use Rattle.spec_core.proofs.lines.line_broken_at.Given as goal

-- the first false line is the first one from here on
abbrev pub invariant-loop-i : goal.invariant-loop-i
invariant-loop-i g l = position_from (λ x. not (line_true l.world (g.R.Readings.reads l.at) l.args x)) 0 l.lines ≡ position_from (λ x. not (line_true l.world (g.R.Readings.reads l.at) l.args x)) l.i (drop l.i l.lines)
