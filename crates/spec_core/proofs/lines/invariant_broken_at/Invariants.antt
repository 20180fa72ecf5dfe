use Rattle.std.proofs.Common.{◌≡◌, not, [], drop}
use Rattle.std.specs.List.{position_from}
use Rattle.spec_core.specs.Truth.{line_true}
use Rattle.spec_core.proofs.lines.invariant_broken_at.Given as goal

abbrev pub invariant-loop-i : goal.invariant-loop-i
invariant-loop-i g l = position_from (λ i. not (line_true l.world (g.R.Readings.reads l.at) [] i.line)) 0 l.invariant-items ≡ position_from (λ i. not (line_true l.world (g.R.Readings.reads l.at) [] i.line)) l.i (drop l.i l.invariant-items)
