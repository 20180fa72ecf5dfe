use Rattle.std.proofs.Common.{◌≡◌, not, [], None, drop}
use Rattle.std.specs.List.{position_from}
use Rattle.spec_core.specs.State.{Reads}
use Rattle.spec_core.specs.Truth.{line_true}
use Rattle.spec_core.specs.Meaning.{broken_at}
use Rattle.effectors.specs.Effect.{after}
use Rattle.touched_lines.proofs.invariants.invariant_broken_after.Given as goal

-- where the invariants held before the call, the first false one is the first one from here on
abbrev pub invariant-loop-i : goal.invariant-loop-i
invariant-loop-i g l = (before : Reads) → g.R.Readings.reads l.at ≡ after l.spec l.world l.call before → broken_at l.spec l.world before ≡ None
    → position_from (λ i. not (line_true l.world (g.R.Readings.reads l.at) [] i.line)) 0 l.invariant-items ≡ position_from (λ i. not (line_true l.world (g.R.Readings.reads l.at) [] i.line)) l.i (drop l.i l.invariant-items)
