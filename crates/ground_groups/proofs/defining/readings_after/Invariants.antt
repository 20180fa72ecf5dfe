use Rattle.std.proofs.Common.{◌≡◌, ◌++◌, map, drop, length, filter}
use Rattle.std.specs.Prelude.{◌==◌}
use Rattle.ground_atoms.specs.Symbols.{reading_of}
use Rattle.ground_groups.proofs.defining.readings_after.Given as goal

abbrev pub invariant-loop-reading : goal.invariant-loop-reading
invariant-loop-reading l =
    map reading_of l.readings ++ filter (λ q. length q.stage == l.count) (map reading_of (drop l.reading-index l.reading-items))
    ≡ filter (λ q. length q.stage == l.count) (map reading_of l.reading-items)
