use Rattle.std.proofs.Common.{◌≡◌, drop}
use Rattle.std.specs.List.{list_all}
use Rattle.lazy_ground.specs.Equal.{all_known}
use Rattle.lazy_ground.proofs.keeping.are_known_beside.Given as goal

abbrev pub invariant-loop-column : goal.invariant-loop-column
invariant-loop-column l = list_all (all_known l.atoms.table) (drop l.column-index l.columns) ≡ list_all (all_known l.atoms.table) l.columns
