use Rattle.std.proofs.Common.{◌≡◌, true, drop}
use Rattle.std.specs.List.{list_all}
use Rattle.lazy_ground.specs.Equal.{all_known}
use Rattle.lazy_ground.specs.Named.{columns_known}
use Rattle.lazy_ground.proofs.keeping.are_columns_known.Given as goal

abbrev pub invariant-loop-some : goal.invariant-loop-some
invariant-loop-some l = record {
  before : list_all (all_known l.atoms.table) l.before ≡ true;
  known : columns_known l.atoms.table (drop l.some-index l.pairs) ≡ columns_known l.atoms.table l.pairs;
}
