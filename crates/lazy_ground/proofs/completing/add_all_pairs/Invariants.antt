use Rattle.std.proofs.Common.{◌≡◌, ◌++◌, map, drop}
use Rattle.std.specs.List.{flat_map}
use Rattle.ground_atoms.specs.Formulas.{form_of}
use Rattle.lazy_ground.specs.Pairs.{pair_forms}
use Rattle.lazy_ground.specs.Named.{AllNamed}
use Rattle.lazy_ground.proofs.completing.add_all_pairs.Given as goal

abbrev pub invariant-loop-some : goal.invariant-loop-some
invariant-loop-some l = record {
  atoms : l.atoms ≡ l.initial.atoms;
  named : AllNamed l.initial.atoms.table (drop l.some-index l.pairs);
  formulas : map form_of l.out ++ flat_map (pair_forms l.initial.atoms.table) (drop l.some-index l.pairs) ≡ map form_of l.initial.out ++ flat_map (pair_forms l.initial.atoms.table) l.pairs;
}
