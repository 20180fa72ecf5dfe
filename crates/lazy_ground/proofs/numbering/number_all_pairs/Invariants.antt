use Rattle.std.proofs.Common.{◌≡◌, drop}
use Rattle.std.specs.List.{flat_map}
use Rattle.lazy_ground.specs.Pairs.{pairs_of, AllNumbered}
use Rattle.lazy_ground.specs.Named.{known_after, AllFit}
use Rattle.lazy_ground.proofs.NamedAfter.{all_after}
use Rattle.lazy_ground.proofs.numbering.number_all_pairs.Given as goal

abbrev pub invariant-loop-some : goal.invariant-loop-some
invariant-loop-some l = record {
  numbered : AllNumbered l.atoms.table (drop l.some-index l.pairs);
  fit : AllFit (drop l.some-index l.pairs);
  after : all_after l.atoms l.pairs l.some-index ≡ known_after l.initial.atoms (flat_map pairs_of l.pairs);
}
