use Rattle.std.proofs.Common.{◌≡◌, ◌++◌, [], drop, map}
use Rattle.ground_numbers.specs.Numbers.{has_atom, number_of}
use Rattle.lazy_ground.specs.Pairs.{readings_known}
use Rattle.lazy_ground.proofs.naming.numbers_at.Given as goal

abbrev pub invariant-loop-tuple : goal.invariant-loop-tuple
invariant-loop-tuple l = record {
  known : readings_known l.atoms.table l.relation (drop l.tuple-index l.tuples) ≡ readings_known l.atoms.table l.relation l.tuples;
  numbers : l.numbers ++ map (λ t. number_of l.atoms.table (has_atom [] l.relation t)) (drop l.tuple-index l.tuples) ≡ map (λ t. number_of l.atoms.table (has_atom [] l.relation t)) l.tuples;
}
