use Rattle.std.proofs.Common.{◌≡◌, drop, fold}
use Rattle.std.specs.List.{flat_map}
use Rattle.ground_atoms.specs.Keys.{fed_term}
use Rattle.ground_atoms.proofs.keyed_row.KeyedRowHash.hash.Given as goal

abbrev pub invariant-loop-term : goal.invariant-loop-term
invariant-loop-term g l = fold g.H.Hasher.write l.state (flat_map fed_term (drop l.term-index l.term-items)) ≡ fold g.H.Hasher.write l.initial.state (flat_map fed_term l.term-items)
