use Rattle.std.proofs.Common.{◌≡◌, true}
use Rattle.spec_core.specs.declared.update.Thing.TheVariants as thing
use Rattle.lazy_ground.specs.Pairs.{pairs_of, readings_known}
use Rattle.lazy_ground.specs.Named.{known_after}
use Rattle.lazy_ground.proofs.NamedAfter.{from_after}
use Rattle.lazy_ground.proofs.numbering.number_every_two.Given as goal

abbrev pub invariant-loop-earlier : goal.invariant-loop-earlier
invariant-loop-earlier l = record {
  known : readings_known l.atoms.table l.pairs.relation l.pairs.tuples ≡ true;
  after : from_after l.atoms (thing.Relation l.pairs.relation) l.pairs.tuples l.earlier ≡ known_after l.initial.atoms (pairs_of l.pairs);
}
