use Rattle.std.proofs.Common.{◌≡◌, ◌<◌, ◌+◌, true, [], get_or}
use Rattle.spec_core.specs.declared.update.Thing.TheVariants as thing
use Rattle.lazy_ground.specs.Pairs.{readings_known}
use Rattle.lazy_ground.proofs.NamedAfter.{with_after}
use Rattle.lazy_ground.proofs.numbering.number_with_later.Given as goal

abbrev pub invariant-loop-later : goal.invariant-loop-later
invariant-loop-later l = record {
  above : l.earlier < l.later;
  known : readings_known l.atoms.table l.pairs.relation l.pairs.tuples ≡ true;
  after : with_after l.atoms (thing.Relation l.pairs.relation) (get_or l.pairs.tuples l.earlier []) l.pairs.tuples l.later
      ≡ with_after l.initial.atoms (thing.Relation l.pairs.relation) (get_or l.pairs.tuples l.earlier []) l.pairs.tuples (l.earlier + 1);
}
