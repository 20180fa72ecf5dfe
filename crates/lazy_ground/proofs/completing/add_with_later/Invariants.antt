use Rattle.std.proofs.Common.{◌≡◌, ◌+◌, ◌<◌, ◌++◌, [], get_or, map}
use Rattle.spec_core.specs.declared.update.Thing.TheVariants as thing
use Rattle.ground_atoms.specs.Formulas.{form_of}
use Rattle.lazy_ground.proofs.Wholes.{forms_with}
use Rattle.lazy_ground.proofs.completing.add_with_later.Given as goal

abbrev pub invariant-loop-later : goal.invariant-loop-later
invariant-loop-later l = record {
  atoms : l.atoms ≡ l.initial.atoms;
  above : l.earlier < l.later;
  formulas : map form_of l.out ++ forms_with l.initial.atoms.table (thing.Relation l.pairs.relation) (get_or l.pairs.tuples l.earlier []) l.pairs.tuples l.later
      ≡ map form_of l.initial.out ++ forms_with l.initial.atoms.table (thing.Relation l.pairs.relation) (get_or l.pairs.tuples l.earlier []) l.pairs.tuples (l.earlier + 1);
}
