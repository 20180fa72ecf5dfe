use Rattle.std.proofs.Common.{◌≡◌, ◌++◌, map}
use Rattle.spec_core.specs.declared.update.Thing.TheVariants as thing
use Rattle.ground_atoms.specs.Formulas.{form_of}
use Rattle.lazy_ground.specs.Pairs.{pair_forms}
use Rattle.lazy_ground.proofs.Wholes.{forms_from}
use Rattle.lazy_ground.proofs.completing.add_pairs.Given as goal

abbrev pub invariant-loop-earlier : goal.invariant-loop-earlier
invariant-loop-earlier l = record {
  atoms : l.atoms ≡ l.initial.atoms;
  formulas : map form_of l.out ++ forms_from l.initial.atoms.table (thing.Relation l.pairs.relation) l.pairs.tuples l.earlier ≡ map form_of l.initial.out ++ pair_forms l.initial.atoms.table l.pairs;
}
