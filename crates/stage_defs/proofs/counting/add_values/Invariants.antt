use Rattle.std.proofs.Common.{◌≡◌, ◌≤◌, map, drop}
use Rattle.ground_numbers.specs.Stages.{stage_of}
use Rattle.ground_atoms.specs.Symbols.{parts_of}
use Rattle.ground_atoms.specs.Making.{make_all}
use Rattle.ground_atoms.specs.Formulas.{form_of}
use Rattle.ground_atoms.specs.Staying.{NumbersStay}
use Rattle.stage_defs.specs.Settings.{readings_in, caller_in}
use Rattle.stage_defs.specs.Parts.{values_upto}
use Rattle.stage_defs.proofs.counting.add_values.Given as goal

abbrev pub invariant-loop-place : goal.invariant-loop-place
invariant-loop-place l = record {
  made :
      make_all (map form_of l.out) l.atoms (values_upto (readings_in l.before) (caller_in l.before) (stage_of l.stage) l.counter l.key l.number (parts_of l.value) (drop l.place l.updates))
      ≡ make_all (map form_of l.initial.out) l.initial.atoms (values_upto (readings_in l.before) (caller_in l.before) (stage_of l.stage) l.counter l.key 1 (parts_of l.initial.value) l.updates);
  number : 1 ≤ l.number;
  stay : NumbersStay l.initial.atoms l.atoms;
}
