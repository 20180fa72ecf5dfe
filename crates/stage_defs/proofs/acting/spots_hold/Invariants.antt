use Rattle.std.proofs.Common.{◌≡◌, None, drop}
use Rattle.std.specs.Option.{option_map}
use Rattle.ground_problem.specs.Definitions.{spots_hold}
use Rattle.ground_atoms.specs.Formulas.{form_of}
use Rattle.ground_atoms.specs.Staying.{NumbersStay}
use Rattle.stage_defs.specs.Settings.{caller_in}
use Rattle.stage_defs.specs.Parts.{make_parts}
use Rattle.stage_defs.proofs.acting.spots_hold.Given as goal

abbrev pub invariant-loop-place : goal.invariant-loop-place
invariant-loop-place l = record {
  made : make_parts (option_map form_of l.done) l.atoms (spots_hold (caller_in l.setting) (drop l.place l.spots) (drop l.place l.tuple)) ≡ make_parts None l.initial.atoms (spots_hold (caller_in l.setting) l.spots l.tuple);
  stay : NumbersStay l.initial.atoms l.atoms;
}
