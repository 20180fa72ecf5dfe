use Rattle.std.proofs.Common.{◌≡◌, None, [], drop, take}
use Rattle.std.specs.Option.{option_map}
use Rattle.ground_atoms.specs.Formulas.{form_of}
use Rattle.stage_defs.specs.Parts.{make_parts}
use Rattle.ground_groups.specs.Rules.{each_from}
use Rattle.ground_groups.proofs.conflicting.one_element_each.Given as goal

abbrev pub invariant-loop-place : goal.invariant-loop-place
invariant-loop-place l = make_parts (option_map form_of l.done) l.atoms (each_from (take l.place l.vars) (drop l.place l.vars) (drop l.place l.consts)) ≡ make_parts None l.initial.atoms (each_from [] l.vars l.consts)
