use Rattle.std.proofs.Common.{◌≡◌, None, drop}
use Rattle.std.specs.Option.{option_map}
use Rattle.ground_problem.specs.Equality.{tuples_same}
use Rattle.ground_atoms.specs.Formulas.{form_of}
use Rattle.stage_defs.specs.Parts.{make_parts}
use Rattle.instances.proofs.congruence.places_same.Given as goal

abbrev pub invariant-loop-place : goal.invariant-loop-place
invariant-loop-place l = make_parts (option_map form_of l.done) l.atoms (tuples_same (drop l.place l.left) (drop l.place l.right)) ≡ make_parts None l.initial.atoms (tuples_same l.left l.right)
