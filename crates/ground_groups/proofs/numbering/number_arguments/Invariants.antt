use Rattle.std.proofs.Common.{◌≡◌, map, drop, fold}
use Rattle.spec_core.specs.Specification.{op_of}
use Rattle.ground_numbers.specs.Problem.{arguments_from}
use Rattle.ground_atoms.specs.Known.{know_integer}
use Rattle.ground_groups.proofs.numbering.number_arguments.Given as goal

abbrev pub invariant-loop-place : goal.invariant-loop-place
invariant-loop-place l = fold know_integer l.atoms (arguments_from l.place (map (λ o. (op_of l.spec o).params) (drop l.place l.ops))) ≡ fold know_integer l.initial.atoms (arguments_from 0 (map (λ o. (op_of l.spec o).params) l.ops))
