use Rattle.std.proofs.Common.{◌≡◌, map, drop, fold}
use Rattle.ground_problem.specs.Symbols.{argument}
use Rattle.ground_numbers.specs.Problem.{numbers_from}
use Rattle.ground_atoms.specs.Known.{know_integer}
use Rattle.ground_groups.proofs.numbering.number_params.Given as goal

abbrev pub invariant-loop-place : goal.invariant-loop-place
invariant-loop-place l = fold know_integer l.atoms (map (argument l.call) (numbers_from l.place (drop l.place l.params))) ≡ fold know_integer l.initial.atoms (map (argument l.call) (numbers_from 0 l.params))
