use Rattle.std.proofs.Common.{◌≡◌, ◌++◌, map, drop}
use Rattle.ground_numbers.specs.Problem.{kind_of}
use Rattle.clausify.proofs.problem.kinds_of.Given as goal

abbrev pub invariant-loop-n : goal.invariant-loop-n
invariant-loop-n l = map kind_of l.atoms.table.atoms ≡ l.kinds ++ map kind_of (drop l.n l.atoms.table.atoms)
