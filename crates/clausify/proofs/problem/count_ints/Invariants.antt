use Rattle.std.proofs.Common.{◌≤◌, length}
use Rattle.clausify.proofs.problem.count_ints.Given as goal

abbrev pub invariant-loop-n : goal.invariant-loop-n
invariant-loop-n l = l.n ≤ length l.atoms.table.ints
