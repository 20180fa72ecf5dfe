use Rattle.std.proofs.Common.{◌≡◌, ◌++◌, drop}
use Rattle.clausify.proofs.kept.copy_all.Given as goal

abbrev pub invariant-loop-clause : goal.invariant-loop-clause
invariant-loop-clause l = l.out ++ drop l.clause-index l.clauses ≡ l.initial.out ++ l.clauses
