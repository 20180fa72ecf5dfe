use Rattle.std.proofs.Common.{◌≡◌, ◌++◌, drop}
use Rattle.clausify.specs.Kept.{all_raised}
use Rattle.clausify.proofs.kept.raise_all.Given as goal

abbrev pub invariant-loop-clause : goal.invariant-loop-clause
invariant-loop-clause l = l.out ++ all_raised l.first l.more (drop l.clause-index l.clauses) ≡ l.initial.out ++ all_raised l.first l.more l.clauses
