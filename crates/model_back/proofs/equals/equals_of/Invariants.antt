use Rattle.std.proofs.Common.{◌≡◌, ◌++◌, false, drop, slice_index_or}
use Rattle.model_back.specs.Equals.{equals_from}
use Rattle.model_back.proofs.equals.equals_of.Given as goal

abbrev pub invariant-loop-n : goal.invariant-loop-n
invariant-loop-n l = equals_from (λ n. slice_index_or l.truths n false) 0 l.atoms.table.atoms ≡ l.equals.items ++ equals_from (λ n. slice_index_or l.truths n false) l.n (drop l.n l.atoms.table.atoms)
