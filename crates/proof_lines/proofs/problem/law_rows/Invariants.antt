use Rattle.std.proofs.Common.{◌≡◌, take, true}
use Rattle.std.specs.List.{list_all}
use Rattle.proof_lines.specs.Problems.{has_good_row}
use Rattle.proof_lines.proofs.problem.law_rows.Given as goal

abbrev pub invariant-loop-atom : goal.invariant-loop-atom
invariant-loop-atom l = list_all has_good_row (take l.atom-index l.atoms) ≡ true
