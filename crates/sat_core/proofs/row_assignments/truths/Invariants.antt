use Rattle.std.proofs.Common.{◌≡◌, ◌<◌, ℕ, true, false, length, get_or}
use Rattle.proof_lines.specs.Clauses.{lit_of}
use Rattle.sat_core.specs.Trails.{in_trail}
use Rattle.sat_core.proofs.row_assignments.truths.Given as goal

abbrev pub invariant-loop-atom : goal.invariant-loop-atom
invariant-loop-atom l = (length l.out ≡ l.atom) × ((a : ℕ) → a < l.atom → get_or l.out a false ≡ in_trail l.trail (lit_of a true))
