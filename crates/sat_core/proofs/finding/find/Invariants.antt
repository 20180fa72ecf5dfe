use Rattle.std.proofs.Common.{◌≡◌, ◌<◌, ℕ, false, true, get_or, []}
use Rattle.sat_core.specs.Trails.{is_false, quiet, NoneFalse}
use Rattle.sat_core.proofs.finding.find.Given as goal

abbrev pub invariant-loop-i : goal.invariant-loop-i
invariant-loop-i l = (k : ℕ) → k < l.i → is_false l.trail (get_or l.problem.clauses k []) ≡ false

abbrev pub invariant-loop-i-2 : goal.invariant-loop-i-2
invariant-loop-i-2 l = NoneFalse l.trail l.problem.clauses × ((k : ℕ) → k < l.i → quiet l.trail (get_or l.problem.clauses k []) ≡ true)
