use Rattle.std.proofs.Common.{◌≡◌, ℕ, List, length}
use Rattle.proof_lines.specs.declared.clause.Lit.{Lit}
use Rattle.sat_core.specs.declared.trail.Entry.{Entry}
use Rattle.unit_propagation.specs.Watches.{code, AreKept}
use Rattle.unit_propagation.proofs.propagation.Propagation.put_back.Given as goal

abbrev pub invariant-loop-clause : goal.invariant-loop-clause
invariant-loop-clause l = (l.self.conflict ≡ l.fn.self.conflict)
    × ((n : ℕ) (cs : List (List Lit)) (t : List Entry) → AreKept n cs t (code l.gone) l.fn.self.left l.fn.self.watches → AreKept n cs t (code l.gone) l.self.left l.self.watches)

abbrev pub decreases-loop-clause : goal.decreases-loop-clause
decreases-loop-clause l = length l.self.left
