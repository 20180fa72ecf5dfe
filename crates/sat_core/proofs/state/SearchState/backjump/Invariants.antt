use Rattle.std.proofs.Common.{◌≡◌, ℕ, true, get_or, [], length}
use Rattle.sat_core.specs.Trails.{has_decision, is_done}
use Rattle.sat_core.specs.Searching.{with_trail, Aim, InChain}
use Rattle.sat_core.proofs.Resolving.{InCut}
use Rattle.sat_core.proofs.state.SearchState.backjump.Given as goal

-- while the clause is borrowed, the state is seen by its parts, of which the trail is the third
abbrev pub invariant-cutting : goal.invariant-cutting
invariant-cutting l = (a : Aim) (budget before : ℕ) (x : InChain a budget before l.fn.self l.reached) → is_done l.fn.self.trail (get_or l.fn.self.grown.clauses l.reached []) ≡ true → has_decision l.fn.self.trail ≡ true
    → InCut a budget before x.start l.fn.self.trail (with_trail l.fn.self l.self.1.1.0) l.reached

abbrev pub decreases-cutting : goal.decreases-cutting
decreases-cutting l = length l.self.1.1.0
