use Rattle.std.proofs.Common.{◌≡◌, ◌⊎◌, ℕ, true, List, length}
use Rattle.proof_lines.specs.declared.clause.Lit.{Lit}
use Rattle.sat_core.specs.Trails.{is_false, is_assigned, IsTrail, Settled}
use Rattle.sat_core.specs.Searching.{IsBefore}
use Rattle.sat_core.proofs.analyzing.cut_levels.Given as goal

abbrev pub invariant-cutting : goal.invariant-cutting
invariant-cutting l = (cs : List (List Lit)) → IsTrail cs l.fn.trail → Settled l.fn.trail cs → is_false l.fn.trail l.lits ≡ true
    → IsTrail cs l.trail × Settled l.trail cs × (is_false l.trail l.lits ≡ true) × ((x : ℕ) → is_assigned l.trail x ≡ true → is_assigned l.fn.trail x ≡ true) × ((l.trail ≡ l.fn.trail) ⊎ IsBefore l.trail l.fn.trail)

abbrev pub decreases-cutting : goal.decreases-cutting
decreases-cutting l = length l.trail
