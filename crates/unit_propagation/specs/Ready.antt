-- Where the watched literals stand between the steps of a search.
use Rattle.std.specs.Prelude.{◌≡◌, ℕ, ◌<◌, ◌^◌, true, List, [], length, slice_index_or, Option, Some, None}
use Rattle.proof_lines.specs.declared.clause.Lit.{Lit}
use Rattle.sat_core.specs.declared.trail.Entry.{Entry}
use Rattle.sat_core.specs.Trails.{is_false}
use Rattle.sat_core.specs.declared.finding.Found.{Found}
use Rattle.sat_core.specs.declared.finding.Found.TheVariants.{Conflict, Forced as OfForced, Nothing}
use Rattle.unit_propagation.specs.declared.watches.Watches.{Watches}
use Rattle.unit_propagation.specs.declared.propagation.Propagation.{Propagation}
use Rattle.unit_propagation.specs.Watches.{AllKept, AllWatched, AreAtRest, IsResumed}

-- the clause with a number is false, or all clauses are watched
abbrev pub IsReadyWith : Option ℕ → List (List Lit) → List Entry → Watches → Type 0
IsReadyWith (Some i) cs t w =
    (i < length cs) × (is_false t (slice_index_or cs i []) ≡ true) × AllKept cs t w
IsReadyWith None cs t w = AllWatched cs t w

-- the clause that a propagation found is false, or all clauses are watched
abbrev pub IsReady : List (List Lit) → List Entry → Propagation → Type 0
IsReady cs t p = IsReadyWith p.conflict cs t p.watches

-- where a clause was found false, all are kept; where one was found unit, all are watched; and else all are at rest
abbrev pub StayWatched : Found → List (List Lit) → List Entry → Watches → Type 0
StayWatched (Conflict i) cs t w = AllKept cs t w
StayWatched (OfForced i l) cs t w = AllWatched cs t w
StayWatched Nothing cs t w = AllKept cs t w × AreAtRest (length cs) t w

-- all clauses are watched, and before a decision they are at rest
abbrev pub MayPush : Option ℕ → List (List Lit) → List Entry → Watches → Type 0
MayPush None cs t w = AllKept cs t w × AreAtRest (length cs) t w
MayPush (Some i) cs t w = AllWatched cs t w

-- a search may go on
abbrev pub MayContinue : List (List Lit) → List Entry → Watches → Type 0
MayContinue cs t w = (length cs < 2 ^ 32) × IsResumed cs t w
