-- Watched literals: when a clause is at rest under a trail, and what the lists of clauses by watched literals hold.
use Rattle.std.specs.Prelude.{◌≡◌, ◌≢◌, ℕ, ◌+◌, ◌*◌, ◌<◌, ◌==◌, Bool, true, false, not, cond, ◌≤◌, ◌&&◌, ◌||◌, List, [], length, slice_index_or}
use Rattle.std.specs.List.{list_any}
use Rattle.proof_lines.specs.declared.clause.Lit.{Lit}
use Rattle.proof_lines.specs.Clauses.{has, same_lit}
use Rattle.sat_core.specs.declared.trail.Entry.{Entry}
use Rattle.sat_core.specs.Trails.{in_trail, negated, is_false, is_unit, before_last, has_decision, open_in, NoneFalse}
use Rattle.sat_core.specs.Searching.{IsBefore}
use Rattle.unit_propagation.specs.declared.looking.Watched.{Watched}
use Rattle.unit_propagation.specs.declared.looking.ClauseStatus.{ClauseStatus}
use Rattle.unit_propagation.specs.declared.looking.ClauseStatus.TheVariants.{False, Unit as OfUnit, Open}
use Rattle.unit_propagation.specs.declared.watches.Watches.{Watches}

-- a number is one of a list's
abbrev pub is_among : ℕ → List ℕ → Bool
is_among n ns = list_any (λ m. m == n) ns

-- the list with a number
abbrev pub list_at : List (List ℕ) → ℕ → List ℕ
list_at lists k = slice_index_or lists k []

-- what some lists hold, others hold too
abbrev pub Keeps : List (List ℕ) → List (List ℕ) → Type 0
Keeps lists others =
    (k n : ℕ) → is_among n (list_at lists k) ≡ true → is_among n (list_at others k) ≡ true

-- the number of the list of a literal
abbrev pub code : Lit → ℕ
code l = l.atom * 2 + cond l.positive 1 0

-- a clause that watches two literals is AT REST under a trail: one of them is true, or they are two and neither is false. So the
-- clause is neither unit nor false
abbrev pub rests : List Entry → Watched → Bool
rests t w =
    in_trail t w.first || (in_trail t w.second
    || (not (same_lit w.first w.second) && (not (negated t w.first) && not (negated t w.second))))

-- a watched literal isn't false, so neither is the clause
abbrev pub is_open : List Entry → Watched → Bool
is_open t w = not (negated t w.first) || not (negated t w.second)

-- the literals in the other order
abbrev pub turned : Watched → Watched
turned w = record { first = w.second; second = w.first }

-- a clause is at rest with two literals under each trail that stands before a decision of this one
abbrev pub IsSteady : List Entry → Watched → Type 0
IsSteady t w = (u : List Entry) → IsBefore u t → rests u w ≡ true

-- the literals that a clause watches
abbrev pub pair_at : List Watched → ℕ → Watched
pair_at pairs i =
    slice_index_or pairs i (record {
      first = record { atom = 0; positive = true };
      second = record { atom = 0; positive = true };
    })

-- a clause stands in the list of a literal, or that list is being gone through, and the clause is still to come
abbrev pub is_listed : List (List ℕ) → ℕ → List ℕ → ℕ → Lit → Bool
is_listed lists from left i l =
    is_among i (list_at lists (code l)) || ((code l == from) && is_among i left)

-- a clause watches two of its literals, whose lists have it, and is at rest with them before each decision
pub record IsKept (c : List Lit) (t : List Entry) (from : ℕ) (left : List ℕ) (lists : List (List ℕ))
    (i : ℕ) (w : Watched) : Type 0 where
  pub has_first : has c w.first ≡ true
  pub has_second : has c w.second ≡ true
  pub first_listed : is_listed lists from left i w.first ≡ true
  pub second_listed : is_listed lists from left i w.second ≡ true
  pub steady : IsSteady t w

-- it is at rest, or it isn't false and waits among those that may be unit, or it is still to be looked at
abbrev pub is_quiet : List Entry → List ℕ → List ℕ → ℕ → Watched → Bool
is_quiet t left units i w = is_among i left || (rests t w || (is_open t w && is_among i units))

-- the first `n` clauses are kept so, where the clauses of `left`, which stood in the list with the number `from`, are still to be
-- looked at
pub record AreKept (n : ℕ) (cs : List (List Lit)) (t : List Entry) (from : ℕ) (left : List ℕ)
    (w : Watches) : Type 0 where
  pub many : length w.pairs.items ≡ n
  pub each : (i : ℕ) → i < n → IsKept (slice_index_or cs i []) t from left w.lists.items i
      (pair_at w.pairs.items i)

-- all clauses are kept so, and none is left to be looked at
abbrev pub AllKept : List (List Lit) → List Entry → Watches → Type 0
AllKept cs t w = AreKept (length cs) cs t 0 [] w

-- the first `n` clauses are kept so, and quiet
pub record AreWatched (n : ℕ) (cs : List (List Lit)) (t : List Entry) (from : ℕ) (left : List ℕ)
    (w : Watches) : Type 0 where
  pub kept : AreKept n cs t from left w
  pub quiet : (i : ℕ) → i < n → is_quiet t left w.units i (pair_at w.pairs.items i) ≡ true

-- all clauses are watched, and none is left to be looked at
abbrev pub AllWatched : List (List Lit) → List Entry → Watches → Type 0
AllWatched cs t w = AreWatched (length cs) cs t 0 [] w

-- the first `n` clauses are at rest
abbrev pub AreAtRest : ℕ → List Entry → Watches → Type 0
AreAtRest n t w = (i : ℕ) → i < n → rests t (pair_at w.pairs.items i) ≡ true

-- after a backjump: the clauses that watch are at rest, none is false, and those that don't watch yet are open in two literals before
-- the last decision
pub record IsResumed (cs : List (List Lit)) (t : List Entry) (w : Watches) : Type 0 where
  pub kept : AreKept (length w.pairs.items) cs t 0 [] w
  pub rest : AreAtRest (length w.pairs.items) t w
  pub many : length w.pairs.items ≤ length cs
  pub none_false : NoneFalse t cs
  pub wide : has_decision t ≡ true → (k : ℕ) → length w.pairs.items ≤ k → k < length cs
      → 2 ≤ open_in (before_last t) (slice_index_or cs k [])

-- what a step leaves as it was for all clauses but one
pub record IsMoved (i : ℕ) (w u : Watches) : Type 0 where
  pub others : (k : ℕ) → k ≢ i → pair_at u.pairs.items k ≡ pair_at w.pairs.items k
  pub lists : Keeps w.lists.items u.lists.items
  pub units : (n : ℕ) → is_among n w.units ≡ true → is_among n u.units ≡ true

-- a clause was looked at: it is quiet, or it is false
abbrev pub IsLooked : Bool → List Lit → List Entry → List ℕ → ℕ → Watched → Type 0
IsLooked true c t units i w = is_quiet t [] units i w ≡ true
IsLooked false c t units i w = is_false t c ≡ true

-- a clause that may be unit was looked at again: it is false, or unit, or at rest
abbrev pub IsLook : ClauseStatus → List Lit → List Entry → Watched → Type 0
IsLook False c t w = is_false t c ≡ true
IsLook (OfUnit l) c t w = (is_unit t c l ≡ true) × (is_open t w ≡ true)
IsLook Open c t w = rests t w ≡ true
