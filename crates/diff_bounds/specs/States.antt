-- What stands between the parts of the search for shortest walks.
use Rattle.std.specs.Prelude.{◌≡◌, ℕ, ◌+◌, Bool, true, false, List}
use Rattle.diff_bounds.specs.declared.edges.Edge.{Edge}
use Rattle.diff_bounds.specs.declared.walks.Walks.{Walks}
use Rattle.diff_bounds.specs.Walks.{AreWalks, AreShort, IsLong, IsSettled, AreSettled, AreAhead}

-- what is kept of all visits, by what a program holds of them
abbrev pub AreKept : List Edge → Walks → Type 0
AreKept edges w = AreWalks w.ints edges w.visits.items w.latest.items

-- no latest visit that is held is deeper than there are integer names
abbrev pub AreShortNow : Walks → Type 0
AreShortNow w = AreShort w.ints w.visits.items w.latest.items

-- the last visit that is held is deeper
abbrev pub IsLongNow : Walks → Type 0
IsLongNow w = IsLong w.ints w.visits.items

-- an edge leads to no lower value, by what a program holds
abbrev pub IsSettledNow : Walks → Edge → Type 0
IsSettledNow w e = IsSettled w.visits.items w.latest.items e

-- none of these edges leads to a lower value
abbrev pub AreSettledNow : Walks → List Edge → Type 0
AreSettledNow w edges = AreSettled w.visits.items w.latest.items edges

-- in a round, all these edges are ahead, the first ones already by one more
abbrev pub AreAheadNow : Walks → List Edge → ℕ → ℕ → Type 0
AreAheadNow w edges round done = AreAhead w.visits.items w.latest.items edges round done

-- after an edge, or some of them, were looked at: whether a walk became long, and how far the round has come
pub record AreRelaxed (edges : List Edge) (start done : ℕ) (old new : Walks)
    (long : Bool) : Type 0 where
  pub kept : AreKept edges new
  pub ints_same : new.ints ≡ old.ints
  pub is_long : long ≡ true → IsLongNow new
  pub are_short : long ≡ false → AreShortNow new
  pub ahead : long ≡ false → (round : ℕ) → AreAheadNow old edges round start
      → AreAheadNow new edges round done

-- after a round
pub record IsRound (edges : List Edge) (old new : Walks) (long : Bool) : Type 0 where
  pub kept : AreKept edges new
  pub ints_same : new.ints ≡ old.ints
  pub is_long : long ≡ true → IsLongNow new
  pub are_short : long ≡ false → AreShortNow new
  pub ahead : long ≡ false → (round : ℕ) → AreAheadNow old edges round 0
      → AreAheadNow new edges (round + 1) 0

-- before a round
pub record IsSettling (edges : List Edge) (ints round : ℕ) (now : Walks) : Type 0 where
  pub kept : AreKept edges now
  pub ints_same : now.ints ≡ ints
  pub short : AreShortNow now
  pub ahead : AreAheadNow now edges round 0

-- in the end a walk is long, or all edges are settled and no latest visit is deep
pub record IsEnd (edges : List Edge) (ints : ℕ) (new : Walks) (long : Bool) : Type 0 where
  pub kept : AreKept edges new
  pub ints_same : new.ints ≡ ints
  pub is_long : long ≡ true → IsLongNow new
  pub short : long ≡ false → AreShortNow new
  pub settled : long ≡ false → AreSettledNow new edges
