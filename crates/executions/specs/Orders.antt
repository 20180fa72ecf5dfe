-- Delivery orders: in which orders a replica may take events.
use Rattle.std.specs.Prelude.{◌≡◌, ℕ, ◌<◌, List, length, take, slice_get, Some, Contains}

-- An event: a call, and the events that its replica had taken before it, in that order. Events go by their numbers, which are
-- their places in the list of all events.
pub record Event (Call : Type 0) : Type 0 where
  pub call : Call
  pub seen : List ℕ

-- each element of the first list is an element of the second
abbrev pub AreIn : List ℕ → List ℕ → Type 0
AreIn xs ys = (x : ℕ) → Contains xs x → Contains ys x

-- Event e may be taken next, after those taken so far: it exists, it wasn't taken, and all that it has seen was taken.
pub record MayFollow {Call : Type 0} (events : List (Event Call)) (taken : List ℕ)
    (e : ℕ) : Type 0 where
  pub event : Event Call
  pub exists : slice_get events e ≡ Some event
  pub new : ¬ Contains taken e
  pub after : AreIn event.seen taken

-- A delivery order is a list of distinct events in which each stands after all that it has seen.
abbrev pub IsOrder : {Call : Type 0} → List (Event Call) → List ℕ → Type 0
IsOrder events order = (i e : ℕ) → slice_get order i ≡ Some e → MayFollow events (take i order) e

-- A causally closed set of events, listed in any order: whatever one of them has seen is one of them.
pub record IsClosed {Call : Type 0} (events : List (Event Call)) (set : List ℕ) : Type 0 where
  pub exist : (e : ℕ) → Contains set e → e < length events
  pub closed : (e : ℕ) (event : Event Call) → Contains set e → slice_get events e ≡ Some event
      → AreIn event.seen set

-- a delivery order of the events of a set
pub record IsOrderOf {Call : Type 0} (events : List (Event Call))
    (set order : List ℕ) : Type 0 where
  pub ordered : IsOrder events order
  pub within : AreIn order set
  pub whole : AreIn set order
