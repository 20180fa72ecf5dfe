-- Walks along edges, and what is kept of them while they are made shorter.
use Rattle.std.specs.Prelude.{◌≡◌, ℕ, zero, suc, ◌+◌, ◌-◌, ◌*◌, ◌<◌, ◌≤◌, pos, ◌+ℤ◌, ◌*ℤ◌, neg_ℤ, ◌≤ℤ◌, ◌<ℤ◌, List, [], ◌∷◌, ◌⊎◌, length, slice_index_or}
use Rattle.diff_bounds.specs.declared.edges.Edge.{Edge}
use Rattle.diff_bounds.specs.declared.walks.Visit.{Visit}
use Rattle.diff_bounds.specs.Differences.{state_limit}
use Rattle.diff_bounds.specs.Edges.{edge_at}

-- VISITS: each is where a walk has come to, by an edge from an earlier visit, or a start

-- what stands for a visit that isn't there
abbrev pub no_visit : Visit
no_visit = record { place = 0; depth = 0; value = pos 0; edge = 0; before = 0 }

-- the visit of a number
abbrev pub visit_at : List Visit → ℕ → Visit
visit_at visits i = slice_index_or visits i no_visit

-- the visit that lies this many edges back
abbrev pub back : List Visit → ℕ → ℕ → ℕ
back visits zero i = i
back visits (suc n) i = back visits n (visit_at visits i).before

-- this many edges of a walk, back from a visit: the last one first
abbrev pub walk_edges : List Visit → ℕ → ℕ → List ℕ
walk_edges visits zero i = []
walk_edges visits (suc n) i =
    (visit_at visits i).edge ∷ walk_edges visits n (visit_at visits i).before

-- the visit with number i comes by an edge from an earlier one
pub record IsStep (edges : List Edge) (i : ℕ) (visit before : Visit) : Type 0 where
  pub earlier : visit.before < i
  pub edge_below : visit.edge < length edges
  pub from_is : (edge_at edges visit.edge).from ≡ before.place
  pub to_is : (edge_at edges visit.edge).to ≡ visit.place
  pub value_is : visit.value ≡ before.value +ℤ (edge_at edges visit.edge).bound
  pub depth_is : visit.depth ≡ before.depth + 1

-- what is kept of the visit with number i. Its value is 0 or less, and no further from 0 than its depth allows
pub record IsVisit (ints : ℕ) (edges : List Edge) (i : ℕ) (visit before : Visit) : Type 0 where
  pub place_below : visit.place ≤ ints
  pub depth_below : visit.depth ≤ ints + 1
  pub not_above : visit.value ≤ℤ pos 0
  pub not_below : neg_ℤ (pos (visit.depth * state_limit)) ≤ℤ (pos (ints + 1) *ℤ visit.value)
  pub not_later : visit.before ≤ i
  pub step : 0 < visit.depth → IsStep edges i visit before

-- the number of the latest visit of a place
abbrev pub latest_at : List ℕ → ℕ → ℕ
latest_at latest place = slice_index_or latest place 0

-- the latest visit of a place
abbrev pub now_at : List Visit → List ℕ → ℕ → Visit
now_at visits latest place = visit_at visits (latest_at latest place)

-- the start of a walk
abbrev pub start_at : ℕ → Visit
start_at place = record { place = place; depth = 0; value = pos 0; edge = 0; before = 0 }

-- a start for each place below a number
pub record AreStarts (places : ℕ) (visits : List Visit) (latest : List ℕ) : Type 0 where
  pub visit_count : length visits ≡ places
  pub latest_count : length latest ≡ places
  pub each : (p : ℕ) → p < places → visit_at visits p ≡ start_at p
  pub own : (p : ℕ) → p < places → latest_at latest p ≡ p

-- what is kept of all visits. A later visit of a place has a lower value
pub record AreWalks (ints : ℕ) (edges : List Edge) (visits : List Visit)
    (latest : List ℕ) : Type 0 where
  pub each : (i : ℕ) → i < length visits
      → IsVisit ints edges i (visit_at visits i) (visit_at visits (visit_at visits i).before)
  pub falls : (i j : ℕ) → i < j → j < length visits
      → (visit_at visits i).place ≡ (visit_at visits j).place
      → (visit_at visits j).value <ℤ (visit_at visits i).value
  pub count : length latest ≡ ints + 1
  pub there : (p : ℕ) → p ≤ ints → latest_at latest p < length visits
  pub same : (p : ℕ) → p ≤ ints → (now_at visits latest p).place ≡ p
  pub last : (i : ℕ) → i < length visits → i ≤ latest_at latest (visit_at visits i).place

-- a visit by the edge with number i from the latest visit of its start, to a lower value than the latest one of its end
pub record IsNext (ints : ℕ) (edges : List Edge) (visits : List Visit) (latest : List ℕ) (i : ℕ)
    (visit : Visit) : Type 0 where
  pub edge_below : i < length edges
  pub place_is : visit.place ≡ (edge_at edges i).to
  pub edge_is : visit.edge ≡ i
  pub before_is : visit.before ≡ latest_at latest (edge_at edges i).from
  pub value_is : visit.value
      ≡ (now_at visits latest (edge_at edges i).from).value +ℤ (edge_at edges i).bound
  pub depth_is : visit.depth ≡ (now_at visits latest (edge_at edges i).from).depth + 1
  pub lower : visit.value <ℤ (now_at visits latest (edge_at edges i).to).value
  pub short : (now_at visits latest (edge_at edges i).from).depth ≤ ints

-- no latest visit is deeper than there are integer names
abbrev pub AreShort : ℕ → List Visit → List ℕ → Type 0
AreShort ints visits latest = (p : ℕ) → p ≤ ints → (now_at visits latest p).depth ≤ ints

-- the last visit is deeper
pub record IsLong (ints : ℕ) (visits : List Visit) : Type 0 where
  pub some : 0 < length visits
  pub deep : (visit_at visits (length visits - 1)).depth ≡ ints + 1

-- an edge leads to no lower value
abbrev pub IsSettled : List Visit → List ℕ → Edge → Type 0
IsSettled visits latest e =
    (now_at visits latest e.to).value ≤ℤ ((now_at visits latest e.from).value +ℤ e.bound)

-- no edge leads to a lower value
abbrev pub AreSettled : List Visit → List ℕ → List Edge → Type 0
AreSettled visits latest edges =
    (i : ℕ) → i < length edges → IsSettled visits latest (edge_at edges i)

-- an edge is settled, or leads on from a deep visit
abbrev pub IsAhead : List Visit → List ℕ → Edge → ℕ → Type 0
IsAhead visits latest e depth =
    IsSettled visits latest e ⊎ (depth ≤ (now_at visits latest e.from).depth)

-- in a round, all edges are ahead, the first ones already by one more
pub record AreAhead (visits : List Visit) (latest : List ℕ) (edges : List Edge)
    (round done : ℕ) : Type 0 where
  pub all : (i : ℕ) → i < length edges → IsAhead visits latest (edge_at edges i) round
  pub first : (i : ℕ) → i < length edges → i < done
      → IsAhead visits latest (edge_at edges i) (round + 1)
