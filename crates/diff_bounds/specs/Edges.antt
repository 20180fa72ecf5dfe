-- The edges of rows, which the search for a shortest walk goes along.
use Rattle.std.specs.Prelude.{◌≡◌, ℕ, ◌+◌, ◌<◌, ◌≤◌, ℤ, pos, ◌-ℤ◌, ◌*ℤ◌, neg_ℤ, ◌≤ℤ◌, List, length, slice_index_or}
use Rattle.lin_rows.specs.declared.term.RowTerm.{RowTerm}
use Rattle.lin_rows.specs.Rows.{Row, value_at}
use Rattle.lin_rows.specs.Divisors.{tightened}
use Rattle.line_rows.specs.Steps.{row_at}
use Rattle.diff_bounds.specs.declared.edges.Edge.{Edge}
use Rattle.diff_bounds.specs.Differences.{state_limit}
use Rattle.diff_bounds.specs.Spans.{place_value, Spans}

-- what stands for an edge that isn't there
abbrev pub no_edge : Edge
no_edge = record { from = 0; to = 0; bound = pos 0 }

-- the edge of a number
abbrev pub edge_at : List Edge → ℕ → Edge
edge_at edges i = slice_index_or edges i no_edge

-- an edge goes from place to place, and its bound is near
pub record IsNear (ints : ℕ) (e : Edge) : Type 0 where
  pub from_below : e.from ≤ ints
  pub to_below : e.to ≤ ints
  pub not_below : neg_ℤ (pos state_limit) ≤ℤ (pos (ints + 1) *ℤ e.bound)
  pub not_above : (pos (ints + 1) *ℤ e.bound) ≤ℤ pos state_limit

-- each of these edges goes from place to place, and its bound is near
abbrev pub AreNear : ℕ → List Edge → Type 0
AreNear ints edges = (i : ℕ) → i < length edges → IsNear ints (edge_at edges i)

-- some terms lie between two places: at every point they are worth the difference of the two
pub record LieBetween (ints : ℕ) (ts : List RowTerm) (from to : ℕ) : Type 0 where
  pub from_below : from ≤ ints
  pub to_below : to ≤ ints
  pub value : (x : ℕ → ℤ) → value_at x ts ≡ place_value ints x to -ℤ place_value ints x from

-- the edge of a row
pub record IsEdge (ints : ℕ) (r : Row) (e : Edge) : Type 0 where
  pub near : IsNear ints e
  pub spans : Spans ints (tightened r) e.from e.to e.bound

-- each of the first rows has its edge
pub record AreFirstEdges (ints : ℕ) (rows : List Row) (count : ℕ) (edges : List Edge) : Type 0 where
  pub whole : length edges ≡ count
  pub each : (i : ℕ) → i < count → IsEdge ints (row_at rows i) (edge_at edges i)

-- each row has its edge
abbrev pub AreEdges : ℕ → List Row → List Edge → Type 0
AreEdges ints rows edges = AreFirstEdges ints rows (length rows) edges
