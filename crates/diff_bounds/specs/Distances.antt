-- The shortest walks along rows, and the values that are made of them.
use Rattle.std.specs.Prelude.{◌≡◌, ℕ, ◌*◌, ◌<◌, ◌≤◌, max, ℤ, pos, ◌+ℤ◌, ◌-ℤ◌, ◌≤ℤ◌, unsigned_abs, List, [], ◌∷◌, length}
use Rattle.lin_rows.specs.Rows.{Row, point_of}
use Rattle.lin_rows.specs.Divisors.{tightened}
use Rattle.line_rows.specs.Steps.{row_at}
use Rattle.theory_api.specs.declared.answer.TheoryAnswer.{TheoryAnswer}
use Rattle.theory_api.specs.declared.answer.TheoryAnswer.TheVariants.{Model, Conflict, Split, Rows, Range, Memory}
use Rattle.diff_bounds.specs.Spans.{Spans}

-- A walk comes to a place and has a length. One without rows has the length 0, and a row leads on from place to place and adds its bound.
pub data IsWalk (ints : ℕ) (rows : List Row) : ℕ → ℤ → Type 0 where
  stay : (place : ℕ) → place ≤ ints → IsWalk ints rows place (pos 0)
  lead : (i from to : ℕ) (bound so_far : ℤ) → i < length rows → from ≤ ints → to ≤ ints
      → Spans ints (tightened (row_at rows i)) from to bound → IsWalk ints rows from so_far
      → IsWalk ints rows to (so_far +ℤ bound)

-- the distance of a place is the length of a walk to it, from any place, and no walk to it is shorter
pub record IsDistance (ints : ℕ) (rows : List Row) (place : ℕ) (distance : ℤ) : Type 0 where
  pub walk : IsWalk ints rows place distance
  pub shortest : (other : ℤ) → IsWalk ints rows place other → distance ≤ℤ other

-- each name has its distance, less that of the place that stands for 0
pub record AreShortest (ints : ℕ) (rows : List Row) (values : List ℤ) : Type 0 where
  pub distance : ℕ → ℤ
  pub each : (p : ℕ) → p ≤ ints → IsDistance ints rows p (distance p)
  pub values_are : (p : ℕ) → p < ints → point_of values p ≡ distance p -ℤ distance ints

-- the greatest size of a bound of the tightened rows; 0 where there are none
abbrev pub greatest_bound : List Row → ℕ
greatest_bound [] = 0
greatest_bound (r ∷ rows) = max (unsigned_abs (tightened r).bound) (greatest_bound rows)

-- no value lies further from 0 than so many times the greatest bound as there are names
abbrev pub AreNearZero : ℕ → List Row → List ℤ → Type 0
AreNearZero ints rows values =
    (p : ℕ) → p < ints → unsigned_abs (point_of values p) ≤ ints * greatest_bound rows

-- MODELS: the shortest distances, which lie near 0
abbrev pub HasShortest : ℕ → List Row → TheoryAnswer → Type 0
HasShortest ints rows (Model values) = AreShortest ints rows values × AreNearZero ints rows values
HasShortest ints rows (Conflict used steps) = Unit {0}
HasShortest ints rows (Split place at used steps low high values) = Unit {0}
HasShortest ints rows (Rows used steps) = Unit {0}
HasShortest ints rows (Range used steps what) = Unit {0}
HasShortest ints rows Memory = Unit {0}
