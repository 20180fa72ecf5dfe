-- The values of the integer names.
use Rattle.std.specs.Prelude.{◌≡◌, ℕ, ◌<◌, ℤ, ◌-ℤ◌, List, length}
use Rattle.lin_rows.specs.Rows.{point_of}
use Rattle.diff_bounds.specs.declared.walks.Visit.{Visit}
use Rattle.diff_bounds.specs.Walks.{now_at}

-- each of the first names has the value of its place, less that of 0
pub record AreFirstValues (ints count : ℕ) (visits : List Visit) (latest : List ℕ)
    (values : List ℤ) : Type 0 where
  pub whole : length values ≡ count
  pub each : (p : ℕ) → p < count
      → point_of values p ≡ (now_at visits latest p).value -ℤ (now_at visits latest ints).value

-- each name has it
abbrev pub AreValues : ℕ → List Visit → List ℕ → List ℤ → Type 0
AreValues ints visits latest values = AreFirstValues ints ints visits latest values
