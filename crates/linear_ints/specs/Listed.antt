-- The point of listed values under a name of its own, for proofs that look no further into it.
use Rattle.std.specs.Prelude.{ℕ, ℤ, List}
use Rattle.lin_rows.specs.Rows.{point_of}

-- the point whose values are listed by place, as a name of its own
unfoldable pub listed : List ℤ → ℕ → ℤ
listed values = point_of values
