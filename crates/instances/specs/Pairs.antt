-- Pairs of the members of a list.
use Rattle.std.specs.Prelude.{ℕ, zero, suc, ◌+◌}

-- how many pairs so many members of a list make
abbrev pub pair_count : ℕ → ℕ
pair_count zero = 0
pair_count (suc n) = n + pair_count n
