-- How faults are counted, and when a source or a sink may fail.
use Rattle.std.specs.Prelude.{◌≡◌, ℕ, ◌+◌, ◌-◌, ◌^◌, ◌<◌, min, ◌⊎◌}

-- one more, in a count that stops at the greatest number that a u64 holds
abbrev pub one_more : ℕ → ℕ
one_more count = min (count + 1) (2 ^ 64 - 1)

-- the count of faults before and after a call that failed: it rose, or it stands at that number
abbrev pub IsFault : ℕ → ℕ → Type 0
IsFault before after = (before < after) ⊎ (after ≡ 2 ^ 64 - 1)
