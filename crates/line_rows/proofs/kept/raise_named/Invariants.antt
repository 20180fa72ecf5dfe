use Rattle.std.proofs.Common.{◌≡◌, ℕ, ◌<◌, false}
use Rattle.std.specs.Prelude.{slice_index_or}
use Rattle.line_rows.specs.Kept.{is_done}
use Rattle.line_rows.proofs.kept.raise_named.Given as goal

abbrev pub invariant-loop-number : goal.invariant-loop-number
invariant-loop-number l =
    ((t i : ℕ) → is_done l.initial.ends t i ≡ false → is_done l.ends t i ≡ false)
    × ((t j : ℕ) → t < l.end → j < l.number-index → is_done l.ends t (slice_index_or l.named j 0) ≡ false)
