use Rattle.std.proofs.Common.{◌≡◌, ℕ, take}
use Rattle.std.specs.List.{list_any}
use Rattle.proof_lines.specs.Numbers.{stands_in}
use Rattle.elimination.specs.Places.{names}
use Rattle.elimination.proofs.places.named_places.Given as goal

abbrev pub invariant-loop-row : goal.invariant-loop-row
invariant-loop-row l = (q : ℕ) → stands_in l.named q ≡ list_any (names q) (take l.row-index l.rows)
