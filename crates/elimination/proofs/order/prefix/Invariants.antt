use Rattle.std.proofs.Common.{◌≡◌, take}
use Rattle.elimination.proofs.order.prefix.Given as goal

abbrev pub invariant-loop-place : goal.invariant-loop-place
invariant-loop-place l = l.front ≡ take l.place-index (take l.count l.order)
