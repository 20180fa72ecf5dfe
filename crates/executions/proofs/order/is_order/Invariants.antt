use Rattle.std.proofs.Common.{◌≡◌, ℕ, ◌<◌, Some, take}
use Rattle.std.specs.Prelude.{slice_get}
use Rattle.executions.specs.Orders.{MayFollow}
use Rattle.executions.proofs.order.is_order.Given as goal

-- each event so far may follow those before it
abbrev pub invariant-loop-i : goal.invariant-loop-i
invariant-loop-i l = (k e : ℕ) → k < l.i → slice_get l.order k ≡ Some e → MayFollow l.events (take k l.order) e
