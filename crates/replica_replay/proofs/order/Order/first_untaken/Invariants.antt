use Rattle.std.proofs.Common.{◌≡◌, not, drop}
use Rattle.std.specs.List.{find}
use Rattle.replica_replay.specs.Held.{is_taken}
use Rattle.replica_replay.proofs.order.Order.first_untaken.Given as goal

-- the first untaken event is the first one from here on
abbrev pub invariant-loop-event : goal.invariant-loop-event
invariant-loop-event l = find (λ e. not (is_taken l.self e)) l.events ≡ find (λ e. not (is_taken l.self e)) (drop l.event-index l.events)
