use Rattle.std.proofs.Common.{◌≡◌, drop}
use Rattle.replica_replay.proofs.Finding.{least_from}
use Rattle.replica_replay.proofs.asking.least_unseen.Given as goal

-- the least unseen event is the least one from here on
abbrev pub invariant-loop-event : goal.invariant-loop-event
invariant-loop-event l = least_from l.spec l.world l.taken l.call 0 l.happened ≡ least_from l.spec l.world l.taken l.call l.event (drop l.event l.happened)
