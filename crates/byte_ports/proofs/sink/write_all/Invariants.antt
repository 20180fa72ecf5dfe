use Rattle.std.proofs.Common.{length, ◌-◌, ◌+◌, ◌≤◌, take}
use Rattle.std.specs.Io.KnownBytes.{Appends}
use Rattle.byte_ports.proofs.Loops.{Writing}
use Rattle.byte_ports.proofs.sink.write_all.Given as goal

abbrev pub invariant-loop-written : goal.invariant-loop-written
invariant-loop-written g l =
    Writing (g.K.Sink.held l.initial.sink) (g.K.Sink.held l.sink) (g.K.Sink.faults l.initial.sink) (g.K.Sink.faults l.sink)
    (g.K.Sink.writes l.initial.sink) (g.K.Sink.writes l.sink) l.bytes l.written

abbrev pub decreases-loop-written : goal.decreases-loop-written
decreases-loop-written g l = length l.bytes - l.written
