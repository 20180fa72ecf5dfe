use Rattle.std.proofs.Common.{◌+◌, ◌-◌, vec_len}
use Rattle.byte_ports.proofs.Loops.{Reading}
use Rattle.byte_ports.proofs.source.read_up_to.Given as goal

abbrev pub invariant-loop-given : goal.invariant-loop-given
invariant-loop-given g l =
    Reading (g.S.Source.left l.initial.src) (g.S.Source.left l.src) (g.S.Source.faults l.initial.src) (g.S.Source.faults l.src)
    (g.S.Source.reads l.initial.src) (g.S.Source.reads l.src) l.limit l.bytes.items

abbrev pub decreases-loop-given : goal.decreases-loop-given
decreases-loop-given g l = l.limit + 1 - vec_len l.bytes
