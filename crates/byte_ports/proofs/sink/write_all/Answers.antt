use Rattle.std.proofs.Common.{◌+◌, ◌-◌, ◌≤◌, length, arith}
use Rattle.byte_ports.proofs.Loops.{length-rest, Appends-more}
use Rattle.byte_ports.proofs.sink.write_all.Goals as goal

pub loop-written-preserved : goal.loop-written-preserved
loop-written-preserved g c =
    let bytes = c.args.bytes.now in
    let rest = length-rest bytes c.loop-written.written in
    record {
      taken = Appends-more _ _ _ bytes c.loop-written.written c.in-Ok.n c.loop-written.invariant.taken c.in-Ok.ensures.bytes;
      within = omega (arith, rest, c.in-Ok.ensures.within);
      never_falls = omega (arith, c.write.ensures.never_falls);
      writes = omega (arith, rest, c.in-Ok.ensures.some, c.write.ensures.counted);
    }
