use Rattle.std.proofs.Common.{take}
use Rattle.log_freshness.specs.Freshness.{live_of}
use Rattle.log_freshness.specs.Puts.{IndexFits, IsIndexOf}
use Rattle.log_freshness.proofs.freshness.put_before.Given as goal

abbrev pub invariant-loop-i : goal.invariant-loop-i
invariant-loop-i l = record {
  fits : IndexFits l.slots l.index;
  is : IsIndexOf l.slots l.index (live_of (take l.i l.slots));
}
