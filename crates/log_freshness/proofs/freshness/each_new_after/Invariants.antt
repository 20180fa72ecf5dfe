use Rattle.std.proofs.Common.{◌≡◌, length, take, drop}
use Rattle.log_freshness.specs.Freshness.{live_of, each_new}
use Rattle.log_freshness.specs.Index.{HasNoMark}
use Rattle.log_freshness.specs.Puts.{IndexFits, IsIndexOf}
use Rattle.log_freshness.proofs.freshness.each_new_after.Given as goal

abbrev pub invariant-loop-i : goal.invariant-loop-i
invariant-loop-i l = record {
  fits : IndexFits l.slots l.index;
  before : IsIndexOf l.slots l.index (live_of (take l.i l.slots));
  sized : length l.marks.items ≡ l.index.count;
  clear : HasNoMark l.marks.items;
  rest : each_new (live_of (take l.given l.slots)) (live_of (drop l.given l.slots)) ≡ each_new (live_of (take l.i l.slots)) (live_of (drop l.i l.slots));
}
