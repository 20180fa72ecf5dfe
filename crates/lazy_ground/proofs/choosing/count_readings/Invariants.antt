use Rattle.std.proofs.Common.{◌≡◌, ◌≤◌, ◌+◌, drop}
use Rattle.lazy_ground.proofs.Counts.{readings_count}
use Rattle.lazy_ground.proofs.choosing.count_readings.Given as goal

abbrev pub invariant-loop-reading : goal.invariant-loop-reading
invariant-loop-reading l = record {
  count : l.count + readings_count l.thing (drop l.reading-index l.readings) ≡ readings_count l.thing l.readings;
  few : l.count ≤ l.reading-index;
}
