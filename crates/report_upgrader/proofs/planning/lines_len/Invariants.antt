use Rattle.std.proofs.Common.{◌≡◌}
use Rattle.report_upgrader.specs.Plans.{place_of}
use Rattle.report_upgrader.proofs.planning.lines_len.Given as goal

abbrev pub invariant-lines : goal.invariant-lines
invariant-lines l = record {
  place : l.place ≡ place_of l.notes l.taken;
}
