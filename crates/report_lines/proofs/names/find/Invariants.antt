use Rattle.std.proofs.Common.{◌≡◌, drop, map}
use Rattle.report_lines.specs.Formats.{place_from}
use Rattle.report_lines.proofs.names.find.Given as goal

abbrev pub invariant-places : goal.invariant-places
invariant-places g l = place_from l.place (drop l.place (map g.T.Named.named l.things)) l.name ≡ place_from l.from (drop l.from (map g.T.Named.named l.things)) l.name
