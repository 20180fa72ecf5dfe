use Rattle.std.proofs.Common.{◌≡◌, ◌++◌, take}
use Rattle.std.specs.List.{flat_map}
use Rattle.report_lines.specs.Words.{spaced}
use Rattle.report_lines.proofs.writing.put_entries.Given as goal

abbrev pub invariant-entries : goal.invariant-entries
invariant-entries g l = l.out.items ≡ l.initial.out.items ++ spaced (flat_map g.T.Entry.format.put (take l.entry-index l.entries))
