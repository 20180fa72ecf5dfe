use Rattle.std.proofs.Common.{◌≡◌, drop}
use Rattle.std.specs.List.{list_any}
use Rattle.log_freshness.specs.Index.{marked_within}
use Rattle.log_freshness.proofs.freshness.any_within.Given as goal

abbrev pub invariant-loop-entry : goal.invariant-loop-entry
invariant-loop-entry l =
    list_any (marked_within l.look.count l.look.marks.now l.look.slots.now l.look.lits.now) l.entries
    ≡ list_any (marked_within l.look.count l.look.marks.now l.look.slots.now l.look.lits.now) (drop l.entry-index l.entries)
