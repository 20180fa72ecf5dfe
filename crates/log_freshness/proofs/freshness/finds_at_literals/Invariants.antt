use Rattle.std.proofs.Common.{◌≡◌, drop, map, []}
use Rattle.std.specs.Prelude.{slice_index_or}
use Rattle.std.specs.List.{list_any}
use Rattle.log_freshness.specs.Index.{marked_within, spot}
use Rattle.log_freshness.proofs.freshness.finds_at_literals.Given as goal

abbrev pub invariant-loop-lit : goal.invariant-loop-lit
invariant-loop-lit l =
    list_any (λ k. list_any (marked_within l.look.count l.look.marks.now l.look.slots.now l.look.lits.now) (slice_index_or l.lists k []))
    (map (spot l.look.count) l.look.lits.now)
    ≡ list_any (λ k. list_any (marked_within l.look.count l.look.marks.now l.look.slots.now l.look.lits.now) (slice_index_or l.lists k []))
    (map (spot l.look.count) (drop l.lit-index l.look.lits.now))
