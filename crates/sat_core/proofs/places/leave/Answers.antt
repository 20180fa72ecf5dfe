use Rattle.std.proofs.Common.{◌≡◌, true, None, length, reverse, slice_index_or}
use Rattle.std.proofs.lemmas.List.{length-reverse}
use Rattle.sat_core.specs.Places.{lies_from}
use Rattle.sat_core.proofs.Seats.{places-cleared, place-there}
use Rattle.sat_core.proofs.places.leave.Goals as goal

pub returns-then-lies_from : goal.returns-then-lies_from
returns-then-lies_from c =
    let h : lies_from (length (reverse c.args.rest.now)) (slice_index_or c.args.places.now.items c.args.entry.lit.atom None) ≡ true = (let n = length-reverse c.args.rest.now in let v = c.as_slice.ensures.value in cc) in
    places-cleared c.args.entry (reverse c.args.rest.now) c.args.places.now.items (place-there c.args.places.now.items c.args.entry.lit.atom (length (reverse c.args.rest.now)) h) h c.requires
