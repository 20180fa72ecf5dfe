use Rattle.std.proofs.Common.{◌≡◌, false, reverse, slice_index_or, None, sym, ◌∙◌, ap, is_some}
use Rattle.sat_core.proofs.Seats.{place-in}
use Rattle.sat_core.proofs.places.enter.Goals as goal

pub enter_new-requires-clause-new : goal.enter_new-requires-clause-new
enter_new-requires-clause-new c =
    let t = reverse c.args.entries.now.items in
    let p : is_some (slice_index_or c.args.places.now.items c.args.entry.lit.atom None) ≡ false = (let v = c.as_slice.ensures.value in cc) in
    place-in t c.args.entry.lit ∙ ap is_some (sym (c.requires c.args.entry.lit.atom)) ∙ p
