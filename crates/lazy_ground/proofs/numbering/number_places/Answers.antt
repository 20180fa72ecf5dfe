use Rattle.std.proofs.Common.{◌≤◌, min, length, sym, ◌∙◌, arith}
use Rattle.lazy_ground.proofs.NamedAfter.{places_done}
use Rattle.lazy_ground.proofs.numbering.number_places.Goals as goal

pub returns : goal.returns
returns c =
    let t = c.args.left.now in let u = c.args.right.now in
    let done : min (length t) (length u) ≤ c.loop-place.place = omega (arith, c.loop-place-test.false, c.loop-place.auto.place-end, c.min-count.ensures) in
    sym (places_done c.loop-place.atoms t u c.loop-place.place done) ∙ c.loop-place.invariant
