use Rattle.std.proofs.Common.{◌≡◌, ◌<◌, length, arith}
use Rattle.lazy_ground.proofs.Places.{places_begin}
use Rattle.lazy_ground.proofs.equal.places_equality.Goals as goal

pub loop-place-init : goal.loop-place-init
loop-place-init c =
    let t = c.args.left.now in let u = c.args.right.now in
    let some : 0 < length t = omega (arith, c.if-count-eq0.false) in
    let same : length t ≡ length u = omega (arith, c.if-count-right.false) in
    places_begin c.args.atoms.now.table t u 0 0 c.place_equality-done.result some same c.place_equality-done.ensures
