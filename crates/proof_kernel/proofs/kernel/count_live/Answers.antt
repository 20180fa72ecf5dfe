use Rattle.std.proofs.Common.{◌<◌, ◌∙◌, sym, arith, add-one, true, false, length}
use Rattle.proof_kernel.proofs.States.{live_of-one}
use Rattle.proof_kernel.proofs.kernel.count_live.Goals as goal
use Rattle.proof_kernel.proofs.kernel.count_live.Goals.{then-is_live_at, else-is_live_at}

pub loop-number-preserved : goal.loop-number-preserved
loop-number-preserved c =
    let slots = c.args.slots.now in
    let number = c.loop-number.number in
    let h = c.loop-number.invariant.0 in
    let k = c.loop-number.invariant.1 in
    let within : number < length slots = omega (arith, c.loop-number-test.true, c.len-number-end.ensures) in
    elim c.if-is_live_at.branch [
      | then-is_live_at w ↦ (
        rw add-one (let m = live_of-one slots number true within (sym c.is_live_at.ensures ∙ w.if-is_live_at.true) in let e = w.count-is in omega (arith, e, h, m)),
        (let e = w.count-is in omega (arith, e, k)),
      )
      | else-is_live_at w ↦ (
        rw add-one (let m = live_of-one slots number false within (sym c.is_live_at.ensures ∙ w.if-is_live_at.false) in let e = w.count-is in omega (arith, e, h, m)),
        (let e = w.count-is in omega (arith, e, k)),
      )
    ]
