use Rattle.std.proofs.Common.{◌≡◌, ◌∙◌, arith}
use Rattle.conflict_variants.proofs.TokenNames.{all_unused}
use Rattle.conflict_variants.proofs.naming.unused_names.Goals as goal

pub returns : goal.returns
returns c =
    let most = c.loop-number-test.false in let least = c.loop-number.auto.number-end in
    c.loop-number.invariant ∙ all_unused c.args.spec.now c.loop-number.number (let e : c.loop-number.number ≡ 250 = omega (arith, most, least) in e)
