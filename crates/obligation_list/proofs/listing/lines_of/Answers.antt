use Rattle.std.proofs.Common.{length, ap, arith}
use Rattle.obligation_list.proofs.LineFits.{few_requires}
use Rattle.obligation_list.proofs.listing.lines_of.Goals as goal

pub overflow_cast-result : goal.overflow_cast-result
overflow_cast-result c =
    let few = few_requires c.args.spec.now c.well_formed-2.ensures c.args.op in
    let e = ap length c.requires_of.ensures in
    omega (arith, few, e)
