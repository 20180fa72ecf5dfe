use Rattle.std.proofs.Common.{FitsSigned, rules}
use Rattle.std.specs.Int.{w64}
use Rattle.stage_defs.proofs.Products.{widened_fits, widened_product}
use Rattle.stage_defs.proofs.sums.product.Goals as goal

pub overflow_mul-result : goal.overflow_mul-result
overflow_mul-result c =
    let h : FitsSigned w64 c.args.a = search rules in
    let k : FitsSigned w64 c.args.b = search rules in
    widened_fits c.args.a c.args.b h k

pub returns : goal.returns
returns c =
    let h : FitsSigned w64 c.args.a = search rules in
    let k : FitsSigned w64 c.args.b = search rules in
    widened_product c.args.a c.args.b h k
