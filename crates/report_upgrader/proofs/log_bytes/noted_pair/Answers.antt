use Rattle.std.proofs.Common.{arith}
use Rattle.report_upgrader.proofs.LineKinds.{pair_kind}
use Rattle.report_upgrader.proofs.log_bytes.noted_pair.Goals as goal

pub returns : goal.returns
returns c = λ l pair text. pair_kind l c.args.line.now (record { left = c.args.left; right = c.args.right }) (omega arith) (omega arith) text pair
