use Rattle.std.proofs.Common.{arith}
use Rattle.report_reader.proofs.PlainNumbers.{before_space}
use Rattle.report_reader.proofs.plain.number_before.Goals as goal

pub returns-then-is_short : goal.returns-then-is_short
returns-then-is_short c =
    let f = c.front_digits-number in
    before_space c.args.bytes.now f.result.1 f.result.0 c.if-len-bytes.true c.if-bytes-len-eq32.true f.ensures.plain (c.is_short.ensures c.if-is_short.true) f.ensures.digits f.ensures.number (omega arith)
