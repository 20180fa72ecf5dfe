use Rattle.std.proofs.Common.{arith}
use Rattle.report_reader.proofs.PlainNumbers.{to_end}
use Rattle.report_reader.proofs.plain.last_number.Goals as goal

pub returns-then-is_short : goal.returns-then-is_short
returns-then-is_short c =
    let f = c.front_digits-number in
    to_end c.args.bytes.now f.result.1 f.result.0 c.if-len-bytes.true f.ensures.plain (c.is_short.ensures c.if-is_short.true) f.ensures.digits f.ensures.number (omega arith)
