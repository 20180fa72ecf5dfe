use Rattle.std.proofs.Common.{refl, arith}
use Rattle.report_reader.proofs.PlainNumbers.{number_more, digits_more, no_space_more}
use Rattle.report_reader.proofs.plain.front_digits.Goals as goal

pub loop-place-preserved : goal.loop-place-preserved
loop-place-preserved c =
    let text = c.args.bytes.now in
    let i = c.loop-place.place in
    record {
      small = omega (arith, c.loop-place.invariant.small);
      before = no_space_more text i c.loop-place.invariant.before (omega arith);
      digits = digits_more text i _ c.loop-place-test.true refl (omega arith) (omega arith) c.loop-place.invariant.digits;
      total = number_more text i c.loop-place.number c.loop-place-test.true c.loop-place.invariant.total;
    }
