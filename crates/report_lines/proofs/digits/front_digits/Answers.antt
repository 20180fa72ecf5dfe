use Rattle.std.proofs.Common.{length, refl, arith, sym}
use Rattle.report_lines.proofs.FirstWord.{length_of_word}
use Rattle.report_lines.proofs.ShortNumbers.{number_more, digits_more, before_more}
use Rattle.report_lines.proofs.digits.front_digits.Goals as goal

pub loop-place-preserved : goal.loop-place-preserved
loop-place-preserved c =
    let text = c.args.bytes.now in
    let i = c.loop-place.place in
    record {
      small = omega (arith, c.loop-place.invariant.small);
      before = before_more text i c.loop-place.invariant.before c.if-byte-eq32.false;
      digits = digits_more text i _ c.loop-place-test.true refl (omega arith) (omega arith) c.loop-place.invariant.digits;
      total = number_more text i c.loop-place.number c.loop-place-test.true c.loop-place.invariant.total;
    }

pub returns-then-byte-eq32-clause-len : goal.returns-then-byte-eq32-clause-len
returns-then-byte-eq32-clause-len c = sym (length_of_word c.args.bytes.now c.loop-place.place (omega arith) c.loop-place.invariant.before (λ h. c.if-byte-eq32.true))

pub returns-clause-len : goal.returns-clause-len
returns-clause-len c = sym (length_of_word c.args.bytes.now (length c.args.bytes.now) (omega arith) (λ k h. c.loop-place.invariant.before k (omega arith)) (λ h. absurd (omega arith)))
