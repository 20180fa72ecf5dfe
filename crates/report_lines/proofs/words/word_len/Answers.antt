use Rattle.std.proofs.Common.{length, arith, sym}
use Rattle.report_lines.proofs.FirstWord.{length_of_word}
use Rattle.report_lines.proofs.words.word_len.Goals as goal

pub returns-then-byte-eq32-clause-len : goal.returns-then-byte-eq32-clause-len
returns-then-byte-eq32-clause-len c = sym (length_of_word c.args.bytes.now c.loop-place.place (omega arith) c.loop-place.invariant (λ h. c.if-byte-eq32.true))

pub returns-clause-len : goal.returns-clause-len
returns-clause-len c = sym (length_of_word c.args.bytes.now (length c.args.bytes.now) (omega arith) (λ k h. c.loop-place.invariant k (omega arith)) (λ h. absurd (omega arith)))
