use Rattle.word_cut.proofs.Numbers.{too_great, SomeIff-none}
use Rattle.word_cut.proofs.whole.number_of.Goals as goal

pub returns-in_err-number : goal.returns-in_err-number
returns-in_err-number c =
    SomeIff-none _ _ _ c.from_residual.ensures
    (too_great c.args.text.now c.loop-byte.byte-index c.loop-byte.number c.loop-byte-test.true c.loop-byte.invariant.total c.in_err-number.ensures)
