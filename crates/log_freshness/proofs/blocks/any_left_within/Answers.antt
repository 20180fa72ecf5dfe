use Rattle.std.proofs.Common.{arith}
use Rattle.log_freshness.proofs.blocks.any_left_within.Goals as goal

pub has_bit-ruled-requires : goal.has_bit-ruled-requires
has_bit-ruled-requires c = omega (arith, c.requires.few, c.loop-i-test.true)

pub is_left_within-requires-clause-out : goal.is_left_within-requires-clause-out
is_left_within-requires-clause-out c = λ ruled. c.requires.out c.loop-i.i _ c.loop-i-test.true (c.has_bit-ruled.ensures.yes ruled)
