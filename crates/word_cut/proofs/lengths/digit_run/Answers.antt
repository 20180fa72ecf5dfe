use Rattle.std.proofs.Common.{arith}
use Rattle.word_cut.specs.Texts.{is_digit}
use Rattle.word_cut.proofs.Runs.{passed_more, IsRun-here, IsRun-all}
use Rattle.word_cut.proofs.lengths.digit_run.Goals as goal

pub returns-then-not-is_digit : goal.returns-then-not-is_digit
returns-then-not-is_digit c = IsRun-here is_digit _ _ c.loop-place-test.true c.loop-place.invariant (cc)

pub loop-place-preserved : goal.loop-place-preserved
loop-place-preserved c = passed_more is_digit _ _ c.loop-place-test.true c.loop-place.invariant (cc)

pub returns : goal.returns
returns c = IsRun-all is_digit _ _ (omega arith) c.loop-place.invariant
