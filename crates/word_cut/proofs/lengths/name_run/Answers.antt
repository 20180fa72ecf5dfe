use Rattle.std.proofs.Common.{arith}
use Rattle.word_cut.specs.Texts.{is_name_byte}
use Rattle.word_cut.proofs.Runs.{passed_more, IsRun-here, IsRun-all}
use Rattle.word_cut.proofs.lengths.name_run.Goals as goal

pub returns-then-not-is_name_byte : goal.returns-then-not-is_name_byte
returns-then-not-is_name_byte c = IsRun-here is_name_byte _ _ c.loop-place-test.true c.loop-place.invariant (cc)

pub loop-place-preserved : goal.loop-place-preserved
loop-place-preserved c = passed_more is_name_byte _ _ c.loop-place-test.true c.loop-place.invariant (cc)

pub returns : goal.returns
returns c = IsRun-all is_name_byte _ _ (omega arith) c.loop-place.invariant
