use Rattle.word_cut.specs.Texts.{is_digit}
use Rattle.word_cut.proofs.Runs.{Passed}
use Rattle.word_cut.proofs.lengths.digit_run.Given as goal

abbrev pub invariant-loop-place : goal.invariant-loop-place
invariant-loop-place l = Passed is_digit l.bytes l.place
