use Rattle.word_cut.specs.Texts.{is_name_byte}
use Rattle.word_cut.proofs.Runs.{Passed}
use Rattle.word_cut.proofs.lengths.name_run.Given as goal

abbrev pub invariant-loop-place : goal.invariant-loop-place
invariant-loop-place l = Passed is_name_byte l.bytes l.place
