use Rattle.word_cut.proofs.Gaps.{Grows}
use Rattle.word_cut.proofs.lengths.gap_len.Given as goal

abbrev pub invariant-loop-place : goal.invariant-loop-place
invariant-loop-place l = Grows l.commented l.bytes l.place
