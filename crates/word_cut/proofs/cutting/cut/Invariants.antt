use Rattle.std.proofs.Common.{◌-◌, length}
use Rattle.word_cut.proofs.CutLemmas.{Grows}
use Rattle.word_cut.proofs.cutting.cut.Given as goal

abbrev pub invariant-words : goal.invariant-words
invariant-words l = Grows l.bytes l.words.items l.at l.line

abbrev pub decreases-words : goal.decreases-words
decreases-words l = length l.bytes - l.at
