use Rattle.word_cut.proofs.Unique.{cut_unique}
use Rattle.word_cut.proofs.laws.law_one_cut.Goals as goal

pub returns : goal.returns
returns c = cut_unique
