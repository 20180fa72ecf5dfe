use Rattle.word_cut.proofs.Standing.{words_stand}
use Rattle.word_cut.proofs.laws.law_words_stand.Goals as goal

pub returns : goal.returns
returns c = words_stand
