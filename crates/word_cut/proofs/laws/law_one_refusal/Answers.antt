use Rattle.word_cut.proofs.Unique.{refusal_unique}
use Rattle.word_cut.proofs.laws.law_one_refusal.Goals as goal

pub returns : goal.returns
returns c = refusal_unique
