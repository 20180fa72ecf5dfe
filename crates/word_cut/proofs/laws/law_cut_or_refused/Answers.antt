use Rattle.word_cut.proofs.Unique.{refused_uncut}
use Rattle.word_cut.proofs.laws.law_cut_or_refused.Goals as goal

pub returns : goal.returns
returns c = refused_uncut
