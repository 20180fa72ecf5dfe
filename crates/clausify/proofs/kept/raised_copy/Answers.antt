use Rattle.clausify.proofs.Raised.{copied}
use Rattle.clausify.proofs.kept.raised_copy.Goals as goal

pub returns : goal.returns
returns c = copied c.args.first c.args.more c.args.clause.now c.raise.result c.law_distinct.ensures c.raise.ensures
