use Rattle.watched_search.proofs.Asking.{answer-loose}
use Rattle.watched_search.proofs.early.answer_of.Goals as goal

pub returns : goal.returns
returns g c = answer-loose g.T.Theory.MAY_SPLIT g.T.Theory.MAY_STOP c.args.ints c.args.rows.now c.check.result c.check.ensures
