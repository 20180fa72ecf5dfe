use Rattle.watched_search.proofs.proposed.proposed.Goals as goal

pub returns-in-Values : goal.returns-in-Values
returns-in-Values c = λ split stop. c.answered_by-answer.ensures c.args.budget split stop
