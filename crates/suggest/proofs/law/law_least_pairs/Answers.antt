use Rattle.suggest.proofs.Least.{right, shown_so_far}
use Rattle.suggest.proofs.Counting.{none_unknown, none_counted}
use Rattle.suggest.proofs.law.law_least_pairs.Goals as goal

pub returns-clause-right : goal.returns-clause-right
returns-clause-right c = λ d budget answers good. right c.law_good_verdicts.ensures.proved c.law_good_verdicts.ensures.refuted d budget answers good

pub returns-clause-so_far : goal.returns-clause-so_far
returns-clause-so_far c = λ d budget answers good. shown_so_far c.law_good_verdicts.ensures.proved c.law_good_verdicts.ensures.refuted d budget answers good

pub returns-clause-complete : goal.returns-clause-complete
returns-clause-complete c = λ answers h a b. none_unknown answers h a b

pub returns-clause-incomplete : goal.returns-clause-incomplete
returns-clause-incomplete c = λ answers none. none_counted answers none
