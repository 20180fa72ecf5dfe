use Rattle.std.proofs.Common.{Option, sym, ◌∙◌, subst}
use Rattle.std.specs.Prelude.{IfSome}
use Rattle.sat_core.specs.declared.answer.Answer.{Answer}
use Rattle.sat_core.specs.Answers.{IsAnswer}
use Rattle.sat_core.proofs.Ends.{at_once}
use Rattle.watched_search.proofs.solving.search.Goals as goal

pub returns-then-holds_empty : goal.returns-then-holds_empty
returns-then-holds_empty g c = at_once g.T.Theory.MAY_SPLIT c.args.problem.now c.args.budget c.new.result c.new.ensures (sym c.holds_empty.ensures ∙ c.if-holds_empty.true)

pub returns-in-Ok-Some : goal.returns-in-Ok-Some
returns-in-Ok-Some g c =
    subst (λ (z : Option Answer). IfSome z (λ a. IsAnswer g.T.Theory.MAY_SPLIT g.T.Theory.MAY_STOP c.args.problem.now c.args.budget a))
    c.in-Ok-Some.field-0-is (c.in-Ok-Some.ensures g.T.Theory.MAY_SPLIT g.T.Theory.MAY_STOP)
