use Rattle.std.proofs.Common.{Option, true, false, subst}
use Rattle.std.specs.Prelude.{IfSome}
use Rattle.sat_core.specs.declared.answer.Answer.{Answer}
use Rattle.needed_clauses.specs.Rounds.{IsAnsweredByAny}
use Rattle.needed_clauses.proofs.searching.search.Goals as goal

pub returns-in-Ok-Some-clause-answer : goal.returns-in-Ok-Some-clause-answer
returns-in-Ok-Some-clause-answer c =
    subst (λ (z : Option Answer). IfSome z (λ a. IsAnsweredByAny c.args.problem.now c.args.budget a))
    c.in-Ok-Some.field-0-is c.in-Ok-Some.ensures true true

pub returns-in-Ok-Some-clause-fitting : goal.returns-in-Ok-Some-clause-fitting
returns-in-Ok-Some-clause-fitting c = λ fits.
    subst (λ (z : Option Answer). IfSome z (λ a. IsAnsweredByAny c.args.problem.now c.args.budget a))
    c.in-Ok-Some.field-0-is c.in-Ok-Some.ensures false false
