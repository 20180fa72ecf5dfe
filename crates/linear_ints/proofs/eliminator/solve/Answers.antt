use Rattle.std.proofs.Common.{ℕ, ◌∙◌, subst}
use Rattle.theory_api.specs.Laws.{IsModel}
use Rattle.linear_ints.specs.Stops.{IsStop}
use Rattle.linear_ints.proofs.Starting.{early}
use Rattle.elimination.proofs.Taking.{taking-end}
use Rattle.linear_ints.proofs.eliminator.solve.Goals as goal

pub take_all-requires : goal.take_all-requires
take_all-requires c = c.requires.taking

pub returns-in-Err : goal.returns-in-Err
returns-in-Err c = early c.args.ints c.args.rows.now c.take_all.new.tableau c.in-Err.stop c.in-Err.ensures

pub eliminate_all-requires : goal.eliminate_all-requires
eliminate_all-requires c = taking-end c.args.rows.now c.take_all.new.tableau c.in-Ok.ensures.0

pub returns-in-Err-eliminate_all : goal.returns-in-Err-eliminate_all
returns-in-Err-eliminate_all c = early c.args.ints c.args.rows.now c.eliminate_all.new.tableau c.in-Err-eliminate_all.stop c.in-Err-eliminate_all.ensures

pub descend-requires-clause-elimination : goal.descend-requires-clause-elimination
descend-requires-clause-elimination c = c.in-Ok-eliminate_all.ensures.0

pub descend-requires-clause-left : goal.descend-requires-clause-left
descend-requires-clause-left c = c.in-Ok-eliminate_all.ensures.2

pub returns-in-Ok-descend : goal.returns-in-Ok-descend
returns-in-Ok-descend c =
    subst (λ (n : ℕ). IsModel n c.args.rows.now c.in-Ok-descend.values) (c.in-Ok-eliminate_all.ensures.1 ∙ c.in-Ok.ensures.1 ∙ c.requires.ints) c.in-Ok-descend.ensures

pub returns-in-Err-descend : goal.returns-in-Err-descend
returns-in-Err-descend c =
    subst (λ (n : ℕ). IsStop n c.args.rows.now c.eliminate_all.new.tableau c.in-Err-descend.stop) (c.in-Ok-eliminate_all.ensures.1 ∙ c.in-Ok.ensures.1 ∙ c.requires.ints) c.in-Err-descend.ensures
