use Rattle.std.proofs.Common.{List, ◌∙◌, subst}
use Rattle.obligation_list.specs.declared.obligation.Obligation.{Obligation}
use Rattle.suggest.specs.Answers.{IsFound}
use Rattle.suggest.proofs.finding.find_pair.Goals as goal

pub returns-clause-found : goal.returns-clause-found
returns-clause-found c = record {
  specified = c.well_formed-2.ensures;
  comes_to = subst (λ (obs : List Obligation). IsFound c.args.spec.now c.args.budget obs c.in-Ok.value) (c.as_slice.ensures ∙ c.in_ok-obligations.ensures.list) c.in-Ok.ensures.found;
}
