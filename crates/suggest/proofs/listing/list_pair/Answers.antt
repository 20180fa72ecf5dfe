use Rattle.std.proofs.Common.{◌≡◌, List, sym, subst, ◌∙◌, ap, arith}
use Rattle.std.proofs.lemmas.Grind.{common_steps}
use Rattle.std.specs.List.{filter, Contains}
use Rattle.obligation_list.specs.declared.obligation.Obligation.{Obligation}
use Rattle.obligation_list.specs.Obligations.{IsObligation}
use Rattle.suggest.specs.Pairs.{is_of_pair}
use Rattle.suggest.proofs.Listed.{listed_obligation}
use Rattle.suggest.proofs.listing.list_pair.Goals as goal

pub returns-clause-members : goal.returns-clause-members
returns-clause-members c =
    let e : c.as_slice.result.now ≡ c.in_ok-obligations.obligations = grind (arith, common_steps) in
    subst (λ (l : List Obligation). (ob : Obligation) → Contains l ob → IsObligation c.args.spec.now ob) (sym (c.in-Ok.ensures ∙ ap (filter (is_of_pair c.args.pair.first c.args.pair.second)) e))
    (listed_obligation c.args.spec.now c.args.pair.first c.args.pair.second c.in_ok-obligations.obligations c.in_ok-obligations.ensures.list c.in_ok-obligations.ensures.obligations)
