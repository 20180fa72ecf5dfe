use Rattle.std.proofs.Common.{◌≤◌, List, length, sym, subst}
use Rattle.std.specs.List.{Contains}
use Rattle.obligation_list.specs.declared.obligation.Obligation.{Obligation}
use Rattle.obligation_list.specs.Obligations.{IsObligation}
use Rattle.obligation_list.proofs.Counting.{few_obligations}
use Rattle.obligation_list.proofs.Listed.{listed_is_obligation}
use Rattle.obligation_list.proofs.listing.list.Goals as goal

pub returns-clause-few : goal.returns-clause-few
returns-clause-few c = subst (λ (l : List Obligation). length l ≤ 12208) (sym c.in_ok-list.ensures) (few_obligations c.args.spec.now c.well_formed-2.ensures)

pub returns-clause-obligations : goal.returns-clause-obligations
returns-clause-obligations c = subst (λ (l : List Obligation). (ob : Obligation) → Contains l ob → IsObligation c.args.spec.now ob) (sym c.in_ok-list.ensures) (listed_is_obligation c.args.spec.now)
