use Rattle.std.proofs.Common.{ℕ, ◌<◌, length, List, sym, ap, subst}
use Rattle.elimination.specs.Pairs.{place_at}
use Rattle.linear_ints.proofs.Greatest.{bound-all}
use Rattle.linear_ints.proofs.bounds.side_bound.Goals as goal

pub bounds-order-stage : goal.bounds-order-stage
bounds-order-stage c = subst (λ (o : List ℕ). c.args.stage < length o) (sym c.as_slice-order.ensures) c.requires.stage

pub returns : goal.returns
returns c =
    bound-all c.greatest.result c.args.upper c.args.before.now c.args.tableau.now.order c.args.stage _ c.args.tableau.now.held c.as_slice-held.result.now c.args.values.now c.naming-named.result.now c.as_slice-held.ensures
    (ap (λ (o : List ℕ). place_at o c.args.stage) c.as_slice-order.ensures) c.requires.before c.naming-named.ensures c.greatest.ensures
