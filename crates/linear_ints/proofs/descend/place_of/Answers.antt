use Rattle.std.proofs.Common.{ℕ, ◌<◌, length, List, sym, ap, subst}
use Rattle.elimination.specs.Pairs.{place_at}
use Rattle.linear_ints.proofs.descend.place_of.Goals as goal

pub bounds-order-stage : goal.bounds-order-stage
bounds-order-stage c = subst (λ (o : List ℕ). c.args.stage < length o) (sym c.as_slice-order.ensures) c.requires

pub returns : goal.returns
returns c = ap (λ (o : List ℕ). place_at o c.args.stage) c.as_slice-order.ensures
