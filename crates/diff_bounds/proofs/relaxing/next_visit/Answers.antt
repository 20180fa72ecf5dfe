use Rattle.diff_bounds.specs.Edges.{edge_at}
use Rattle.diff_bounds.proofs.Bounding.{near-low}
use Rattle.diff_bounds.proofs.Pushing.{now-low}
use Rattle.diff_bounds.proofs.relaxing.next_visit.Goals as goal

pub value_along-value-requires-clause-from_low : goal.value_along-value-requires-clause-from_low
value_along-value-requires-clause-from_low c =
    now-low c.args.walks.now.ints c.args.edges.now c.args.walks.now.visits.items c.args.walks.now.latest.items c.requires.kept (edge_at c.args.edges.now c.args.number).from c.now_at-from.result
    (c.requires.near c.args.number c.requires.number).from_below c.now_at-from.ensures

pub value_along-value-requires-clause-bound_low : goal.value_along-value-requires-clause-bound_low
value_along-value-requires-clause-bound_low c = near-low c.args.walks.now.ints (edge_at c.args.edges.now c.args.number).bound (c.requires.near c.args.number c.requires.number).not_below
