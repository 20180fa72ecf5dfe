use Rattle.std.proofs.Common.{arith}
use Rattle.diff_bounds.proofs.Cycling.{cycle-some, conflict-steps, cycle-rows, cycle-different, steps-added}
use Rattle.diff_bounds.proofs.solver.conflict_of.Goals as goal

pub steps_of-requires-clause-some : goal.steps_of-requires-clause-some
steps_of-requires-clause-some c = omega (arith, cycle-some c.args.walks.now.visits.items c.in_ok-used.used c.in_ok-used.ensures, c.len-2.ensures)

pub returns-clause-promised : goal.returns-clause-promised
returns-clause-promised c =
    conflict-steps c.args.walks.now.ints c.args.rows.now c.args.edges.now c.args.walks.now.visits.items c.args.walks.now.latest.items c.in_ok-used.used c.len-2.result c.in-Ok.steps
    c.requires.edges c.requires.kept c.in_ok-used.ensures c.len-2.ensures c.in-Ok.ensures

pub returns-clause-added : goal.returns-clause-added
returns-clause-added c = (
  cycle-rows c.args.walks.now.ints c.args.rows.now c.args.edges.now c.args.walks.now.visits.items c.args.walks.now.latest.items c.in_ok-used.used c.requires.edges c.requires.kept c.in_ok-used.ensures,
  cycle-different c.args.walks.now.ints c.args.edges.now c.args.walks.now.visits.items c.args.walks.now.latest.items c.in_ok-used.used c.requires.kept c.in_ok-used.ensures,
  steps-added c.in_ok-used.used c.len-2.result c.in-Ok.steps c.len-2.ensures c.in-Ok.ensures,
)
