use Rattle.diff_bounds.proofs.Distancing.{shortest-found}
use Rattle.diff_bounds.proofs.Modelling.{model-found}
use Rattle.diff_bounds.proofs.solver.solve.Goals as goal

pub returns-clause-promised : goal.returns-clause-promised
returns-clause-promised c =
    model-found c.args.ints c.args.rows.now c.in_ok-edges.edges.items c.as_slice.result.now c.in_ok-walks.walks c.settle.new.walks c.in_ok-settle.field-0 c.in_ok-values.values
    c.requires.rows c.in_ok-edges.ensures c.as_slice.ensures.value c.in_ok-walks.ensures.ints c.in_ok-settle.ensures c.if-branch.false c.in_ok-values.ensures

pub returns-clause-shortest : goal.returns-clause-shortest
returns-clause-shortest c =
    shortest-found c.args.ints c.args.rows.now c.in_ok-edges.edges.items c.as_slice.result.now c.in_ok-walks.walks c.settle.new.walks c.in_ok-settle.field-0 c.in_ok-values.values
    c.in_ok-edges.ensures c.as_slice.ensures.value c.in_ok-walks.ensures.ints c.in_ok-settle.ensures c.if-branch.false c.in_ok-values.ensures
