use Rattle.theory_api.proofs.Refuted.{conflict-unsatisfiable}
use Rattle.theory_api.proofs.refuting.refutes.Goals as goal

pub returns-in-Conflict : goal.returns-in-Conflict
returns-in-Conflict g c h = conflict-unsatisfiable c.args.rows.now c.in-Conflict.used c.in-Conflict.steps c.law_rows.ensures c.in-Conflict.ensures
