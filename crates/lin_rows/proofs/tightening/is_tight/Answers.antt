use Rattle.lin_rows.proofs.Ones.{tightened-one}
use Rattle.lin_rows.proofs.tightening.is_tight.Goals as goal

pub returns-else-is_empty : goal.returns-else-is_empty
returns-else-is_empty c h = tightened-one c.args.row.now (c.has_no_divisor.ensures h)
