use Rattle.std.proofs.Common.{sym, ◌∙◌}
use Rattle.line_rows.proofs.LentRows.{first_unit-tight}
use Rattle.line_rows.proofs.steps.is_surely_tight.Goals as goal

pub returns-else-is_empty : goal.returns-else-is_empty
returns-else-is_empty c h = first_unit-tight c.args.row.now (sym c.has_first_unit.ensures ∙ h)
