use Rattle.std.proofs.Common.{◌∙◌, ap, List, Option}
use Rattle.lin_rows.specs.Rows.{Row}
use Rattle.line_rows.specs.Kept.{kept_at, is_bad}
use Rattle.line_rows.proofs.KeptLines.{ends-line}
use Rattle.line_rows.proofs.kept.refutes_kept.Goals as goal

pub returns-in-Ok : goal.returns-in-Ok
returns-in-Ok c =
    ends-line c.args.atoms.now c.args.used.now c.args.steps.now c.in-Ok.rows.items c.saturating_sub-last.result c.is_bad.result c.saturating_sub-last.ensures c.in-Ok.ensures
    (c.is_bad.ensures ∙ ap (λ (l : List (Option Row)). is_bad (kept_at l c.saturating_sub-last.result)) c.as_slice.ensures.value)
