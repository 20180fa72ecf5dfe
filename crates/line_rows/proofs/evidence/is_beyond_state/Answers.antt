use Rattle.std.proofs.Common.{sym, ◌∙◌}
use Rattle.line_rows.proofs.Gap.{over_so}
use Rattle.line_rows.proofs.evidence.is_beyond_state.Goals as goal

pub returns-then-is_above : goal.returns-then-is_above
returns-then-is_above c =
    over_so 1000000000000000 c.args.more.now c.args.less.now c.args.by c.distance.result c.requires (sym c.is_above.ensures ∙ c.if-is_above.true) c.distance.ensures
