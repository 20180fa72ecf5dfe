use Rattle.report_lines.specs.Words.{left}
use Rattle.report_upgrader.proofs.LineKinds.{resolve_kind}
use Rattle.report_upgrader.proofs.log_bytes.resolve_line.Goals as goal

pub returns : goal.returns
returns c = λ l is fits same.
    resolve_kind l c.args.word.now (left c.args.rest) (left c.in-Ok.rest) (left c.in-Ok-count.field-0-1) c.in-Ok.left c.in-Ok-count.right is fits same c.in-Ok.ensures c.in-Ok-count.ensures
