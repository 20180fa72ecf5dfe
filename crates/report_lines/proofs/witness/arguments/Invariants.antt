use Rattle.std.proofs.Common.{◌≡◌, drop}
use Rattle.spec_core.specs.declared.operation.Param.{Param as Parameter}
use Rattle.report_lines.specs.Formats.{list_at}
use Rattle.report_lines.specs.Witnesses.{argument_format}
use Rattle.report_lines.specs.Words.{left}
use Rattle.report_lines.proofs.Loops.{with_front}
use Rattle.report_lines.proofs.witness.arguments.Given as goal

abbrev pub invariant-params : goal.invariant-params
invariant-params l = with_front l.args (list_at (λ (p : Parameter). argument_format p.kind) (drop l.param-index l.params) (left l.rest)) ≡ list_at (λ (p : Parameter). argument_format p.kind) l.params (left l.words)
