use Rattle.std.proofs.Common.{subst}
use Rattle.report_upgrader.specs.declared.log_bytes.LogLine.{LogLine}
use Rattle.report_upgrader.specs.Plans.{IsKind}
use Rattle.report_upgrader.proofs.Plans.{resolve_result}
use Rattle.report_upgrader.proofs.log_bytes.write_resolve.Goals as goal

pub returns-in_ok-extend_from_slice-in-Resolve : goal.returns-in_ok-extend_from_slice-in-Resolve
returns-in_ok-extend_from_slice-in-Resolve c = λ l front line ended text kind.
    resolve_result c.write_drops.result c.args.rewritten l line front c.args.ended.now c.args.out.now.items c.extend_from_slice.new.self.items c.write_drops.new.out.items c.in-Resolve.left c.in-Resolve.right
    ended text (subst (λ (k : LogLine). IsKind k l) c.in-Resolve.is kind) c.in_ok-extend_from_slice-in-Resolve.ensures.items c.write_drops.ensures
