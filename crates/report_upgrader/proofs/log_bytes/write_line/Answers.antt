use Rattle.std.proofs.Common.{◌++◌, sym, subst}
use Rattle.std.specs.Prelude.{OnOk}
use Rattle.report_upgrader.specs.declared.planning.Rewritten.{Rewritten}
use Rattle.report_upgrader.specs.Plans.{written_for, IsWritten}
use Rattle.report_upgrader.proofs.Plans.{alone_result}
use Rattle.report_upgrader.proofs.log_bytes.write_line.Goals as goal

pub returns-in-Alone : goal.returns-in-Alone
returns-in-Alone c = λ l cut pair text.
    let result = c.extend_from_slice-in-Alone.result in
    let old = c.args.out.now.items in
    let new = c.extend_from_slice-in-Alone.new.self.items in
    subst (λ (x : Rewritten). OnOk result (IsWritten (written_for x l) (old ++ c.args.front.now) new)) (sym c.in-Alone.is)
    (alone_result result l c.args.line.now c.args.front.now c.args.ended.now old new cut text c.extend_from_slice-in-Alone.ensures.items)
