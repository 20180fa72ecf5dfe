use Rattle.std.specs.Prelude.{codes}
use Rattle.report_lines.specs.Witnesses.{call_format}
use Rattle.report_lines.proofs.Splitting.{written}
use Rattle.report_lines.proofs.witness.write_call.Goals as goal

pub returns : goal.returns
returns c = written c.args.out.now.items c.extend_from_slice.new.self.items c.put_call.new.out.items c.push.new.self.items (codes "call") ((call_format c.args.spec.now).put c.args.call.now) c.in_ok-extend_from_slice.ensures.items c.in_ok-put_call.ensures c.in_ok-push.ensures.items
