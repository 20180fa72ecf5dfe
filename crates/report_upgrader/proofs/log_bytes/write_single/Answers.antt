use Rattle.report_upgrader.proofs.Plans.{single_written}
use Rattle.report_upgrader.proofs.log_bytes.write_single.Goals as goal

pub returns : goal.returns
returns c =
    single_written c.args.out.now.items c.extend_from_slice.new.self.items c.put_number.new.out.items c.push.new.self.items c.args.clause c.in_ok-extend_from_slice.ensures.items c.in_ok-put_number.ensures c.in_ok-push.ensures.items
