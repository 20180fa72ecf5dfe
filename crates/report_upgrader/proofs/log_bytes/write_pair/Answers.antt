use Rattle.report_upgrader.proofs.Plans.{pair_written}
use Rattle.report_upgrader.proofs.log_bytes.write_pair.Goals as goal

pub returns : goal.returns
returns c =
    pair_written c.args.out.now.items c.extend_from_slice.new.self.items c.put_number.new.out.items c.put_number-2.new.out.items c.push.new.self.items c.args.first c.args.second
    c.in_ok-extend_from_slice.ensures.items c.in_ok-put_number.ensures c.in_ok-put_number-2.ensures c.in_ok-push.ensures.items
