use Rattle.report_bytes.proofs.Following.{are_read, faulty_end}
use Rattle.report_bytes.proofs.reading.read_blocks.Goals as goal

pub returns-in-Ok-end-clause-ok : goal.returns-in-Ok-end-clause-ok
returns-in-Ok-end-clause-ok c =
    are_read c.args.reader.now c.args.bytes.now c.take_lines.new.reader c.take_lines.new.collected c.in-Ok.rest.now c.version.result c.budget_in.result c.in-Ok.ensures.ok c.in-Ok-end.ensures c.version.ensures c.budget_in.ensures

pub returns-in-Err-end-clause-refused : goal.returns-in-Err-end-clause-refused
returns-in-Err-end-clause-refused c =
    faulty_end c.args.reader.now c.args.bytes.now c.take_lines.new.reader c.take_lines.new.collected c.in-Ok.rest.now c.in-Err-end.error c.in-Ok.ensures.ok c.in-Err-end.ensures
