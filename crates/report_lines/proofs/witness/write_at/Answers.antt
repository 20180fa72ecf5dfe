use Rattle.std.specs.Prelude.{codes}
use Rattle.std.specs.List.{flat_map}
use Rattle.report_lines.specs.Fields.{count_format}
use Rattle.report_lines.proofs.Splitting.{written}
use Rattle.report_lines.proofs.witness.write_at.Goals as goal

pub returns : goal.returns
returns c = written c.args.out.now.items c.extend_from_slice.new.self.items c.put_elements.new.out.items c.push.new.self.items (codes "at") (flat_map count_format.put c.args.elements.now) c.in_ok-extend_from_slice.ensures.items c.in_ok-put_elements.ensures c.in_ok-push.ensures.items
