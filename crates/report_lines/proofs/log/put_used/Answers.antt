use Rattle.report_lines.specs.Formats.{counted}
use Rattle.report_lines.specs.Fields.{most_count}
use Rattle.report_lines.specs.Entries.{literal_format, step_format}
use Rattle.report_lines.proofs.Splitting.{more}
use Rattle.report_lines.proofs.log.put_used.Goals as goal

pub returns : goal.returns
returns c = more c.args.out.now.items c.put_list.new.out.items c.put_list-2.new.out.items ((counted most_count literal_format).put c.args.used.now) ((counted most_count step_format).put c.args.steps.now) c.in_ok-put_list.ensures c.in_ok-put_list-2.ensures
