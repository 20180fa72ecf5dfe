use Rattle.std.specs.Prelude.{codes}
use Rattle.report_lines.specs.Logs.{used_words}
use Rattle.report_lines.proofs.Splitting.{written}
use Rattle.report_lines.proofs.evidence.write_rows.Goals as goal

pub returns : goal.returns
returns c = written c.args.out.now.items c.extend_from_slice.new.self.items c.put_used.new.out.items c.push.new.self.items (codes "rows") (used_words.put (c.args.used.now, c.args.steps.now)) c.in_ok-extend_from_slice.ensures.items c.in_ok-put_used.ensures c.in_ok-push.ensures.items
