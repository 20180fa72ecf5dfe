use Rattle.std.proofs.Common.{arith}
use Rattle.std.proofs.lemmas.Grind.{common_steps}
use Rattle.report_lines.proofs.Splitting.{put_more}
use Rattle.report_lines.proofs.writing.put_entries.Goals as goal

pub entries-preserved : goal.entries-preserved
entries-preserved g c = put_more g.T.Entry.format.put c.args.entries.now c.entries.entry-index c.entry-item.result c.args.out.now.items c.entries.out.items c.write.new.out.items c.entries-test.true c.entry-item.is c.entries.invariant c.in_ok-write.ensures

pub returns : goal.returns
returns g c = grind (arith, common_steps)
