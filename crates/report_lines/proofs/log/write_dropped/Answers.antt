use Rattle.std.proofs.Common.{[], ◌∷◌}
use Rattle.report_lines.specs.Logs.{drop_words}
use Rattle.report_lines.proofs.Splitting.{written}
use Rattle.report_lines.proofs.log.write_dropped.Goals as goal

pub returns : goal.returns
returns c = written c.args.out.now.items c.push.new.self.items c.put_list.new.out.items c.push-2.new.self.items (100 ∷ []) (drop_words.put c.args.clauses.now) c.in_ok-push.ensures.items c.in_ok-put_list.ensures c.in_ok-push-2.ensures.items
