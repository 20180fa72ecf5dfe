use Rattle.std.proofs.Common.{[], ◌∷◌}
use Rattle.report_lines.specs.Logs.{used_words}
use Rattle.report_lines.proofs.Splitting.{written}
use Rattle.report_lines.proofs.log.write_farkas.Goals as goal

pub returns : goal.returns
returns c = written c.args.out.now.items c.push.new.self.items c.put_used.new.out.items c.push-2.new.self.items (102 ∷ []) (used_words.put (c.args.used.now, c.args.steps.now)) c.in_ok-push.ensures.items c.in_ok-put_used.ensures c.in_ok-push-2.ensures.items
