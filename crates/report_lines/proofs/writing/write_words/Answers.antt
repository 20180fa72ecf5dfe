use Rattle.std.proofs.Common.{List, ℕ, Bor, map}
use Rattle.report_lines.proofs.Splitting.{written}
use Rattle.report_lines.proofs.writing.write_words.Goals as goal

pub returns : goal.returns
returns c = written c.args.out.now.items c.extend_from_slice.new.self.items c.put_words.new.out.items c.push.new.self.items c.args.first.now (map (λ (w : Bor (List ℕ)). w.now) c.args.words.now) c.in_ok-extend_from_slice.ensures.items c.in_ok-put_words.ensures c.in_ok-push.ensures.items
