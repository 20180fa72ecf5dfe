use Rattle.std.proofs.Common.{◌≡◌, [], arith}
use Rattle.std.proofs.lemmas.Grind.{common_steps}
use Rattle.std.proofs.KnownBytes.{Appends-nil}
use Rattle.suggest.proofs.Written.{text_written, text_stopped}
use Rattle.suggest.proofs.suggesting.suggest_one.Goals as goal

pub returns-in_default-clause-pair : goal.returns-in_default-clause-pair
returns-in_default-clause-pair g c = Appends-nil (g.K.Sink.held c.args.out.now)

pub returns-in-Ok-write_text-clause-pair : goal.returns-in-Ok-write_text-clause-pair
returns-in-Ok-write_text-clause-pair g c =
    let o : c.new-text.result.items ≡ [] = grind (arith, common_steps) in
    let e : c.as_slice.result.now ≡ c.write_pair.new.text.items = grind (arith, common_steps) in
    let asked = c.args.question.now in
    text_written asked.spec.now asked.budget asked.pair c.args.tally c.in-Ok.now c.new-text.result.items c.write_pair.new.text.items c.as_slice.result.now
    (g.K.Sink.held c.args.out.now) (g.K.Sink.held c.write_text.new.out) o e c.in-Ok.ensures c.in-Ok-write_text.ensures.text

pub returns-clause-pair : goal.returns-clause-pair
returns-clause-pair g c =
    let o : c.new-text.result.items ≡ [] = grind (arith, common_steps) in
    let e : c.as_slice.result.now ≡ c.write_pair.new.text.items = grind (arith, common_steps) in
    let asked = c.args.question.now in
    text_stopped asked.spec.now asked.budget asked.pair c.args.tally c.in-Ok.now c.new-text.result.items c.write_pair.new.text.items c.as_slice.result.now
    (g.K.Sink.held c.args.out.now) (g.K.Sink.held c.write_text.new.out) c.in-Err.why o e c.in-Ok.ensures c.in-Err.ensures.kind c.in-Err.ensures.text
