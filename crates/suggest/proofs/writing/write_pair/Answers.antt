use Rattle.suggest.proofs.Appending.{pair_written}
use Rattle.suggest.proofs.writing.write_pair.Goals as goal

pub returns : goal.returns
returns c =
    let asked = c.args.question.now in
    pair_written asked.spec.now asked.budget asked.pair c.args.tally c.in-Ok.value.1 c.in-Ok.value.0 c.args.text.now.items c.write_bare.new.text.items c.write_keys_after.new.text.items
    c.in-Ok.ensures.text c.in-Ok-write_keys_after.ensures
