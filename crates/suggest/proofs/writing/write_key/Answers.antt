use Rattle.suggest.specs.Texts.{param_name, key_word}
use Rattle.suggest.proofs.Appending.{line_written, key_written}
use Rattle.suggest.proofs.Bare.{free_at_key}
use Rattle.suggest.proofs.writing.write_key.Goals as goal

pub find_in-requires-clause-free : goal.find_in-requires-clause-free
find_in-requires-clause-free c =
    let asked = c.args.question.now in
    free_at_key asked.spec.now asked.budget asked.pair.first c.args.key.p asked.pair.second c.args.key.q c.in_ok-keyed.keyed c.args.free.now c.in_ok-keyed.ensures c.requires.free

pub returns : goal.returns
returns c =
    let asked = c.args.question.now in
    let d = asked.spec.now in
    let f = c.in-Ok.value in
    let line =
    line_written c.args.text.now.items c.write_words.new.out.items c.key_word.result.now c.param_name-first.result.now c.param_name-second.result.now
    (key_word f) (param_name d asked.pair.first c.args.key.p) (param_name d asked.pair.second c.args.key.q)
    c.in-Ok-write_words.ensures c.key_word.ensures c.param_name-first.ensures c.param_name-second.ensures in
    key_written d asked.budget asked.pair c.args.key c.in_ok-keyed.keyed f c.args.text.now.items c.write_words.new.out.items c.write_found.new.text.items
    c.in_ok-keyed.ensures c.in-Ok.ensures.found line c.in-Ok-write_found.ensures
