use Rattle.std.proofs.Common.{get_or}
use Rattle.std.proofs.lemmas.List.Elements.{Contains-get_or}
use Rattle.suggest.specs.declared.answer.Key.{Key}
use Rattle.suggest.proofs.Appending.{no_keys, key_appended, all_appended}
use Rattle.suggest.proofs.writing.write_keys.Goals as goal

pub loop-key-init : goal.loop-key-init
loop-key-init c = no_keys c.args.question.now.spec.now c.args.question.now.budget c.args.question.now.pair c.args.text.now.items

pub write_key-requires-clause-keyed : goal.write_key-requires-clause-keyed
write_key-requires-clause-keyed c =
    let k : Key = record { p = 0; q = 0 } in
    c.requires.keyed (get_or c.args.keys.now c.loop-key.key-index k) (Contains-get_or c.args.keys.now c.loop-key.key-index k c.loop-key-test.true)

pub loop-key-preserved : goal.loop-key-preserved
loop-key-preserved c =
    let asked = c.args.question.now in
    key_appended asked.spec.now asked.budget asked.pair c.args.keys.now c.loop-key.key-index (record { p = 0; q = 0 }) c.args.text.now.items c.loop-key.text.items c.write_key.new.text.items
    c.loop-key-test.true c.loop-key.invariant c.in_ok-write_key.ensures

pub returns : goal.returns
returns c =
    let asked = c.args.question.now in
    all_appended asked.spec.now asked.budget asked.pair c.args.keys.now c.loop-key.key-index c.args.text.now.items c.loop-key.text.items c.loop-key-test.false c.loop-key.auto.key-index-end c.loop-key.invariant
