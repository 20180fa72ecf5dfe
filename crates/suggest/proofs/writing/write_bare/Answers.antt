use Rattle.std.proofs.Common.{subst, sym}
use Rattle.spec_core.specs.Specification.{Specification}
use Rattle.report_lines.specs.Blocks.{operation_name}
use Rattle.suggest.specs.Answers.{HaveLogs}
use Rattle.suggest.specs.Texts.{pair_word}
use Rattle.suggest.proofs.Appending.{line_written, bare_written}
use Rattle.suggest.proofs.writing.write_bare.Goals as goal

pub find_bare-requires-clause-proved : goal.find_bare-requires-clause-proved
find_bare-requires-clause-proved c =
    let asked = c.args.question.now in
    subst (λ (s : Specification). HaveLogs s asked.budget c.args.proved.now) (sym asked.bare_is) c.requires.proved

pub returns-clause-text : goal.returns-clause-text
returns-clause-text c =
    let asked = c.args.question.now in
    let d = asked.spec.now in
    let f = c.in_ok-found.found in
    let line =
    line_written c.args.text.now.items c.write_words.new.out.items c.pair_word.result.now c.operation_name-first.result.now c.operation_name-second.result.now
    (pair_word f) (operation_name d asked.pair.first) (operation_name d asked.pair.second)
    c.in-Ok-write_words.ensures c.pair_word.ensures c.operation_name-first.ensures c.operation_name-second.ensures in
    bare_written d asked.budget asked.pair asked.bare.now f c.args.tally c.in-Ok.value c.is_refuted-needed.result c.args.text.now.items c.write_words.new.out.items c.write_found.new.text.items
    asked.bare_is c.in_ok-found.ensures.found c.is_refuted-needed.ensures c.in-Ok.ensures line c.in_ok-write_found.ensures

pub returns-clause-proved : goal.returns-clause-proved
returns-clause-proved c =
    let asked = c.args.question.now in
    subst (λ (s : Specification). HaveLogs s asked.budget c.find_bare.new.proved) asked.bare_is c.in_ok-found.ensures.proved
