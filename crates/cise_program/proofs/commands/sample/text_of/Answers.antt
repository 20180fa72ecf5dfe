use Rattle.cise_program.proofs.Texts.{three_added}
use Rattle.cise_program.proofs.commands.sample.text_of.Goals as goal

pub returns : goal.returns
returns c =
    three_added c.new-text.result.items c.push_placed.new.text.items c.push_numbered.new.text.items c.write_end.new.out.items _ _ _
    c.new-text.ensures.items c.in_ok-push_placed.ensures c.in_ok-push_numbered.ensures c.in_ok-write_end.ensures.ok
