use Rattle.std.proofs.Common.{subst}
use Rattle.spec_trees.specs.Form.{tree_of}
use Rattle.spec_trees.specs.Place.{texts_of}
use Rattle.spec_reader.specs.Refused.{IsRefusedAt}
use Rattle.spec_from_bytes.specs.Refusal.{no_reading}
use Rattle.spec_from_bytes.specs.Reading.{IsTyped}
use Rattle.spec_from_bytes.proofs.Unread.{unread-syntax, faulty_refusal}
use Rattle.spec_from_bytes.proofs.reading.read_words.Goals as goal

pub returns-in-Err-Syntax : goal.returns-in-Err-Syntax
returns-in-Err-Syntax c =
    let bytes = c.args.bytes.now in
    let words = c.args.words.now in
    let place = subst (IsRefusedAt (texts_of bytes words)) c.in-Err-Syntax.field-0-is c.in-Err-Syntax.ensures.place in (
      no_reading c.in-Err-Syntax.word,
      (c.requires.within, (words, c.requires.cut, place, λ t read. unread-syntax _ _ c.in-Err-Syntax.field-0-is (c.in-Err-Syntax.ensures.only t read.0 read.1))),
      c.in_ok-placed_text-in-Err-Syntax.ensures,
    )

pub returns-in-Faulty : goal.returns-in-Faulty
returns-in-Faulty c =
    let tree = tree_of c.in-Ok.tree in
    faulty_refusal c.args.bytes.now c.args.words.now tree c.in-Faulty.text.items c.requires.within c.requires.cut c.in-Ok.ensures.found
    (subst (IsTyped tree) c.in-Faulty.is c.in_ok-spec.ensures)
