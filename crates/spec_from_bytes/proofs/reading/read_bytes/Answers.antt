use Rattle.std.proofs.Common.{subst}
use Rattle.word_cut.specs.Words.{IsRefused}
use Rattle.spec_from_bytes.specs.Refusal.{strange_letter, long_name, long_number}
use Rattle.spec_from_bytes.proofs.reading.read_bytes.Goals as goal

pub returns-in_ok-placed_text-in-Err-Letter : goal.returns-in_ok-placed_text-in-Err-Letter
returns-in_ok-placed_text-in-Err-Letter c =
    (strange_letter c.in-Err-Letter.at, (c.requires, subst (IsRefused c.args.bytes.now) c.in-Err-Letter.field-0-is c.in-Err-Letter.ensures.refused), c.in_ok-placed_text-in-Err-Letter.ensures)

pub returns-in_ok-placed_text-in-Err-TooLongName : goal.returns-in_ok-placed_text-in-Err-TooLongName
returns-in_ok-placed_text-in-Err-TooLongName c =
    (long_name c.in-Err-TooLongName.at, (c.requires, subst (IsRefused c.args.bytes.now) c.in-Err-TooLongName.field-0-is c.in-Err-TooLongName.ensures.refused), c.in_ok-placed_text-in-Err-TooLongName.ensures)

pub returns-in_ok-placed_text-in-Err-TooLongNumber : goal.returns-in_ok-placed_text-in-Err-TooLongNumber
returns-in_ok-placed_text-in-Err-TooLongNumber c =
    (long_number c.in-Err-TooLongNumber.at, (c.requires, subst (IsRefused c.args.bytes.now) c.in-Err-TooLongNumber.field-0-is c.in-Err-TooLongNumber.ensures.refused), c.in_ok-placed_text-in-Err-TooLongNumber.ensures)
