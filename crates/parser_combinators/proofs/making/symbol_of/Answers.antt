use Rattle.std.proofs.Common.{sym}
use Rattle.parser_combinators.proofs.KeyLemmas.{symbol_of-number, symbol_of-name}
use Rattle.parser_combinators.proofs.making.symbol_of.Goals as goal

pub returns-in-Some-read_number : goal.returns-in-Some-read_number
returns-in-Some-read_number c = symbol_of-number _ _ (sym c.in_default.ensures) (sym c.in-Some-read_number.ensures)

pub returns-in_ok-from_slice-in-None : goal.returns-in_ok-from_slice-in-None
returns-in_ok-from_slice-in-None c = symbol_of-name _ _ (sym c.in_default.ensures) (sym c.in-None.ensures) c.requires.short c.in_ok-from_slice-in-None.ensures
