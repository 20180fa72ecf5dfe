use Rattle.word_cut.proofs.Longest.{IsWordFront-none, IsWordFront-single, IsWordFront-double}
use Rattle.word_cut.proofs.lengths.sign_len.Goals as goal

pub returns-then-begins_double : goal.returns-then-begins_double
returns-then-begins_double c = IsWordFront-double _ _ c.requires.no_letter c.requires.no_digit (cc)

pub returns-then-is_single_sign : goal.returns-then-is_single_sign
returns-then-is_single_sign c = IsWordFront-single _ _ c.requires.no_letter c.requires.no_digit (cc) (cc)

pub returns-else-is_single_sign : goal.returns-else-is_single_sign
returns-else-is_single_sign c = IsWordFront-none _ _ c.requires.no_letter c.requires.no_digit (cc) (cc)
