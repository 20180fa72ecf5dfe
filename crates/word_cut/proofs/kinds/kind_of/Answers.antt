use Rattle.std.proofs.Common.{sym}
use Rattle.word_cut.proofs.KindLemmas.{kind_of-letter, kind_of-digit}
use Rattle.word_cut.proofs.kinds.kind_of.Goals as goal

pub returns-then-is_letter : goal.returns-then-is_letter
returns-then-is_letter c = sym (kind_of-letter _ c.in-len1-up.len_at_least (cc) c.requires (cc))

pub returns-then-is_digit : goal.returns-then-is_digit
returns-then-is_digit c = sym (kind_of-digit _ c.in-len1-up.len_at_least (cc) c.requires (cc))
