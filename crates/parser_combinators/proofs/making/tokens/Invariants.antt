use Rattle.parser_combinators.proofs.KeyLemmas.{Front}
use Rattle.parser_combinators.proofs.making.tokens.Given as goal

abbrev pub invariant-words : goal.invariant-words
invariant-words l = Front l.bytes l.words l.number l.tokens
