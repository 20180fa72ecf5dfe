use Rattle.parser_combinators.proofs.KeyLemmas.{word_stands}
use Rattle.parser_combinators.proofs.making.tokens.Goals as goal

pub token_of-requires-clause-stands : goal.token_of-requires-clause-stands
token_of-requires-clause-stands c = (word_stands c.args.bytes.now c.args.words.now c.words.number _ c.requires c.words-test.true).0

pub token_of-requires-clause-place : goal.token_of-requires-clause-place
token_of-requires-clause-place c = (word_stands c.args.bytes.now c.args.words.now c.words.number _ c.requires c.words-test.true).1
