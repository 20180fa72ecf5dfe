use Rattle.std.proofs.Common.{◌∙◌}
use Rattle.parser_combinators.proofs.KeyLemmas.{key_of-all}
use Rattle.parser_combinators.proofs.making.key_of.Goals as goal

pub returns : goal.returns
returns c = c.key_among.ensures ∙ key_of-all c.as_slice.result.now c.args.text.now c.as_slice.ensures
