use Rattle.std.proofs.Common.{◌≡◌, length}
use Rattle.parser_combinators.specs.declared.token.Key.TheVariants as keys
use Rattle.parser_combinators.specs.Words.{is_key}
use Rattle.parser_combinators.specs.Read.{many, one_more}
use Rattle.spec_reader.specs.Reading.{variable_at, variables_at}
use Rattle.parser_combinators.proofs.Loop.{with_front}
use Rattle.spec_reader.proofs.sentences.variables.Given as goal

abbrev pub invariant-vars : goal.invariant-vars
invariant-vars l = with_front l.vars (many (is_key keys.Comma) (one_more (variable_at l.version)) l.rest) ≡ variables_at l.version l.fn.tokens

abbrev pub decreases-vars : goal.decreases-vars
decreases-vars l = length l.rest
