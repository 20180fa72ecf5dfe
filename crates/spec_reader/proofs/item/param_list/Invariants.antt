use Rattle.std.proofs.Common.{◌≡◌, length}
use Rattle.parser_combinators.specs.declared.token.Key.TheVariants as keys
use Rattle.parser_combinators.specs.Words.{is_key}
use Rattle.parser_combinators.specs.Read.{many, one_more, listed_at}
use Rattle.spec_reader.specs.Reading.{param_at}
use Rattle.parser_combinators.proofs.Loop.{with_front}
use Rattle.spec_reader.proofs.item.param_list.Given as goal

abbrev pub invariant-params : goal.invariant-params
invariant-params l = with_front l.list (many (is_key keys.Comma) (one_more (param_at l.version)) l.rest) ≡ listed_at (param_at l.version) l.fn.tokens

abbrev pub decreases-params : goal.decreases-params
decreases-params l = length l.rest
