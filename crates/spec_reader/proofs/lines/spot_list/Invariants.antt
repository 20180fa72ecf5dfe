use Rattle.std.proofs.Common.{◌≡◌, length}
use Rattle.parser_combinators.specs.declared.token.Key.TheVariants as keys
use Rattle.parser_combinators.specs.Words.{is_key}
use Rattle.parser_combinators.specs.Read.{many, one_more, listed_at}
use Rattle.spec_reader.specs.Reading.{spot_at}
use Rattle.parser_combinators.proofs.Loop.{with_front}
use Rattle.spec_reader.proofs.lines.spot_list.Given as goal

abbrev pub invariant-spots : goal.invariant-spots
invariant-spots l = with_front l.list (many (is_key keys.Comma) (one_more (spot_at l.version)) l.rest) ≡ listed_at (spot_at l.version) l.fn.tokens

abbrev pub decreases-spots : goal.decreases-spots
decreases-spots l = length l.rest
