use Rattle.std.proofs.Common.{◌≡◌, length}
use Rattle.parser_combinators.specs.declared.token.Key.TheVariants as keys
use Rattle.parser_combinators.specs.Words.{is_key}
use Rattle.parser_combinators.specs.Read.{many, one_more, listed_at}
use Rattle.spec_reader.specs.Reading.{name_at}
use Rattle.parser_combinators.proofs.Loop.{with_front}
use Rattle.spec_reader.proofs.terms.names.Given as goal

abbrev pub invariant-names : goal.invariant-names
invariant-names l = with_front l.marks (many (is_key keys.Comma) (one_more (name_at l.version)) l.rest) ≡ listed_at (name_at l.version) l.fn.tokens

abbrev pub decreases-names : goal.decreases-names
decreases-names l = length l.rest
