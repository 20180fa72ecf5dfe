use Rattle.std.proofs.Common.{◌≡◌, length}
use Rattle.spec_reader.specs.Reading.{more_at}
use Rattle.parser_combinators.proofs.Loop.{with_front}
use Rattle.spec_reader.proofs.terms.more.Given as goal

abbrev pub invariant-more : goal.invariant-more
invariant-more l = with_front l.more (more_at l.version l.rest) ≡ more_at l.version l.fn.tokens

abbrev pub decreases-more : goal.decreases-more
decreases-more l = length l.rest
