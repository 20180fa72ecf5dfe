use Rattle.std.proofs.Common.{◌≡◌, ◌++◌, take}
use Rattle.parser_combinators.specs.Words.{plain, each}
use Rattle.spec_trees.specs.Spelling.{signed}
use Rattle.spec_trees.proofs.putting.put_more.Given as goal

abbrev pub invariant-more : goal.invariant-more
invariant-more l = l.out ≡ l.fn.out ++ plain (each signed (take l.signed-index l.more))
