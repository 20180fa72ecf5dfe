use Rattle.std.proofs.Common.{◌≡◌, ◌++◌, ◌∷◌, take}
use Rattle.parser_combinators.specs.declared.token.Key.TheVariants as keys
use Rattle.parser_combinators.specs.Words.{plain, each, sign}
use Rattle.spec_trees.specs.Spelling.{spot}
use Rattle.spec_trees.proofs.putting.put_more_spots.Given as goal

abbrev pub invariant-spots : goal.invariant-spots
invariant-spots l = l.out ≡ l.fn.out ++ plain (each (λ x. sign keys.Comma ∷ spot x) (take l.spot-index l.spots))
