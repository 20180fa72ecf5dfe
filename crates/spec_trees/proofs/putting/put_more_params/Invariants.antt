use Rattle.std.proofs.Common.{◌≡◌, ◌++◌, ◌∷◌, take}
use Rattle.parser_combinators.specs.declared.token.Key.TheVariants as keys
use Rattle.parser_combinators.specs.Words.{plain, each, sign}
use Rattle.spec_trees.specs.Spelling.{param}
use Rattle.spec_trees.proofs.putting.put_more_params.Given as goal

abbrev pub invariant-params : goal.invariant-params
invariant-params l = l.out ≡ l.fn.out ++ plain (each (λ x. sign keys.Comma ∷ param x) (take l.param-index l.params))
