use Rattle.std.proofs.Common.{◌≡◌, ◌++◌, ◌∷◌, take}
use Rattle.parser_combinators.specs.declared.token.Key.TheVariants as keys
use Rattle.parser_combinators.specs.Words.{plain, each, sign}
use Rattle.spec_trees.specs.Spelling.{variable}
use Rattle.spec_trees.proofs.putting.put_more_variables.Given as goal

abbrev pub invariant-vars : goal.invariant-vars
invariant-vars l = l.out ≡ l.fn.out ++ plain (each (λ x. sign keys.Comma ∷ variable x) (take l.var-index l.vars))
