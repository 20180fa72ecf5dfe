use Rattle.std.proofs.Common.{◌≡◌, ◌++◌, ◌∷◌, take}
use Rattle.parser_combinators.specs.declared.token.Key.TheVariants as keys
use Rattle.parser_combinators.specs.Words.{plain, each, sign}
use Rattle.spec_trees.specs.Spelling.{one}
use Rattle.spec_trees.proofs.putting.put_more_names.Given as goal

abbrev pub invariant-names : goal.invariant-names
invariant-names l = l.out ≡ l.fn.out ++ plain (each (λ x. sign keys.Comma ∷ one x) (take l.mark-index l.marks))
