use Rattle.std.proofs.Common.{◌≡◌, List, [], ◌∷◌, ◌++◌, ap, ◌∙◌, append_assoc}
use Rattle.parser_combinators.specs.declared.token.Key.TheVariants as keys
use Rattle.parser_combinators.specs.declared.token.Symbol.{Symbol}
use Rattle.parser_combinators.specs.declared.token.Symbol.TheVariants as symbol
use Rattle.parser_combinators.specs.Words.{plain, sign}
use Rattle.spec_trees.specs.Spelling.{variable}
use Rattle.spec_trees.proofs.Written.{written}
use Rattle.spec_trees.proofs.putting.put_more_variables.Goals as goal

pub vars-preserved : goal.vars-preserved
vars-preserved c =
    let more = plain (variable c.var-item.result) in
    let both : c.put_variable.new.out ≡ c.vars.out ++ symbol.Key keys.Comma ∷ more = c.in_ok-put_variable.ensures ∙ ap (λ (t : List Symbol). t ++ more) c.in_ok-put_key.ensures ∙ append_assoc c.vars.out (symbol.Key keys.Comma ∷ []) more in
    written (λ x. sign keys.Comma ∷ variable x) c.args.vars.now c.vars.var-index c.var-item.result c.args.out.now c.vars.out c.put_variable.new.out c.vars-test.true c.var-item.is c.vars.invariant both
