use Rattle.std.proofs.Common.{◌≡◌, List, [], ◌∷◌, ◌++◌, ap, ◌∙◌, append_assoc}
use Rattle.parser_combinators.specs.declared.token.Key.TheVariants as keys
use Rattle.parser_combinators.specs.declared.token.Symbol.{Symbol}
use Rattle.parser_combinators.specs.declared.token.Symbol.TheVariants as symbol
use Rattle.parser_combinators.specs.Words.{plain, sign}
use Rattle.spec_trees.specs.Spelling.{param}
use Rattle.spec_trees.proofs.Written.{written}
use Rattle.spec_trees.proofs.putting.put_more_params.Goals as goal

pub params-preserved : goal.params-preserved
params-preserved c =
    let more = plain (param c.param-item.result) in
    let both : c.put_param.new.out ≡ c.params.out ++ symbol.Key keys.Comma ∷ more = c.in_ok-put_param.ensures ∙ ap (λ (t : List Symbol). t ++ more) c.in_ok-put_key.ensures ∙ append_assoc c.params.out (symbol.Key keys.Comma ∷ []) more in
    written (λ x. sign keys.Comma ∷ param x) c.args.params.now c.params.param-index c.param-item.result c.args.out.now c.params.out c.put_param.new.out c.params-test.true c.param-item.is c.params.invariant both
