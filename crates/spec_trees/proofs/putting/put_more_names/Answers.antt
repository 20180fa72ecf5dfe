use Rattle.std.proofs.Common.{◌≡◌, List, [], ◌∷◌, ◌++◌, ap, ◌∙◌, append_assoc}
use Rattle.parser_combinators.specs.declared.token.Key.TheVariants as keys
use Rattle.parser_combinators.specs.declared.token.Symbol.{Symbol}
use Rattle.parser_combinators.specs.declared.token.Symbol.TheVariants as symbol
use Rattle.parser_combinators.specs.Words.{plain, sign}
use Rattle.spec_trees.specs.Spelling.{one}
use Rattle.spec_trees.proofs.Written.{written}
use Rattle.spec_trees.proofs.putting.put_more_names.Goals as goal

pub names-preserved : goal.names-preserved
names-preserved c =
    let more = plain (one c.mark-item.result) in
    let both : c.put_mark.new.out ≡ c.names.out ++ symbol.Key keys.Comma ∷ more = c.in_ok-put_mark.ensures ∙ ap (λ (t : List Symbol). t ++ more) c.in_ok-put_key.ensures ∙ append_assoc c.names.out (symbol.Key keys.Comma ∷ []) more in
    written (λ x. sign keys.Comma ∷ one x) c.args.marks.now c.names.mark-index c.mark-item.result c.args.out.now c.names.out c.put_mark.new.out c.names-test.true c.mark-item.is c.names.invariant both
