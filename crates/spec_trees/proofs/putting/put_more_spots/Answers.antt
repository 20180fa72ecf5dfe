use Rattle.std.proofs.Common.{◌≡◌, List, [], ◌∷◌, ◌++◌, ap, ◌∙◌, append_assoc}
use Rattle.parser_combinators.specs.declared.token.Key.TheVariants as keys
use Rattle.parser_combinators.specs.declared.token.Symbol.{Symbol}
use Rattle.parser_combinators.specs.declared.token.Symbol.TheVariants as symbol
use Rattle.parser_combinators.specs.Words.{plain, sign}
use Rattle.spec_trees.specs.Spelling.{spot}
use Rattle.spec_trees.proofs.Written.{written}
use Rattle.spec_trees.proofs.putting.put_more_spots.Goals as goal

pub spots-preserved : goal.spots-preserved
spots-preserved c =
    let more = plain (spot c.spot-item.result) in
    let both : c.put_spot.new.out ≡ c.spots.out ++ symbol.Key keys.Comma ∷ more = c.in_ok-put_spot.ensures ∙ ap (λ (t : List Symbol). t ++ more) c.in_ok-put_key.ensures ∙ append_assoc c.spots.out (symbol.Key keys.Comma ∷ []) more in
    written (λ x. sign keys.Comma ∷ spot x) c.args.spots.now c.spots.spot-index c.spot-item.result c.args.out.now c.spots.out c.put_spot.new.out c.spots-test.true c.spot-item.is c.spots.invariant both
