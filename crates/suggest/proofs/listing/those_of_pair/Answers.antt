use Rattle.std.proofs.Common.{◌++◌, ◌∷◌, [], ◌∙◌, ap, sym, get_or}
use Rattle.std.specs.List.{filter}
use Rattle.obligation_list.specs.declared.obligation.Obligation.TheVariants.{Init}
use Rattle.suggest.specs.Pairs.{is_of_pair}
use Rattle.suggest.proofs.Listed.{filter_next}
use Rattle.suggest.proofs.listing.those_of_pair.Goals as goal

pub loop-ob-preserved : goal.loop-ob-preserved
loop-ob-preserved c =
    c.in_ok-add_obligation.ensures ∙ ap (λ t. t ++ filter (is_of_pair c.args.pair.first c.args.pair.second) (get_or c.args.obligations.now c.loop-ob.ob-index (Init 0) ∷ [])) c.loop-ob.invariant
    ∙ sym (filter_next (is_of_pair c.args.pair.first c.args.pair.second) c.args.obligations.now c.loop-ob.ob-index (Init 0) c.loop-ob-test.true)
