use Rattle.std.proofs.Common.{◌∷◌, [], cond}
use Rattle.spec_core.specs.Typed.{same_sort}
use Rattle.conflict_variants.specs.Keyed.{sort_of_parameter}
use Rattle.suggest.proofs.Listed.{listed_more}
use Rattle.suggest.proofs.listing.add_keys_from.Goals as goal

pub loop-q-preserved : goal.loop-q-preserved
loop-q-preserved c =
    listed_more (λ q. cond (same_sort (sort_of_parameter c.args.spec.now c.args.pair.first c.args.p) (sort_of_parameter c.args.spec.now c.args.pair.second q)) (record { p = c.args.p; q = q } ∷ []) [])
    c.args.keys.now c.loop-q.keys c.add_key.new.keys c.loop-q.q c.loop-q.invariant c.in_ok-add_key.ensures
