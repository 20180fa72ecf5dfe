use Rattle.std.proofs.Common.{◌≡◌, ◌++◌, ◌∷◌, [], cond}
use Rattle.std.specs.List.{flat_map}
use Rattle.spec_core.specs.World.{below}
use Rattle.spec_core.specs.Typed.{same_sort}
use Rattle.conflict_variants.specs.Keyed.{sort_of_parameter}
use Rattle.suggest.proofs.listing.add_keys_from.Given as goal

abbrev pub invariant-loop-q : goal.invariant-loop-q
invariant-loop-q l =
    l.keys ≡ l.fn.keys ++ flat_map (λ q. cond (same_sort (sort_of_parameter l.spec l.pair.first l.p) (sort_of_parameter l.spec l.pair.second q)) (record { p = l.p; q = q } ∷ []) []) (below l.q)
