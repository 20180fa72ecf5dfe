use Rattle.std.proofs.Common.{◌≡◌, ◌++◌, ◌∷◌, [], cond, nat_le}
use Rattle.std.specs.List.{flat_map}
use Rattle.spec_core.specs.World.{below}
use Rattle.suggest.proofs.listing.add_pairs_from.Given as goal

abbrev pub invariant-loop-second : goal.invariant-loop-second
invariant-loop-second l = l.pairs ≡ l.fn.pairs ++ flat_map (λ b. cond (nat_le l.first b) (record { first = l.first; second = b } ∷ []) []) (below l.second)
