use Rattle.std.proofs.Common.{List, sym, subst}
use Rattle.std.specs.List.{Contains}
use Rattle.suggest.specs.Pairs.{IsPair}
use Rattle.suggest.specs.declared.answer.Pair.{Pair}
use Rattle.suggest.proofs.Listed.{listed_pair}
use Rattle.suggest.proofs.listing.list_pairs.Goals as goal

pub returns-clause-members : goal.returns-clause-members
returns-clause-members c =
    subst (λ (l : List Pair). (x : Pair) → Contains l x → IsPair c.args.spec.now x.first x.second) (sym c.in_ok-pairs.ensures) (listed_pair c.args.spec.now)
