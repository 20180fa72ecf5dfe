use Rattle.std.proofs.Common.{List, sym, subst}
use Rattle.std.specs.List.{Contains}
use Rattle.conflict_variants.specs.Keyed.{CanBeKeyed}
use Rattle.suggest.specs.declared.answer.Key.{Key}
use Rattle.suggest.proofs.Listed.{listed_key}
use Rattle.suggest.proofs.listing.list_keys.Goals as goal

pub returns-clause-members : goal.returns-clause-members
returns-clause-members c =
    subst (λ (l : List Key). (k : Key) → Contains l k → CanBeKeyed c.args.spec.now c.args.pair.first k.p c.args.pair.second k.q) (sym c.in_ok-keys.ensures)
    (listed_key c.args.spec.now c.args.pair.first c.args.pair.second c.requires)
