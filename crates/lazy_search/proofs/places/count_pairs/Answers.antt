use Rattle.std.proofs.Common.{◌*◌, ◌/◌, ℕ, ◌∙◌, ap}
use Rattle.lazy_search.proofs.Ranks.{count_halved}
use Rattle.lazy_search.proofs.places.count_pairs.Goals as goal

pub returns : goal.returns
returns c =
    c.in-Ok.ensures.1 ∙ ap (λ (z : ℕ). z / 2) (c.in_ok-twice.ensures.1 ∙ ap (λ (z : ℕ). c.args.many * z) c.saturating_sub.ensures) ∙ count_halved c.args.many
