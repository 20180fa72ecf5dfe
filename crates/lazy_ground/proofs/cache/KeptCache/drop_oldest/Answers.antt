use Rattle.std.proofs.Common.{List, ◌<◌, length, rules, sym, subst}
use Rattle.std.specs.Prelude.{All}
use Rattle.lazy_ground.specs.declared.grounding.Kept.{Kept}
use Rattle.lazy_ground.specs.Kept.{IsKept}
use Rattle.instances.proofs.Lists.{all_removed}
use Rattle.lazy_ground.proofs.cache.KeptCache.drop_oldest.Goals as goal

pub returns-then-len-gt0 : goal.returns-then-len-gt0
returns-then-len-gt0 c =
    let some : 0 < length c.args.self.now.kept.items = search rules in
    subst (λ (es : List Kept). All (IsKept c.args.spec.now) es) (sym c.remove-oldest.ensures.items) (all_removed (IsKept c.args.spec.now) c.args.self.now.kept.items 0 some c.requires)
