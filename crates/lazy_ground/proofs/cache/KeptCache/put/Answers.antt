use Rattle.std.proofs.Common.{List, sym, subst}
use Rattle.std.specs.Prelude.{All}
use Rattle.std.proofs.lemmas.List.Elements.{All-push}
use Rattle.lazy_ground.specs.declared.grounding.Kept.{Kept}
use Rattle.lazy_ground.specs.Kept.{IsKept}
use Rattle.lazy_ground.proofs.cache.KeptCache.put.Goals as goal

pub returns-in-Ok : goal.returns-in-Ok
returns-in-Ok c =
    subst (λ (l : List Kept). All (IsKept c.args.spec.now) l) (sym c.in-Ok.ensures.items)
    (All-push (IsKept c.args.spec.now) c.make_room.new.self.kept.items c.args.kept c.make_room.ensures c.requires.one)

pub returns-in-Err : goal.returns-in-Err
returns-in-Err c = subst (λ (l : List Kept). All (IsKept c.args.spec.now) l) (sym c.in-Err.ensures.items) c.make_room.ensures
