use Rattle.lazy_ground.specs.Cache.{AreKept}
use Rattle.lazy_ground.proofs.cache.KeptCache.make_room.Given as goal

abbrev pub invariant-loop : goal.invariant-loop
invariant-loop l = AreKept l.spec l.self
