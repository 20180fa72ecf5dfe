-- What the ground problems of obligations leave for others of their specification.
use Rattle.std.specs.Prelude.{All}
use Rattle.spec_core.specs.Specification.{Specification}
use Rattle.lazy_ground.specs.Kept.{IsKept}
use Rattle.lazy_ground.specs.declared.cache.KeptCache.{KeptCache}

-- each serves any obligation of the specification
abbrev pub AreKept : Specification → KeptCache → Type 0
AreKept d c = All (IsKept d) c.kept.items
