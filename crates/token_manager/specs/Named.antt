-- The calls of grants that conflict with a call, found by the numbers of the grants.
use Rattle.std.specs.Prelude.{ℕ, cond, List, [], ◌∷◌, ◌++◌, Option, None, Some, slice_get}
use Rattle.spec_core.specs.declared.world.World.{World}
use Rattle.spec_core.specs.declared.world.Call.{Call}
use Rattle.spec_core.specs.Specification.{Specification}
use Rattle.token_rules.specs.Conflict.{conflicts}
use Rattle.token_protocol.specs.declared.message.EventId.{EventId}
use Rattle.token_protocol.specs.declared.granted.Granted.{Granted}

-- the id of a grant, if there is one and its call conflicts
abbrev pub id_if : Specification → World → Call → Option Granted → List EventId
id_if d w call None = []
id_if d w call (Some g) = cond (conflicts d w g.call call) (g.id ∷ []) []

-- the ids of those of the grants with these numbers that conflict
abbrev pub ids_at : Specification → World → Call → List Granted → List ℕ → List EventId
ids_at d w call granted [] = []
ids_at d w call granted (n ∷ ns) =
    id_if d w call (slice_get granted n) ++ ids_at d w call granted ns
