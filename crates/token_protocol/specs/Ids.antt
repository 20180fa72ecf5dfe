-- The ids of calls.
use Rattle.std.specs.Prelude.{Bool, not, ◌&&◌, ◌==◌, List, Option}
use Rattle.std.specs.List.{list_any, find}
use Rattle.token_protocol.specs.declared.message.EventId.{EventId}

-- one id: the same turn of the same replica
abbrev pub same_id : EventId → EventId → Bool
same_id a b = (a.replica == b.replica) && (a.turn == b.turn)

-- whether an id is one of these
abbrev pub is_among : List EventId → EventId → Bool
is_among ids id = list_any (same_id id) ids

-- the first of these ids that isn't among those
abbrev pub first_outside : List EventId → List EventId → Option EventId
first_outside those ids = find (λ id. not (is_among those id)) ids
