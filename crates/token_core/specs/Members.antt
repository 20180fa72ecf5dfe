-- A private index of ids; it mirrors src/ids.rt, and a reader of the protocol passes it by.
use Rattle.std.specs.Prelude.{ℕ, ◌+◌, ◌*◌, ◌==◌, ◌&&◌, nat_lt, Bool, false, List, get_or}
use Rattle.std.specs.HashSet.{contains, HashSet, spare}
use Rattle.token_protocol.specs.declared.message.EventId.{EventId}

-- two pairs of numbers are equal
abbrev pub same_pair : ℕ × ℕ → ℕ × ℕ → Bool
same_pair x y = (x.0 == y.0) && (x.1 == y.1)

-- a set has the pair of an id
abbrev pub has_id : {S : Type 0} → HashSet (ℕ × ℕ) S → EventId → Bool
has_id pairs id = contains same_pair pairs (id.replica, id.turn)

-- for how many pairs more a set has memory
abbrev pub room : {S : Type 0} → HashSet (ℕ × ℕ) S → ℕ
room pairs = spare pairs

-- the place of an id's mark, where its replica is one of 64
abbrev pub mark_of : EventId → ℕ
mark_of id = id.turn * 64 + id.replica

-- whether an id has a mark; those of other replicas have none
abbrev pub is_marked : List Bool → EventId → Bool
is_marked marks id = nat_lt id.replica 64 && get_or marks (mark_of id) false
