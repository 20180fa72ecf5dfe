-- The obligations of a specification, in their order.
use Rattle.std.specs.Prelude.{ℕ, ◌<◌, ◌≤◌, nat_le, ◌≡◌, Bool, true, ◌||◌, List, ◌++◌, map, length}
use Rattle.std.specs.List.{filter, flat_map, list_any}
use Rattle.spec_core.specs.declared.update.Thing.{Thing}
use Rattle.spec_core.specs.declared.update.Thing.TheVariants as thing
use Rattle.spec_core.specs.UpdateLine.{UpdateLine}
use Rattle.spec_core.specs.Specification.{Specification, op_of}
use Rattle.spec_core.specs.World.{below}
use Rattle.effectors.specs.Effect.{is_thing}
use Rattle.obligation_list.specs.declared.obligation.Obligation.{Obligation}
use Rattle.obligation_list.specs.declared.obligation.Obligation.TheVariants.{Init, Safety, Commute, Stable}

-- these updates write a thing
abbrev pub writes : List UpdateLine → Thing → Bool
writes us x = list_any (λ u. is_thing u.thing x) us

-- one of two operations writes a thing
abbrev pub either_writes : Specification → ℕ → ℕ → Thing → Bool
either_writes d o p x = writes (op_of d o).updates x || writes (op_of d p).updates x

-- the relations and then the counters
abbrev pub things : Specification → List Thing
things d =
    map (λ k. thing.Relation k) (below (length d.relations))
    ++ map (λ k. thing.Counter k) (below (length d.counters))

-- Each invariant is true in the initial state.
abbrev pub init_obligations : Specification → List Obligation
init_obligations d = map (λ i. Init i) (below (length d.invariants))

-- An operation keeps each invariant.
abbrev pub safety_of : Specification → ℕ → List Obligation
safety_of d o = map (λ i. Safety o i) (below (length d.invariants))

-- Two operations commute on each thing that either writes.
abbrev pub commute_of : Specification → ℕ → ℕ → List Obligation
commute_of d o p = map (λ x. Commute o p x) (filter (either_writes d o p) (things d))

-- An operation commutes with itself and with each later one.
abbrev pub commute_from : Specification → ℕ → List Obligation
commute_from d o = flat_map (commute_of d o) (filter (nat_le o) (below (length d.operations)))

-- A requires line of an operation stays true after each operation, the same one too.
abbrev pub stable_of : Specification → ℕ → ℕ → List Obligation
stable_of d o l = map (λ p. Stable o l p) (below (length d.operations))

-- Each requires line of an operation stays true after each operation.
abbrev pub stable_from : Specification → ℕ → List Obligation
stable_from d o = flat_map (stable_of d o) (below (length (op_of d o).requires_))

-- The obligations of a specification, in their order.
abbrev pub obligations_of : Specification → List Obligation
obligations_of d =
    let operations = below (length d.operations) in
    init_obligations d ++ flat_map (safety_of d) operations ++ flat_map (commute_from d) operations
    ++ flat_map (stable_from d) operations

-- a thing of the specification
abbrev pub IsThing : Specification → Thing → Type 0
IsThing d (thing.Relation k) = k < length d.relations
IsThing d (thing.Counter k) = k < length d.counters

-- a member of the list, by its parts
abbrev pub IsObligation : Specification → Obligation → Type 0
IsObligation d (Init i) = i < length d.invariants
IsObligation d (Safety o i) = (o < length d.operations) × (i < length d.invariants)
IsObligation d (Commute o p x) =
    (o ≤ p) × (p < length d.operations) × IsThing d x × (either_writes d o p x ≡ true)
IsObligation d (Stable o l p) =
    (o < length d.operations) × (l < length (op_of d o).requires_) × (p < length d.operations)
