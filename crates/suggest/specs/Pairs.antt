-- Pairs of operations, their obligations, and when a set of pairs is enough.
use Rattle.std.specs.Prelude.{◌≡◌, ℕ, ◌<◌, ◌≤◌, nat_le, Bool, false, ◌&&◌, ◌||◌, ◌==◌, if◌then◌else◌, List, [], ◌∷◌, length}
use Rattle.std.specs.List.{filter, flat_map, Contains}
use Rattle.spec_core.specs.Specification.{Specification, op_of}
use Rattle.spec_core.specs.World.{below}
use Rattle.spec_core.specs.Typed.{same_sort}
use Rattle.obligation_list.specs.declared.obligation.Obligation.{Obligation}
use Rattle.obligation_list.specs.declared.obligation.Obligation.TheVariants.{Init, Safety, Commute, Stable}
use Rattle.obligation_list.specs.Obligations.{obligations_of}
use Rattle.obligation_list.specs.Breaking.{Holds}
use Rattle.conflict_variants.specs.Bare.{bare}
use Rattle.conflict_variants.specs.Keyed.{sort_of_parameter}
use Rattle.suggest.specs.declared.answer.Pair.{Pair}
use Rattle.suggest.specs.declared.answer.Key.{Key}

-- An obligation is one of a pair of operations: that the two commute on a thing, or that a requires line of the one stays true after the
-- other. Only a conflict of the two can spare it.
abbrev pub is_of_pair : ℕ → ℕ → Obligation → Bool
is_of_pair a b (Init i) = false
is_of_pair a b (Safety o i) = false
is_of_pair a b (Commute o p x) = (o == a) && (p == b)
is_of_pair a b (Stable o l p) = ((o == a) && (p == b)) || ((o == b) && (p == a))

-- the obligations of a pair, in their order
abbrev pub obligations_of_pair : Specification → ℕ → ℕ → List Obligation
obligations_of_pair d a b = filter (is_of_pair a b) (obligations_of d)

-- All obligations of a pair hold.
abbrev pub PairHolds : Specification → ℕ → ℕ → Type 0
PairHolds d a b = (ob : Obligation) → Contains (obligations_of_pair d a b) ob → Holds d ob

-- two operations that a specification has, of which the first isn't the later one
pub record IsPair (d : Specification) (a b : ℕ) : Type 0 where
  pub ordered : a ≤ b
  pub operation : b < length d.operations

-- A set of pairs is enough where calls of any other pair need no conflict: without tokens, all obligations of each pair outside it hold.
abbrev pub IsEnough : Specification → (ℕ → ℕ → Bool) → Type 0
IsEnough d inside = (a b : ℕ) → IsPair d a b → inside a b ≡ false → PairHolds (bare d) a b

-- the pair of two operations
abbrev pub pair_at : ℕ → ℕ → Pair
pair_at a b = record { first = a; second = b }

-- the key of two parameters, one of each operation
abbrev pub key_at : ℕ → ℕ → Key
key_at p q = record { p = p; q = q }

-- the pairs of one operation with itself and each later one
abbrev pub pairs_from : ℕ → ℕ → List Pair
pairs_from n a = flat_map (λ b. if nat_le a b then pair_at a b ∷ [] else []) (below n)

-- all pairs, by the first operation, and then by the second
abbrev pub pairs_of : Specification → List Pair
pairs_of d = flat_map (pairs_from (length d.operations)) (below (length d.operations))

-- the keys of one parameter of the first operation: with each parameter of the second that has the same sort
abbrev pub keys_from : Specification → ℕ → ℕ → ℕ → List Key
keys_from d a b p =
    flat_map (λ q. if same_sort (sort_of_parameter d a p) (sort_of_parameter d b q)
    then key_at p q ∷ [] else [])
    (below (length (op_of d b).params))

-- all keys of a pair: two parameters of one sort, by the first one, and then by the second
abbrev pub keys_of : Specification → ℕ → ℕ → List Key
keys_of d a b = flat_map (keys_from d a b) (below (length (op_of d a).params))
