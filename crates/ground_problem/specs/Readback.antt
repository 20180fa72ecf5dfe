-- The values that an interpretation gives: a world, calls, elements, and what is read at the entry.
use Rattle.std.specs.Prelude.{◌≡◌, ◌≤◌, ℕ, suc, ◌+◌, ℤ, pos, Bool, true, cond, ◌&&◌, None, Some, unwrap_or, List, [], ◌∷◌, map, length, get_or, slice_get, slice_index_or}
use Rattle.std.specs.Str.{bytes_eq}
use Rattle.std.specs.List.{list_all, list_any, filter, range_with_len}
use Rattle.spec_core.specs.declared.operation.Kind.{Kind}
use Rattle.spec_core.specs.declared.operation.Kind.TheVariants.{Sort, Int}
use Rattle.spec_core.specs.declared.operation.Param.{Param as Parameter}
use Rattle.spec_core.specs.declared.update.Thing.{Thing}
use Rattle.spec_core.specs.declared.update.Thing.TheVariants as thing
use Rattle.spec_core.specs.declared.world.World.{World}
use Rattle.spec_core.specs.declared.world.Call.{Call}
use Rattle.spec_core.specs.Specification.{Specification, op_of, no_counter}
use Rattle.spec_core.specs.World.{size_of}
use Rattle.spec_core.specs.State.{Listing, Reads, reads}
use Rattle.spec_core.specs.Meaning.{initial}
use Rattle.spec_core.specs.Fits.{AgreeOn}
use Rattle.spec_core.specs.Typed.{is_number}
use Rattle.effectors.specs.Effect.{is_thing}
use Rattle.obligation_list.specs.declared.obligation.Obligation.{Obligation}
use Rattle.obligation_list.specs.declared.obligation.Obligation.TheVariants.{Init, Safety, Commute, Stable}
use Rattle.obligation_list.specs.Breaking.{operations_of}
use Rattle.ground_problem.specs.Symbols.{Integer, argument, reading, Interpretation}
use Rattle.ground_problem.specs.Constants.{constants_of, of_sort}
use Rattle.ground_problem.specs.Formulas.{caller}
use Rattle.ground_problem.specs.Definitions.{readings_after}
use Rattle.ground_problem.specs.Problem.{defined}
use Rattle.ground_problem.specs.Equality.{rising}
use Rattle.ground_problem.specs.Classes.{classes, element_of}

-- ---- the world

-- the element of a constant of an obligation
abbrev pub element_at : Specification → Obligation → Interpretation → ℕ → ℕ
element_at d ob m c = element_of m (constants_of d ob).sorts c

-- each sort has the classes of its constants as elements, and each declared constant is its class
abbrev pub world_of : Specification → Obligation → Interpretation → World
world_of d ob m = record {
  sizes = map (λ s. length (classes m (constants_of d ob).sorts s))
      (range_with_len 0 (length d.sorts));
  consts = map (element_at d ob m) (range_with_len 0 (length d.consts));
}

-- ---- calls and elements

-- an argument of this kind: this element, or this whole number
abbrev pub argument_of : Kind → ℕ → ℤ → ℤ
argument_of (Sort s) e n = pos e
argument_of Int e n = n

-- arguments for parameters, by their places from this one on
abbrev pub arguments_from : (ℕ → ℕ) → (ℕ → ℤ) → ℕ → List Parameter → List ℤ
arguments_from e f from [] = []
arguments_from e f from (p ∷ ps) =
    argument_of p.kind (e from) (f from) ∷ arguments_from e f (from + 1) ps

-- the call of an operation that has this place among the calls
abbrev pub call_of : Specification → Obligation → Interpretation → ℕ → ℕ → Call
call_of d ob m n o = record {
  op = o;
  args = arguments_from (λ i. element_at d ob m
      (unwrap_or (get_or (caller (constants_of d ob) n).params i None) 0))
      (λ i. m.int (argument n i)) 0 (op_of d o).params;
}

-- the calls of operations that stand from this place on
abbrev pub calls_from : Specification → Obligation → Interpretation → ℕ → List ℕ → List Call
calls_from d ob m n [] = []
calls_from d ob m n (o ∷ os) = call_of d ob m n o ∷ calls_from d ob m (suc n) os

-- the calls of the obligation's operations
abbrev pub calls_of : Specification → Obligation → Interpretation → List Call
calls_of d ob m = calls_from d ob m 0 (operations_of ob)

-- the elements at which its conclusion fails
abbrev pub elements_at : Specification → Obligation → Interpretation → List ℕ
elements_at d ob m = map (element_at d ob m) (constants_of d ob).elements

-- ---- the state

-- the tuples or keys of a thing that the formulas name at the entry
abbrev pub named_at : Specification → Obligation → Thing → List (List ℕ)
named_at d ob x =
    rising (filter (λ q. is_thing q.thing x) (readings_after 0 (defined d ob (constants_of d ob))))

-- a tuple is held where it is one of these and true
abbrev pub held : (List ℕ → List ℕ) → (List ℕ → Bool) → List (List ℕ) → List ℕ → Bool
held val at us t = list_any (λ u. bytes_eq (val u) t && at u) us

-- the value at a key that is one of these, else 0
abbrev pub held_count : (List ℕ → List ℕ) → (List ℕ → ℤ) → List (List ℕ) → List ℕ → ℤ
held_count val at [] t = pos 0
held_count val at (u ∷ us) t = cond (bytes_eq (val u) t) (at u) (held_count val at us t)

-- What is read at the entry: what a named tuple of these elements reads, and what isn't named is false or 0.
abbrev pub entry_of : Specification → Obligation → Interpretation → Reads
entry_of d ob m = record {
  has = λ k t. held (map (element_at d ob m)) (m.has [] k) (named_at d ob (thing.Relation k)) t;
  count = λ k t. held_count (map (element_at d ob m)) (λ u. m.int (reading [] k u))
      (named_at d ob (thing.Counter k)) t;
}

-- A state reads what an interpretation says of the entry; that of an initial obligation is the initial state.
abbrev pub IsEntry : Specification → Obligation → Interpretation → Listing → Type 0
IsEntry d (Init i) m s = reads s ≡ reads (initial d (world_of d (Init i) m))
IsEntry d (Safety o i) m s =
    AgreeOn d (world_of d (Safety o i) m) (reads s) (entry_of d (Safety o i) m)
IsEntry d (Commute o p x) m s =
    AgreeOn d (world_of d (Commute o p x) m) (reads s) (entry_of d (Commute o p x) m)
IsEntry d (Stable o l p) m s =
    AgreeOn d (world_of d (Stable o l p) m) (reads s) (entry_of d (Stable o l p) m)

-- ---- how large they are

-- every number that a state lists passes a test
abbrev pub all_listed : (ℤ → Bool) → Listing → Bool
all_listed test s = list_all (λ values. list_all (λ (e : List ℕ × ℤ). test e.1) values) s.counters

-- A world, a state and calls are read from an interpretation: a sort has at most as many elements as the obligation has constants of
-- it, the numbers that the state lists are values of the interpretation or stated initial values, and whole numbers among the
-- arguments are what the interpretation gives for them.
pub record ReadFrom (d : Specification) (ob : Obligation) (m : Interpretation) (w : World)
    (s : Listing) (cs : List Call) : Type 0 where
  pub sizes : (n : ℕ) → size_of w n ≤ length (of_sort 0 (constants_of d ob).sorts n)
  pub counts : (test : ℤ → Bool) → ((x : Integer) → test (m.int x) ≡ true)
      → ((k : ℕ) → test (get_or d.counters k no_counter).initial ≡ true) → all_listed test s ≡ true
  pub arguments : (n : ℕ) (c : Call) → slice_get cs n ≡ Some c → (i : ℕ)
      → is_number (slice_get (op_of d c.op).params i) ≡ true
      → slice_index_or c.args i (pos 0) ≡ m.int (argument n i)
