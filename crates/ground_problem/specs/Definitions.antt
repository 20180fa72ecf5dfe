-- The readings after a call, defined from those before it.
use Rattle.std.specs.Prelude.{ℕ, suc, ◌==◌, pos, Bool, false, cond, ◌&&◌, List, [], ◌∷◌, ◌++◌, length, slice_index}
use Rattle.std.specs.Str.{bytes_eq}
use Rattle.std.specs.List.{filter, flat_map, list_any}
use Rattle.spec_core.specs.declared.update.Thing.{Thing}
use Rattle.spec_core.specs.declared.update.Thing.TheVariants as thing
use Rattle.spec_core.specs.declared.update.Spot.{Spot}
use Rattle.spec_core.specs.declared.update.Spot.TheVariants.{Every, One}
use Rattle.spec_core.specs.declared.update.Change.{Change}
use Rattle.spec_core.specs.declared.update.Change.TheVariants.{Insert, Remove, Add, Set}
use Rattle.spec_core.specs.UpdateLine.{UpdateLine}
use Rattle.spec_core.specs.Specification.{Specification, op_of}
use Rattle.effectors.specs.Effect.{is_thing}
use Rattle.obligation_list.specs.declared.obligation.Obligation.{Obligation}
use Rattle.obligation_list.specs.Breaking.{operations_of}
use Rattle.ground_problem.specs.Symbols.{Stage, Integer, argument, reading, partial, Part, number, multiple, Symbolic, always, same, has, at_most, negated, both, either, all_parts, same_const, equal}
use Rattle.ground_problem.specs.Constants.{Constants}
use Rattle.ground_problem.specs.Formulas.{Caller, caller, Readings, at_stage, const_of, parts_of, formula}

-- ---- when an update acts

-- the updates of a thing, in their order
abbrev pub updates_of : Thing → List UpdateLine → List UpdateLine
updates_of x us = filter (λ u. is_thing u.thing x) us

-- each spot other than `*` equals the constant at its place
abbrev pub spots_hold : Caller → List Spot → List ℕ → List Symbolic
spots_hold c [] [] = []
spots_hold c [] (k ∷ ks) = always false ∷ []
spots_hold c (s ∷ ss) [] = always false ∷ []
spots_hold c (Every ∷ ss) (k ∷ ks) = spots_hold c ss ks
spots_hold c (One e ∷ ss) (k ∷ ks) = same_const (const_of c [] e) k ∷ spots_hold c ss ks

-- An update acts on a tuple or key: its spots match, and its guard is true before.
abbrev pub acts_on : Readings → Caller → List ℕ → UpdateLine → Symbolic
acts_on r c t u = all_parts (spots_hold c u.at t ++ formula r c [] u.guard ∷ [])

-- ---- relations

-- `insert` makes a reading true where it acts, and `remove` false
abbrev pub has_then : Change → Symbolic → Symbolic → Symbolic
has_then Insert acting e = either acting e
has_then Remove acting e = both (negated acting) e
has_then (Add n) acting e = e
has_then (Set n) acting e = e

-- what a tuple reads after these updates
abbrev pub has_updated : Readings → Caller → List ℕ → List UpdateLine → Symbolic → Symbolic
has_updated r c t [] e = e
has_updated r c t (u ∷ us) e = has_updated r c t us (has_then u.change (acts_on r c t u) e)

-- The definition of a relation's reading: it is what the updates make of the reading before.
abbrev pub define_has : Readings → Caller → List UpdateLine → Symbolic → ℕ → List ℕ → List Symbolic
define_has r c us h k t =
    let e = has_updated r c t (updates_of (thing.Relation k) us) (r.has k t) in
    either (negated h) e ∷ either h (negated e) ∷ []

-- ---- counters

-- `add` adds its amount to a value, and `set` puts it in its place
abbrev pub count_then : Readings → Caller → Change → List Part → List Part
count_then r c Insert v = v
count_then r c Remove v = v
count_then r c (Add n) v = v ++ parts_of r c [] n
count_then r c (Set n) v = parts_of r c [] n

-- what names the value after an update: the reading itself after the last one, else a part with this number
abbrev pub value_after : List UpdateLine → ℕ → Stage → ℕ → List ℕ → Integer
value_after [] n k i t = reading k i t
value_after (u ∷ us) n k i t = partial n k i t

-- each update, from the one with this number on, gives the next value where it acts and leaves the value elsewhere
abbrev pub values_defined : Readings → Caller → Stage → ℕ → List ℕ → ℕ → List Part → List UpdateLine
    → List Symbolic
values_defined r c k i t n v [] = []
values_defined r c k i t n v (u ∷ us) =
    let acting = acts_on r c t u in
    let next = multiple (pos 1) (value_after us n k i t) ∷ [] in
    either (negated acting) (equal next (count_then r c u.change v)) ∷ either acting (equal next v)
    ∷ values_defined r c k i t (suc n) next us

-- a value that no update changes
abbrev pub value_stays : Readings → Stage → ℕ → List ℕ → List UpdateLine → List Symbolic
value_stays r k i t [] =
    equal (multiple (pos 1) (reading k i t) ∷ []) (r.count (pos 1) i t ∷ []) ∷ []
value_stays r k i t (u ∷ us) = []

-- The definition of a counter's reading: it stays without updates, and else each of them gives a value.
abbrev pub define_count : Readings → Caller → List UpdateLine → Stage → ℕ → List ℕ → List Symbolic
define_count r c us k i t =
    let mine = updates_of (thing.Counter i) us in
    value_stays r k i t mine ++ values_defined r c k i t 1 (r.count (pos 1) i t ∷ []) mine

-- ---- readings

-- a reading of a thing at a stage and a tuple or key
pub record Reading : Type 0 where
  pub stage : Stage
  pub thing : Thing
  pub tuple : List ℕ

-- the updates of the call at a place
abbrev pub updates_at : Specification → Obligation → ℕ → List UpdateLine
updates_at d ob n = (op_of d (slice_index (operations_of ob) n)).updates

-- What defines a reading: at the entry nothing, and after a call what its updates make of the reading before it.
abbrev pub define : Specification → Obligation → Constants → Stage → Thing → List ℕ → List Symbolic
define d ob z [] x t = []
define d ob z (n ∷ k) (thing.Relation r) t =
    define_has (at_stage k) (caller z n) (updates_at d ob n) (has (n ∷ k) r t) r t
define d ob z (n ∷ k) (thing.Counter i) t =
    define_count (at_stage k) (caller z n) (updates_at d ob n) (n ∷ k) i t

-- The definition of a reading after a call; a reading at the entry has none.
abbrev pub definition : Specification → Obligation → Constants → Reading → List Symbolic
definition d ob z q = define d ob z q.stage q.thing q.tuple

-- ---- the readings that formulas name, from left to right

-- the reading that a name of a whole number is, if it is one
abbrev pub reading_of_integer : Integer → List Reading
reading_of_integer (argument c p) = []
reading_of_integer (reading k i t) = record { stage = k; thing = thing.Counter i; tuple = t } ∷ []
reading_of_integer (partial n k i t) = []

-- the reading that a summand names, if it names one
abbrev pub readings_of_part : Part → List Reading
readings_of_part (number n) = []
readings_of_part (multiple k x) = reading_of_integer x

-- the readings that a formula names, from left to right
abbrev pub readings : Symbolic → List Reading
readings (always b) = []
readings (same a b) = []
readings (has k r t) = record { stage = k; thing = thing.Relation r; tuple = t } ∷ []
readings (at_most t u n) = flat_map readings_of_part t ++ flat_map readings_of_part u
readings (negated f) = readings f
readings (both f g) = readings f ++ readings g
readings (either f g) = readings f ++ readings g

-- two readings are one: at one stage, of one thing, at one tuple
abbrev pub same_reading : Reading → Reading → Bool
same_reading p q =
    bytes_eq p.stage q.stage && (is_thing p.thing q.thing && bytes_eq p.tuple q.tuple)

-- each reading once, where it first stands, without those that were met before
abbrev pub distinct : List Reading → List Reading → List Reading
distinct met [] = []
distinct met (q ∷ qs) =
    cond (list_any (same_reading q) met) (distinct met qs) (q ∷ distinct (q ∷ met) qs)

-- The readings after so many calls that a list names, each once, in the order in which it first names them.
abbrev pub readings_after : ℕ → List Symbolic → List Reading
readings_after n list = distinct [] (filter (λ q. length q.stage == n) (flat_map readings list))

-- A list with the definitions of the readings after so many calls that it names.
abbrev pub with_definitions : Specification → Obligation → Constants → ℕ → List Symbolic
    → List Symbolic
with_definitions d ob z n list = list ++ flat_map (definition d ob z) (readings_after n list)
