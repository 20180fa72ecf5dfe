-- Several parts that are joined as they are made.
use Rattle.std.specs.Prelude.{ℕ, zero, suc, pos, true, cond, Option, Some, None, List, [], ◌∷◌, ◌++◌, slice_get}
use Rattle.std.specs.List.{list_any}
use Rattle.spec_core.specs.declared.update.Thing.{Thing}
use Rattle.spec_core.specs.declared.update.Thing.TheVariants as thing
use Rattle.spec_core.specs.declared.update.Spot.{Spot}
use Rattle.spec_core.specs.declared.update.Spot.TheVariants.{Every, One}
use Rattle.spec_core.specs.UpdateLine.{UpdateLine}
use Rattle.effectors.specs.Effect.{is_thing}
use Rattle.ground_problem.specs.Symbols.{Stage, Part, multiple, reading, Symbolic, negated, either, same_const, equal}
use Rattle.ground_problem.specs.Formulas.{Caller, Readings, const_of}
use Rattle.ground_problem.specs.Definitions.{acts_on, has_then, count_then, value_after, updates_of}
use Rattle.ground_numbers.specs.Numbered.{Numbered, known, conjunction}
use Rattle.ground_atoms.specs.Known.{Known}
use Rattle.ground_atoms.specs.Making.{Made, make}

-- the parts so far with one more
abbrev pub joined : Option Numbered → Numbered → Numbered
joined None f = f
joined (Some g) f = conjunction g f

-- no parts at all are true
abbrev pub all_of : Option Numbered → Numbered
all_of None = known true
all_of (Some g) = g

-- parts, after those so far
pub record MadeParts : Type 0 where
  pub known : Known
  pub parts : Option Numbered

-- the parts with those of these formulas, each made in turn
abbrev pub make_parts : Option Numbered → Known → List Symbolic → MadeParts
make_parts so_far k [] = record { known = k; parts = so_far }
make_parts so_far k (f ∷ fs) = make_parts (Some (joined so_far (make k f).form)) (make k f).known fs

-- the parts as one formula
abbrev pub made_parts : MadeParts → Made
made_parts m = record { known = m.known; form = all_of m.parts }

-- what the spot of an update asks for at a place of a tuple
abbrev pub spot_at : Caller → Option Spot → Option ℕ → List Symbolic
spot_at c None k = []
spot_at c (Some Every) k = []
spot_at c (Some (One e)) None = []
spot_at c (Some (One e)) (Some k) = same_const (const_of c [] e) k ∷ []

-- ---- the updates of a list one after another, also those of other things

-- what a tuple reads after the update that stands at a place, if any
abbrev pub has_step : Readings → Caller → Thing → List ℕ → Option UpdateLine → Symbolic → Symbolic
has_step r c x t None e = e
has_step r c x t (Some u) e = cond (is_thing u.thing x) (has_then u.change (acts_on r c t u) e) e

-- what a tuple reads after the first n updates
abbrev pub has_upto : Readings → Caller → Thing → List ℕ → List UpdateLine → ℕ → Symbolic → Symbolic
has_upto r c x t us zero e = e
has_upto r c x t us (suc n) e = has_step r c x t (slice_get us n) (has_upto r c x t us n e)

-- the two formulas of one update of a counter
abbrev pub value_defined : Readings → Caller → List ℕ → List Part → List Part → UpdateLine
    → List Symbolic
value_defined r c t next v u =
    either (negated (acts_on r c t u)) (equal next (count_then r c u.change v))
    ∷ either (acts_on r c t u) (equal next v) ∷ []

-- the formulas of a list's updates of this counter, in their order
abbrev pub values_upto : Readings → Caller → Stage → ℕ → List ℕ → ℕ → List Part → List UpdateLine
    → List Symbolic
values_upto r c k i t n v [] = []
values_upto r c k i t n v (u ∷ us) =
    let next = multiple (pos 1) (value_after (updates_of (thing.Counter i) us) n k i t) ∷ [] in
    cond (is_thing u.thing (thing.Counter i))
    (value_defined r c t next v u ++ values_upto r c k i t (suc n) next us)
    (values_upto r c k i t n v us)

-- what defines a counter's reading: the formulas of its updates in turn, or that it is what it was
abbrev pub count_in_turn : Readings → Caller → Stage → ℕ → List ℕ → List Part → List UpdateLine
    → List Symbolic
count_in_turn r c k i t v us =
    cond (list_any (λ u. is_thing u.thing (thing.Counter i)) us)
    (values_upto r c k i t 1 v us)
    (equal (multiple (pos 1) (reading k i t) ∷ []) v ∷ [])
