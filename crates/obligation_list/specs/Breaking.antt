-- What breaks an obligation, and what it means that a specification is safe.
use Rattle.std.specs.Prelude.{◌≡◌, ℕ, ℤ, Bool, true, false, not, cond, List, [], ◌∷◌, get_or}
use Rattle.spec_core.specs.declared.world.World.{World}
use Rattle.spec_core.specs.declared.world.Call.{Call}
use Rattle.spec_core.specs.declared.update.Thing.{Thing}
use Rattle.spec_core.specs.declared.update.Thing.TheVariants as thing
use Rattle.spec_core.specs.Line.{Line}
use Rattle.spec_core.specs.Specification.{Specification, op_of, no_line, places_of}
use Rattle.spec_core.specs.State.{Listing, Reads, reads}
use Rattle.spec_core.specs.Truth.{int_eq, truth, is_exists, line_true}
use Rattle.spec_core.specs.Meaning.{invariant_line, inv, pre, initial}
use Rattle.spec_core.specs.Fits.{fits_places, is_world, is_call, is_state}
use Rattle.effectors.specs.Effect.{after}
use Rattle.token_rules.specs.Conflict.{conflicts}
use Rattle.obligation_list.specs.declared.obligation.Obligation.{Obligation}
use Rattle.obligation_list.specs.declared.obligation.Obligation.TheVariants.{Init, Safety, Commute, Stable}
use Rattle.obligation_list.specs.Obligations.{IsObligation}

-- a requires line of an operation
abbrev pub requires_line : Specification → ℕ → ℕ → Line
requires_line d o l = get_or (op_of d o).requires_ l no_line

-- the sorts of the elements at which a line may fail: its variables, and none for `exists`, which fails as a whole
abbrev pub failing_vars : Line → List ℕ
failing_vars l = cond (is_exists l.prefix) [] l.vars

-- the truth of a line at such elements
abbrev pub line_at : World → Reads → List ℤ → Line → List ℕ → Bool
line_at w r args l es = cond (is_exists l.prefix) (line_true w r args l) (truth w r args es l.body)

-- two truth values are equal
abbrev pub bool_eq : Bool → Bool → Bool
bool_eq true b = b
bool_eq false b = not b

-- a thing reads the same in two states at one tuple or key
abbrev pub reads_same : Thing → List ℕ → Reads → Reads → Bool
reads_same (thing.Relation k) t r s = bool_eq (r.has k t) (s.has k t)
reads_same (thing.Counter k) t r s = int_eq (r.count k t) (s.count k t)

-- the operations whose calls an obligation speaks of, in the order of its line
abbrev pub operations_of : Obligation → List ℕ
operations_of (Init i) = []
operations_of (Safety o i) = o ∷ []
operations_of (Commute o p x) = o ∷ p ∷ []
operations_of (Stable o l p) = o ∷ p ∷ []

-- the sorts of the elements at which its conclusion may fail
abbrev pub elements_of : Specification → Obligation → List ℕ
elements_of d (Init i) = failing_vars (invariant_line d i)
elements_of d (Safety o i) = failing_vars (invariant_line d i)
elements_of d (Commute o p x) = places_of d x
elements_of d (Stable o l p) = failing_vars (requires_line d o l)

-- a call of an operation
pub record IsCallOf (d : Specification) (w : World) (o : ℕ) (a : Call) : Type 0 where
  pub operation : a.op ≡ o
  pub fits : is_call d w a ≡ true

-- Two calls may run together in a state: every invariant is true in it, and so are both preconditions, and the calls don't conflict.
pub record MayRunTogether (d : Specification) (w : World) (r : Reads) (a b : Call) : Type 0 where
  pub invariant : inv d w r ≡ true
  pub first : pre d w a r ≡ true
  pub second : pre d w b r ≡ true
  pub apart : conflicts d w a b ≡ false

-- An invariant is false at the elements in a state, which is the initial one.
pub record BreaksInit (d : Specification) (i : ℕ) (w : World) (r : Reads)
    (es : List ℕ) : Type 0 where
  pub start : r ≡ reads (initial d w)
  pub fails : line_at w r [] (invariant_line d i) es ≡ false

-- An invariant is false at the elements after a call. Every invariant was true before it, and so was its precondition.
pub record BreaksSafety (d : Specification) (o i : ℕ) (w : World) (r : Reads) (a : Call)
    (es : List ℕ) : Type 0 where
  pub call : IsCallOf d w o a
  pub invariant : inv d w r ≡ true
  pub ready : pre d w a r ≡ true
  pub fails : line_at w (after d w a r) [] (invariant_line d i) es ≡ false

-- Two calls may run together, and after both in the one order and in the other a thing doesn't read the same at the elements.
pub record BreaksCommute (d : Specification) (o p : ℕ) (x : Thing) (w : World) (r : Reads)
    (a b : Call) (es : List ℕ) : Type 0 where
  pub first : IsCallOf d w o a
  pub second : IsCallOf d w p b
  pub together : MayRunTogether d w r a b
  pub fails : reads_same x es (after d w b (after d w a r)) (after d w a (after d w b r)) ≡ false

-- Two calls may run together, and a requires line of the first is false at the elements after the second.
pub record BreaksStable (d : Specification) (o l p : ℕ) (w : World) (r : Reads) (a b : Call)
    (es : List ℕ) : Type 0 where
  pub first : IsCallOf d w o a
  pub second : IsCallOf d w p b
  pub together : MayRunTogether d w r a b
  pub fails : line_at w (after d w b r) a.args (requires_line d o l) es ≡ false

-- Calls and elements break an obligation in a state, by its kind. An initial obligation speaks of no call, safety of one, the others
-- of two.
abbrev pub BreaksIn : Specification → Obligation → World → Reads → List Call → List ℕ → Type 0
BreaksIn d (Init i) w r [] es = BreaksInit d i w r es
BreaksIn d (Init i) w r (a ∷ cs) es = ⊥
BreaksIn d (Safety o i) w r [] es = ⊥
BreaksIn d (Safety o i) w r (a ∷ []) es = BreaksSafety d o i w r a es
BreaksIn d (Safety o i) w r (a ∷ b ∷ cs) es = ⊥
BreaksIn d (Commute o p x) w r [] es = ⊥
BreaksIn d (Commute o p x) w r (a ∷ []) es = ⊥
BreaksIn d (Commute o p x) w r (a ∷ b ∷ []) es = BreaksCommute d o p x w r a b es
BreaksIn d (Commute o p x) w r (a ∷ b ∷ c ∷ cs) es = ⊥
BreaksIn d (Stable o l p) w r [] es = ⊥
BreaksIn d (Stable o l p) w r (a ∷ []) es = ⊥
BreaksIn d (Stable o l p) w r (a ∷ b ∷ []) es = BreaksStable d o l p w r a b es
BreaksIn d (Stable o l p) w r (a ∷ b ∷ c ∷ cs) es = ⊥

-- A world, a state, calls and elements break an obligation: the world, the state and the elements fit, and the calls and elements
-- break it in the state.
pub record Breaks (d : Specification) (ob : Obligation) (w : World) (s : Listing) (cs : List Call)
    (es : List ℕ) : Type 0 where
  pub world : is_world d w ≡ true
  pub state : is_state d w s ≡ true
  pub elements : fits_places w (elements_of d ob) es ≡ true
  pub broken : BreaksIn d ob w (reads s) cs es

-- An obligation holds where nothing breaks it.
abbrev pub Holds : Specification → Obligation → Type 0
Holds d ob = (w : World) (s : Listing) (cs : List Call) (es : List ℕ) → Breaks d ob w s cs es → ⊥

-- A specification is safe where each of its obligations holds.
abbrev pub Safe : Specification → Type 0
Safe d = (ob : Obligation) → IsObligation d ob → Holds d ob
