-- When a witness refutes an obligation: it breaks it, within the bounds that worlds and calls have in a program; and the test of that.
use Rattle.std.specs.Prelude.{◌≡◌, ℕ, nat_le, Bool, true, false, not, ◌&&◌, ◌==◌, List, [], ◌∷◌}
use Rattle.std.specs.List.{list_all}
use Rattle.spec_core.specs.declared.world.World.{World}
use Rattle.spec_core.specs.declared.world.Call.{Call}
use Rattle.spec_core.specs.declared.update.Thing.{Thing}
use Rattle.spec_core.specs.Specification.{Specification}
use Rattle.spec_core.specs.State.{Listing, Reads, reads}
use Rattle.spec_core.specs.Meaning.{invariant_line, inv, pre}
use Rattle.spec_core.specs.Fits.{in_state_range, fits_places, is_state, world_fits, call_fits}
use Rattle.effectors.specs.Effect.{after}
use Rattle.token_rules.specs.Conflict.{conflicts}
use Rattle.obligation_list.specs.declared.obligation.Obligation.{Obligation}
use Rattle.obligation_list.specs.declared.obligation.Obligation.TheVariants.{Init, Safety, Commute, Stable}
use Rattle.obligation_list.specs.Breaking.{requires_line, line_at, reads_same, elements_of, Breaks}
use Rattle.obligation_list.specs.Starting.{starts}

-- A witness refutes an obligation: it breaks it, no sort has more than 100 elements, and numbers are in the range of a state.
pub record IsRefutation (d : Specification) (ob : Obligation) (w : World) (s : Listing)
    (cs : List Call) (es : List ℕ) : Type 0 where
  pub breaks : Breaks d ob w s cs es
  pub sizes : list_all (λ n. nat_le n 100) w.sizes ≡ true
  pub numbers : list_all (λ c. list_all in_state_range c.args) cs ≡ true

-- ---- the test, kind by kind

-- a call of this operation, with the arguments that it takes
abbrev pub is_call_of : Specification → World → ℕ → Call → Bool
is_call_of d w o a = (a.op == o) && call_fits d w a

-- the invariants hold in a state, both calls are ready there, and they don't conflict
abbrev pub may_run_together : Specification → World → Reads → Call → Call → Bool
may_run_together d w r a b = inv d w r && pre d w a r && pre d w b r && not (conflicts d w a b)

-- in the initial state the invariant fails, at these elements
abbrev pub refutes_init : Specification → ℕ → World → Reads → List ℕ → Bool
refutes_init d i w r es = starts d w r && not (line_at w r [] (invariant_line d i) es)

-- a call that is ready in a state with the invariants leads to one in which an invariant fails, at these elements
abbrev pub refutes_safety : Specification → ℕ → ℕ → World → Reads → Call → List ℕ → Bool
refutes_safety d o i w r a es =
    is_call_of d w o a && inv d w r && pre d w a r
    && not (line_at w (after d w a r) [] (invariant_line d i) es)

-- two calls of these operations that may run together
abbrev pub are_together : Specification → ℕ → ℕ → World → Reads → Call → Call → Bool
are_together d o p w r a b = is_call_of d w o a && is_call_of d w p b && may_run_together d w r a b

-- two calls that may run together leave different readings of the thing in their two orders, at these elements
abbrev pub refutes_commute : Specification → ℕ → ℕ → Thing → World → Reads → Call → Call → List ℕ
    → Bool
refutes_commute d o p x w r a b es =
    are_together d o p w r a b && not (reads_same x es (after d w b (after d w a r))
    (after d w a (after d w b r)))

-- after the second of two calls that may run together, a requires line of the first fails, at these elements
abbrev pub refutes_stable : Specification → ℕ → ℕ → ℕ → World → Reads → Call → Call → List ℕ → Bool
refutes_stable d o l p w r a b es =
    are_together d o p w r a b && not (line_at w (after d w b r) a.args (requires_line d o l) es)

-- these calls and elements refute an obligation in a state
abbrev pub refutes_in : Specification → Obligation → World → Reads → List Call → List ℕ → Bool
refutes_in d (Init i) w r [] es = refutes_init d i w r es
refutes_in d (Init i) w r (a ∷ cs) es = false
refutes_in d (Safety o i) w r [] es = false
refutes_in d (Safety o i) w r (a ∷ []) es = refutes_safety d o i w r a es
refutes_in d (Safety o i) w r (a ∷ b ∷ cs) es = false
refutes_in d (Commute o p x) w r [] es = false
refutes_in d (Commute o p x) w r (a ∷ []) es = false
refutes_in d (Commute o p x) w r (a ∷ b ∷ []) es = refutes_commute d o p x w r a b es
refutes_in d (Commute o p x) w r (a ∷ b ∷ c ∷ cs) es = false
refutes_in d (Stable o l p) w r [] es = false
refutes_in d (Stable o l p) w r (a ∷ []) es = false
refutes_in d (Stable o l p) w r (a ∷ b ∷ []) es = refutes_stable d o l p w r a b es
refutes_in d (Stable o l p) w r (a ∷ b ∷ c ∷ cs) es = false

-- all parts fit
abbrev pub parts_fit : Specification → Obligation → World → Listing → List ℕ → Bool
parts_fit d ob w s es = world_fits d w && is_state d w s && fits_places w (elements_of d ob) es

-- the test of a refutation
abbrev pub refutes : Specification → Obligation → World → Listing → List Call → List ℕ → Bool
refutes d ob w s cs es = parts_fit d ob w s es && refutes_in d ob w (reads s) cs es
