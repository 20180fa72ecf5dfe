-- Executions of a replicated system, and what it means that it converges.
use Rattle.std.specs.Prelude.{◌≡◌, ℕ, ◌<◌, List, slice_get, None, Some, Contains, fold}
use Rattle.executions.specs.Orders.{Event, AreIn, IsOrder}

-- A replicated system, as far as this theorem asks: states and calls, which of them there are, what a call does to a state,
-- what the state must keep, what a call asks of the state at its origin and of every state that it meets, and which calls
-- conflict.
pub record System : Type 1 where
  pub State : Type 0
  pub Call : Type 0
  pub IsState : State → Type 0
  pub IsCall : Call → Type 0
  pub initial : State
  pub effect : Call → State → State
  pub Inv : State → Type 0
  pub Pre : Call → State → Type 0
  pub Observed : Call → State → Type 0
  pub Conflict : Call → Call → Type 0

-- the state with the effect of the event of that number; a number of no event changes nothing
abbrev pub with_event : (s : System) → List (Event s.Call) → s.State → ℕ → s.State
with_event s events state e =
    elim (slice_get events e) [ None ↦ state | Some event ↦ s.effect event.call state ]

-- the state after an order: the effects of its events, folded over it from the initial state
abbrev pub state_after : (s : System) → List (Event s.Call) → List ℕ → s.State
state_after s events order = fold (with_event s events) s.initial order

-- What an execution asks of the event at place i. What the event has seen are distinct earlier events, each after all that it
-- has seen itself. In the state after them the call's precondition is true, and so is what it observed. It has seen every
-- earlier event with whose call its own conflicts.
pub record Happens (s : System) (events : List (Event s.Call)) (i : ℕ)
    (event : Event s.Call) : Type 0 where
  pub call : s.IsCall event.call
  pub earlier : (k : ℕ) → Contains event.seen k → k < i
  pub closed : IsOrder events event.seen
  pub ready : s.Pre event.call (state_after s events event.seen)
  pub observed : s.Observed event.call (state_after s events event.seen)
  pub ordered : (k : ℕ) (other : Event s.Call) → k < i → slice_get events k ≡ Some other
      → s.Conflict other.call event.call → Contains event.seen k

-- an execution: a list of events, each of which happens as above
abbrev pub IsExecution : (s : System) → List (Event s.Call) → Type 0
IsExecution s events =
    (i : ℕ) (event : Event s.Call) → slice_get events i ≡ Some event → Happens s events i event

-- two orders lead to one state, which satisfies the invariant
pub record Agree (s : System) (events : List (Event s.Call)) (one other : List ℕ) : Type 0 where
  pub same : state_after s events one ≡ state_after s events other
  pub inv : s.Inv (state_after s events one)

-- A system converges where, in every execution, any two delivery orders of the same events lead to one state, and this state
-- satisfies the invariant.
abbrev pub SystemConverges : System → Type 0
SystemConverges s =
    (events : List (Event s.Call)) → IsExecution s events →
    (one other : List ℕ) → IsOrder events one → IsOrder events other → AreIn one other →
    AreIn other one →
    Agree s events one other

-- what every system keeps: the initial state is a state, effects lead from states to states, and conflict is symmetric
pub record IsSystem (s : System) : Type 0 where
  pub initial : s.IsState s.initial
  pub effect : (a : s.Call) (state : s.State) → s.IsCall a → s.IsState state
      → s.IsState (s.effect a state)
  pub symmetric : (a b : s.Call) → s.Conflict a b → s.Conflict b a

-- What the proof rule asks of a system. The initial state satisfies the invariant. Each call keeps the invariant wherever its
-- precondition is true. Two calls that don't conflict commute wherever both preconditions are true, and there neither makes
-- the other's precondition false.
pub record IsSafe (s : System) : Type 0 where
  pub init : s.Inv s.initial
  pub safety : (a : s.Call) (state : s.State) → s.IsCall a → s.IsState state → s.Inv state
      → s.Pre a state → s.Inv (s.effect a state)
  pub commute : (a b : s.Call) (state : s.State) → s.IsCall a → s.IsCall b → ¬ s.Conflict a b
      → s.IsState state → s.Inv state → s.Pre a state → s.Pre b state
      → s.effect b (s.effect a state) ≡ s.effect a (s.effect b state)
  pub stable : (a b : s.Call) (state : s.State) → s.IsCall a → s.IsCall b → ¬ s.Conflict a b
      → s.IsState state → s.Inv state → s.Pre a state → s.Pre b state → s.Pre a (s.effect b state)
