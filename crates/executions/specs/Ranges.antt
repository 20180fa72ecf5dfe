-- Where an order leads beyond the range of a state.
use Rattle.std.specs.Prelude.{◌≡◌, ℕ, ◌<◌, List, take, slice_get, Some}
use Rattle.spec_core.specs.declared.world.World.{World}
use Rattle.spec_core.specs.declared.world.Call.{Call}
use Rattle.spec_core.specs.Specification.{Specification}
use Rattle.effectors.specs.Effect.{after_call}
use Rattle.effectors.specs.Beyond.{Beyond, AllInRange, IsFirstBeyond}
use Rattle.executions.specs.Orders.{Event}
use Rattle.executions.specs.Executions.{state_after}
use Rattle.executions.specs.Convergence.{system_of}

-- The events of an order at places below n stay in the range of a state: all values after each of them are in it.
abbrev pub StayInRange : Specification → World → List (Event Call) → List ℕ → ℕ → Type 0
StayInRange d w events order n =
    (i e : ℕ) (event : Event Call) → i < n → slice_get order i ≡ Some e →
    slice_get events e ≡ Some event →
    AllInRange (after_call d w event.call (state_after (system_of d w) events (take i order)))

-- The first value beyond the range of a state that an order leads to: the first that the event at some place leaves, and the events
-- before that place stay in the range.
pub record IsFirstBeyondIn (d : Specification) (w : World) (events : List (Event Call))
    (order : List ℕ) (b : Beyond) : Type 0 where
  pub place : ℕ
  pub number : ℕ
  pub event : Event Call
  pub taken : slice_get order place ≡ Some number
  pub exists : slice_get events number ≡ Some event
  pub before : StayInRange d w events order place
  pub first : IsFirstBeyond (after_call d w event.call
      (state_after (system_of d w) events (take place order))) b
