use Rattle.std.proofs.Common.{ℕ, ◌<◌, ◌≤◌, get_or, length, List, below_more, subst, ◌∙◌, arith, refl}
use Rattle.std.proofs.lemmas.List.{get_or_default}
use Rattle.std.specs.Prelude.{Contains}
use Rattle.executions.specs.Orders.{AreIn}
use Rattle.executions.proofs.order.all_in.Goals as goal

all_were : (xs ys : List ℕ) (n : ℕ) → length xs ≤ n → ((k : ℕ) → k < n → Contains ys (get_or xs k 0)) → AreIn xs ys
all_were xs ys n past h x c = subst (Contains ys) (get_or_default xs c.0 0 x c.1 ∙ c.2) (h c.0 (omega (arith, past, c.1)))

pub loop-event-preserved : goal.loop-event-preserved
loop-event-preserved c = below_more _ _ c.loop-event.invariant (c.if-not-has.ensures.0 refl)

pub returns : goal.returns
returns c = (λ t. all_were c.args.events.now c.args.taken.now c.loop-event.event-index c.loop-event-test.false c.loop-event.invariant, λ h. refl)
