-- What an application's own code has to answer, to stand in for the requires lines and the updates of a specification.
use Rattle.std.specs.Prelude.{◌≡◌, ℕ, ◌+◌, true, Option, Result, Err, OnOk, IfOk}
use Rattle.std.specs.Option.{option_map}
use Rattle.spec_core.specs.declared.world.World.{World}
use Rattle.spec_core.specs.declared.world.Call.{Call}
use Rattle.spec_core.specs.Specification.{Specification, op_of}
use Rattle.spec_core.specs.State.{Listing, reads}
use Rattle.spec_core.specs.Meaning.{first_false}
use Rattle.spec_core.specs.Fits.{call_fits, is_state}
use Rattle.effectors.specs.declared.applying.ApplyRefused.{ApplyRefused}
use Rattle.effectors.specs.declared.applying.ApplyRefused.TheVariants.{Range}
use Rattle.effectors.specs.Effect.{after, after_call}
use Rattle.effectors.specs.Beyond.{Beyond, AllInRange, IsFirstBeyond}

-- ---- answers

-- An effect's answer at a state and a call: the state after the call, which fits; or the first value beyond the range of a state,
-- exactly where there is one; or want of memory.
pub record IsEffect (d : Specification) (w : World) (s : Listing) (call : Call)
    (answer : Result Listing ApplyRefused) : Type 0 where
  pub reads_so : IfOk answer (λ next. reads next ≡ after d w call (reads s))
  pub fits : IfOk answer (λ next. is_state d w next ≡ true)
  pub in_range : OnOk answer (AllInRange (after_call d w call (reads s)))
  pub range : (b : Beyond) → answer ≡ Err (Range b.counter b.key b.value)
      → IsFirstBeyond (after_call d w call (reads s)) b

-- A guard's answer at a state and a call: the first requires line that is false, counted from 1, none where the precondition holds;
-- or want of memory.
pub record IsGuard {E : Type 0} (d : Specification) (w : World) (s : Listing) (call : Call)
    (answer : Result (Option ℕ) E) : Type 0 where
  pub line : IfOk answer
      (λ line. line ≡ option_map (λ place. place + 1)
      (first_false w (reads s) call.args (op_of d call.op).requires_))

-- ---- code

-- Code may be called at each state and call that fit, and whatever it answers there is right.
pub record Meets {R : Type 0} (d : Specification) (w : World) (right : Listing → Call → R → Type 0)
    (may_run : Listing → Call → Type 0) (gives : Listing → Call → R → Type 0) : Type 0 where
  pub callable : (s : Listing) (call : Call) → is_state d w s ≡ true → call_fits d w call ≡ true
      → may_run s call
  pub answers : (s : Listing) (call : Call) (r : R) → is_state d w s ≡ true
      → call_fits d w call ≡ true → gives s call r → right s call r

-- ---- what the code is for

-- A specification in a world.
pub record Setting : Type 0 where
  pub spec : Specification
  pub world : World
