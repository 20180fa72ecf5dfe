-- Which calls and takings are refused, and for what: the first cause in the order of the tests.
use Rattle.std.specs.Prelude.{ℕ, suc, ◌+◌, Bool, not, cond, ◌&&◌, List, [], ◌∷◌, Option, None, Some}
use Rattle.std.specs.List.{find}
use Rattle.spec_core.specs.declared.world.World.{World}
use Rattle.spec_core.specs.declared.world.Call.{Call}
use Rattle.spec_core.specs.Specification.{Specification, op_of}
use Rattle.spec_core.specs.State.{Reads}
use Rattle.spec_core.specs.Meaning.{first_false}
use Rattle.spec_core.specs.Fits.{call_fits}
use Rattle.effectors.specs.Effect.{after_call}
use Rattle.effectors.specs.Beyond.{Beyond, first_beyond}
use Rattle.token_rules.specs.Conflict.{conflicts}
use Rattle.executions.specs.Orders.{Event}
use Rattle.replica_replay.specs.declared.step.StepRefused.{StepRefused}
use Rattle.replica_replay.specs.declared.step.StepRefused.TheVariants.{Arguments, Conflict, Precondition, Seen, Missing, Range, Observation}
use Rattle.replica_replay.specs.Held.{is_taken}

-- refused where the test is false, else for what comes next
abbrev pub need : Bool → StepRefused → Option StepRefused → Option StepRefused
need test why next = cond test next (Some why)

-- refused where something is found, else for what comes next
abbrev pub unless : {A : Type 0} → Option A → (A → StepRefused) → Option StepRefused
    → Option StepRefused
unless None why next = next
unless (Some found) why next = Some (why found)

-- the least event whose call conflicts with a call and that isn't among those taken; the calls of the events are numbered on
-- from here
abbrev pub least_unseen : Specification → World → List ℕ → Call → ℕ → List Call → Option ℕ
least_unseen d w taken call n [] = None
least_unseen d w taken call n (other ∷ others) =
    cond (conflicts d w other call && not (is_taken taken n)) (Some n)
    (least_unseen d w taken call (suc n) others)

-- the first of these events that isn't among those taken
abbrev pub first_untaken : List ℕ → List ℕ → Option ℕ
first_untaken taken events = find (λ e. not (is_taken taken e)) events

-- a requires line is false; lines are counted from 1
abbrev pub false_requires : ℕ → StepRefused
false_requires place = Precondition (place + 1)

-- an observes line is false; lines are counted from 1
abbrev pub false_observes : ℕ → StepRefused
false_observes place = Observation (place + 1)

-- the counter, the key and the value at which an effect leads beyond the range of a state
abbrev pub beyond_range : Beyond → StepRefused
beyond_range b = Range b.counter b.key b.value

-- an effect that leads beyond the range of a state
abbrev pub effect_refused : Specification → World → Reads → Call → Option StepRefused
effect_refused d w r call =
    unless (first_beyond 0 (after_call d w call r).counters) beyond_range None

-- What a replica knows where a step is tried: the events that it has taken, and its state.
pub record LocalView : Type 0 where
  pub taken : List ℕ
  pub state : Reads

-- what is asked of the lines of a call in a state: its requires lines, and then its observes lines
abbrev pub lines_asked : Specification → World → Reads → Call → Option StepRefused
    → Option StepRefused
lines_asked d w r call next =
    unless (first_false w r call.args (op_of d call.op).requires_) false_requires
    (unless (first_false w r call.args (op_of d call.op).observes) false_observes
    next)

-- What is asked of a call before its effect, at a replica, where the events have these calls.
abbrev pub call_asked : Specification → World → List Call → LocalView → Call → Option StepRefused
    → Option StepRefused
call_asked d w calls at call next =
    need (call_fits d w call) Arguments
    (unless (least_unseen d w at.taken call 0 calls) Conflict
    (lines_asked d w at.state call
    next))

-- Why a call is refused at such a replica: what is asked of it, and then its effect.
abbrev pub call_refused : Specification → World → List Call → LocalView → Call → Option StepRefused
call_refused d w calls at call = call_asked d w calls at call (effect_refused d w at.state call)

-- What is asked of an event that has seen these, at a replica that has taken those.
abbrev pub taking_asked : List ℕ → ℕ → List ℕ → Option StepRefused → Option StepRefused
taking_asked taken e seen next =
    need (not (is_taken taken e)) Seen
    (unless (first_untaken taken seen) Missing
    next)

-- Why a taking is refused at a replica: what is asked of the event, and then its effect.
abbrev pub taking_refused : Specification → World → LocalView → ℕ → Event Call → Option StepRefused
taking_refused d w at e event =
    taking_asked at.taken e event.seen (effect_refused d w at.state event.call)
