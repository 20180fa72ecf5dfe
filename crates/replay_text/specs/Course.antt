-- The course of a replay: which steps are accepted, where it stops, and what is held then.
use Rattle.std.specs.Prelude.{ℕ, List, [], ◌∷◌, get_or, Option, None, Some}
use Rattle.spec_core.specs.declared.world.World.{World}
use Rattle.spec_core.specs.Specification.{Specification}
use Rattle.spec_core.specs.State.{Reads}
use Rattle.spec_core.specs.Meaning.{broken_at}
use Rattle.replica_replay.specs.declared.step.Step.{Step}
use Rattle.replica_replay.specs.declared.step.Step.TheVariants as step
use Rattle.replica_replay.specs.Held.{Held, none_held}
use Rattle.replica_replay.specs.Steps.{Outcome, accepted, refused, state_of, outcome}
use Rattle.replay_text.specs.declared.stop.Stop.{Stop}
use Rattle.replay_text.specs.declared.stop.Stop.TheVariants as stop

-- What the accepted steps made or took, in their order; how the replay stops; and what is held then.
pub record Course : Type 0 where
  pub events : List ℕ
  pub stop : Stop
  pub held : Held

-- a replay that stops here
abbrev pub stopped : Stop → Held → Course
stopped how held = record { events = []; stop = how; held = held }

-- an accepted step, and then a course
abbrev pub with_event : ℕ → Course → Course
with_event e c = record { events = e ∷ c.events; stop = c.stop; held = c.held }

-- it stops where an invariant is broken: at the first one
abbrev pub unless_broken : Option ℕ → Held → Course → Course
unless_broken None held next = next
unless_broken (Some place) held next = stopped (stop.Broken place) held

-- the replica of a step
abbrev pub replica_of : Step → ℕ
replica_of (step.Call replica name args) = replica
replica_of (step.Take replica e) = replica

-- the state of a replica
abbrev pub state_at : Specification → World → Held → ℕ → Reads
state_at d w held replica = state_of d w held (get_or held.taken replica [])

-- It stops at a step that is refused. After an accepted one the invariants are asked of the state of its replica.
abbrev pub after_outcome : Specification → World → ℕ → Held → Outcome → (Held → Course) → Course
after_outcome d w replica held (refused why) next = stopped (stop.Refused why) held
after_outcome d w replica held (accepted e after) next =
    with_event e (unless_broken (broken_at d w (state_at d w after replica)) after (next after))

-- the course of some steps, from what is held
abbrev pub course_from : Specification → World → Held → List Step → Course
course_from d w held [] = stopped stop.Done held
course_from d w held (s ∷ ss) =
    after_outcome d w (replica_of s) held (outcome d w held s) (λ after. course_from d w after ss)

-- The course of a replay of so many replicas. The invariants are asked of the initial state first.
abbrev pub course : Specification → World → ℕ → List Step → Course
course d w replicas steps =
    unless_broken (broken_at d w (state_of d w (none_held replicas) [])) (none_held replicas)
    (course_from d w (none_held replicas) steps)
