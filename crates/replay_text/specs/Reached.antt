-- What a step of the code leads to, and where its loop over the steps ends. This serves the code and its proofs.
use Rattle.std.specs.Prelude.{◌≡◌, ℕ, ◌<◌, ◌≤◌, List, ◌++◌, Option, None, Some, length}
use Rattle.spec_core.specs.declared.world.World.{World}
use Rattle.spec_core.specs.Specification.{Specification}
use Rattle.spec_core.specs.Meaning.{broken_at}
use Rattle.replica_replay.specs.declared.step.Step.{Step}
use Rattle.replica_replay.specs.Held.{Held, none_held}
use Rattle.replica_replay.specs.Replayed.{Replayed}
use Rattle.replica_replay.specs.Steps.{accepted, refused, outcome}
use Rattle.replay_text.specs.declared.writing.Stopped.{Stopped}
use Rattle.replay_text.specs.declared.writing.Stepped.{Stepped}
use Rattle.replay_text.specs.declared.writing.Stepped.TheVariants as stepped
use Rattle.replay_text.specs.Course.{Course, state_at, replica_of}
use Rattle.replay_text.specs.Text.{step_lines}

-- A replay of this specification that has such a replica.
pub record HasReplica (d : Specification) (replay : Replayed) (replica : ℕ) : Type 0 where
  pub spec : replay.spec ≡ d
  pub within : replica < length replay.held.taken

-- A replay of this specification at so many replicas that has accepted no step yet.
pub record IsNew (d : Specification) (replicas : ℕ) (replay : Replayed) : Type 0 where
  pub spec : replay.spec ≡ d
  pub held : replay.held ≡ none_held replicas
  pub some : 1 ≤ replicas

-- Two replays are of one specification in one world.
pub record SameSetting (one other : Replayed) : Type 0 where
  pub world : other.world ≡ one.world
  pub spec : other.spec ≡ one.spec

-- the first invariant that the state of a replica breaks
abbrev pub broken_of : Specification → Replayed → ℕ → Option ℕ
broken_of d replay replica =
    broken_at d replay.world (state_at d replay.world replay.held replica)

-- a step was accepted, with its event, and the state of its replica then breaks this invariant, or none
abbrev pub IsTaken : Specification → World → Held → Step → ℕ → Option ℕ → Held → Type 0
IsTaken d w held s e broken after =
    (outcome d w held s ≡ accepted e after)
    × (broken ≡ broken_at d w (state_at d w after (replica_of s)))

-- a step was accepted, and broke no invariant or this one; or it was refused, and nothing changed
abbrev pub IsStepped : Specification → World → Held → Step → Stepped → Held → Type 0
IsStepped d w held s (stepped.Accepted e) after = IsTaken d w held s e None after
IsStepped d w held s (stepped.Broken e place) after = IsTaken d w held s e (Some place) after
IsStepped d w held s (stepped.Refused why) after =
    (outcome d w held s ≡ refused why) × (after ≡ held)

-- Where the loop over the steps ends: the text so far, how it stopped after how many accepted steps, and what is held then.
pub record CourseDone : Type 0 where
  pub text : List ℕ
  pub stopped : Stopped
  pub held : Held

-- a course of some steps was gone through, and the lines of the accepted ones were added to this text
pub record IsReached (c : Course) (steps : List Step) (before : List ℕ)
    (end : CourseDone) : Type 0 where
  pub text_is : before ++ step_lines 0 steps c.events ≡ end.text
  pub count_is : length c.events ≡ end.stopped.accepted
  pub stop_is : c.stop ≡ end.stopped.stop
  pub held_is : c.held ≡ end.held
