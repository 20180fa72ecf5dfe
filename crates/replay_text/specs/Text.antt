-- The text of a replay, and the status that it comes to.
use Rattle.std.specs.Prelude.{ℕ, ℤ, zero, suc, List, [], ◌∷◌, ◌++◌, length, get_or, codes, decimal}
use Rattle.std.specs.Fmt.{signed_decimal}
use Rattle.spec_core.specs.declared.world.World.{World}
use Rattle.spec_core.specs.Specification.{Specification, no_counter, no_invariant}
use Rattle.spec_states.specs.StateText.{spaced, state_text}
use Rattle.replica_replay.specs.declared.step.Step.{Step}
use Rattle.replica_replay.specs.declared.step.Step.TheVariants as step
use Rattle.replica_replay.specs.declared.step.StepRefused.{StepRefused}
use Rattle.replica_replay.specs.declared.step.StepRefused.TheVariants as refusal
use Rattle.replica_replay.specs.Held.{Held}
use Rattle.replica_replay.specs.Steps.{state_of}
use Rattle.replay_text.specs.declared.stop.Stop.{Stop}
use Rattle.replay_text.specs.declared.stop.Stop.TheVariants as stop
use Rattle.replay_text.specs.Course.{Course, course}

-- ---- the accepted steps

-- what a step does, as it is written
abbrev pub step_words : Step → List ℕ
step_words (step.Call replica name args) = codes "replica " ++ decimal replica ++ codes " call "
step_words (step.Take replica e) = codes "replica " ++ decimal replica ++ codes " take "

-- the line of an accepted step, with its number and the event that it made or took
abbrev pub step_line : ℕ → Step → ℕ → List ℕ
step_line k s e = codes "step " ++ decimal k ++ 32 ∷ [] ++ step_words s ++ decimal e ++ 10 ∷ []

-- the lines of the accepted steps, numbered on from here
abbrev pub step_lines : ℕ → List Step → List ℕ → List ℕ
step_lines k [] es = []
step_lines k (s ∷ ss) [] = []
step_lines k (s ∷ ss) (e ∷ es) = step_line k s e ++ step_lines (suc k) ss es

-- ---- the stop

-- a counter with its key and a value beyond the range of a state
abbrev pub range_words : Specification → ℕ → List ℕ → ℤ → List ℕ
range_words d counter key value =
    codes "range " ++ (get_or d.counters counter no_counter).name ++ spaced key ++ 32 ∷ []
    ++ signed_decimal value

-- why a step is refused; want of memory has no words
abbrev pub refusal_words : Specification → StepRefused → List ℕ
refusal_words d refusal.Replica = codes "replica"
refusal_words d refusal.Operation = codes "operation"
refusal_words d refusal.Arguments = codes "arguments"
refusal_words d (refusal.Conflict e) = codes "conflict " ++ decimal e
refusal_words d (refusal.Precondition line) = codes "precondition " ++ decimal line
refusal_words d refusal.NoEvent = codes "noevent"
refusal_words d refusal.Seen = codes "seen"
refusal_words d (refusal.Missing e) = codes "missing " ++ decimal e
refusal_words d (refusal.Range counter key value) = range_words d counter key value
refusal_words d refusal.Memory = []
refusal_words d (refusal.Observation line) = codes "observation " ++ decimal line

-- where a state broke: at the start, or after the last of so many accepted steps
abbrev pub broken_words : ℕ → List ℕ
broken_words zero = codes "start"
broken_words (suc k) = decimal k

-- the name of an invariant
abbrev pub invariant_name : Specification → ℕ → List ℕ
invariant_name d place = (get_or d.invariants place no_invariant).name

-- the line that says how it stops, after so many accepted steps
abbrev pub stop_line : Specification → ℕ → Stop → List ℕ
stop_line d n stop.Done = codes "done " ++ decimal n ++ 10 ∷ []
stop_line d n (stop.Broken place) =
    codes "broken " ++ broken_words n ++ 32 ∷ [] ++ invariant_name d place ++ 10 ∷ []
stop_line d n (stop.Refused why) =
    codes "refused " ++ decimal n ++ 32 ∷ [] ++ refusal_words d why ++ 10 ∷ []

-- ---- the replicas

-- a replica, with how many events it has taken, and the lines of its state
abbrev pub replica_text : Specification → World → Held → ℕ → List ℕ → List ℕ
replica_text d w held replica taken =
    codes "replica " ++ decimal replica ++ codes " taken " ++ decimal (length taken) ++ 10 ∷ []
    ++ state_text d w (state_of d w held taken)

-- the replicas that have taken these, numbered on from here
abbrev pub replica_texts : Specification → World → Held → ℕ → List (List ℕ) → List ℕ
replica_texts d w held replica [] = []
replica_texts d w held replica (taken ∷ more) =
    replica_text d w held replica taken ++ replica_texts d w held (suc replica) more

-- ---- the whole

-- the text of a course: a first line, the accepted steps, how it stops, and the replicas
abbrev pub course_text : Specification → World → List Step → Course → List ℕ
course_text d w steps c =
    codes "cise replay 1\n" ++ step_lines 0 steps c.events ++ stop_line d (length c.events) c.stop
    ++ replica_texts d w c.held 0 c.held.taken

-- The text of a replay: the accepted steps, how it stops, and then the replicas.
abbrev pub replay_text : Specification → World → ℕ → List Step → List ℕ
replay_text d w replicas steps = course_text d w steps (course d w replicas steps)

-- the status: 0 where it is done, 1 where a state broke, 4 where a step is refused
abbrev pub status_of : Stop → ℕ
status_of stop.Done = 0
status_of (stop.Broken place) = 1
status_of (stop.Refused why) = 4

-- the status of a replay, by how it stops
abbrev pub replay_status : Specification → World → ℕ → List Step → ℕ
replay_status d w replicas steps = status_of (course d w replicas steps).stop
