-- The text of a simulation, and the status that it comes to.
use Rattle.std.specs.Prelude.{ℕ, suc, List, [], ◌∷◌, ◌++◌, length, codes, decimal}
use Rattle.spec_core.specs.declared.world.World.{World}
use Rattle.spec_core.specs.Specification.{Specification}
use Rattle.spec_states.specs.StateText.{state_text}
use Rattle.replica_replay.specs.declared.step.Step.{Step}
use Rattle.token_protocol.specs.Network.{Replica}
use Rattle.simulate_text.specs.declared.said.Stop.{Stop}
use Rattle.simulate_text.specs.declared.said.Stop.TheVariants as stop
use Rattle.simulate_text.specs.Lines.{stop_line}
use Rattle.simulate_text.specs.Course.{Course, course}

-- a replica, with how many events it has taken, and the lines of its state
abbrev pub replica_text : Specification → World → ℕ → Replica → List ℕ
replica_text d w r at =
    codes "replica " ++ decimal r ++ codes " taken " ++ decimal (length at.taken) ++ 10 ∷ []
    ++ state_text d w at.node.state

-- the texts of these replicas, numbered on from here
abbrev pub replica_texts : Specification → World → ℕ → List Replica → List ℕ
replica_texts d w r [] = []
replica_texts d w r (at ∷ more) = replica_text d w r at ++ replica_texts d w (suc r) more

-- the text of a course: a first line, the lines of its steps, how it stops, and the replicas
abbrev pub course_text : Specification → World → Course → List ℕ
course_text d w c =
    codes "cise simulate 1\n" ++ c.lines ++ stop_line d c.at c.stop
    ++ replica_texts d w 0 c.after.net.replicas

-- The text of a simulation: what its steps did, how it stops, and then the replicas.
abbrev pub simulate_text : Specification → World → ℕ → List Step → List ℕ
simulate_text d w replicas steps = course_text d w (course d w replicas steps)

-- the status: 0 where all steps were carried out and no state broke, 1 where a state broke, 4 where a step is refused
abbrev pub status_of : Stop → ℕ
status_of stop.Done = 0
status_of (stop.BrokenFirst place) = 1
status_of (stop.Broken place) = 1
status_of (stop.Refused cause) = 4

-- the status of a simulation, by how it stops
abbrev pub simulate_status : Specification → World → ℕ → List Step → ℕ
simulate_status d w replicas steps = status_of (course d w replicas steps).stop
