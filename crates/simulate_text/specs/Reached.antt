-- What the code of a simulation leaves. This serves the code and its proofs.
use Rattle.std.specs.Prelude.{◌≡◌, ℕ, List, ◌++◌, Option, Result, IfOk, replicate}
use Rattle.spec_core.specs.declared.world.World.{World}
use Rattle.spec_core.specs.Specification.{Specification}
use Rattle.token_protocol.specs.declared.network.NetDid.{NetDid}
use Rattle.token_protocol.specs.Network.{Network, Outcome, network_after}
use Rattle.token_core.specs.HeldNet.{HeldNet, network_held}
use Rattle.simulate_text.specs.declared.said.Said.{Said}
use Rattle.simulate_text.specs.declared.said.SimulateRefused.{SimulateRefused}
use Rattle.simulate_text.specs.declared.said.Stop.{Stop}
use Rattle.simulate_text.specs.declared.simulation.Simulation.{Simulation}
use Rattle.simulate_text.specs.Course.{Simulated, Part, Course, told, first_simulated}
use Rattle.simulate_text.specs.Unbroken.{AreUnbroken}

-- the simulation that the code holds
abbrev pub simulated_in : {R : Type 0} → Simulation R → Simulated
simulated_in sim =
    record { net = network_held sim.net; dones = sim.dones.items; grants = sim.grants.items }

-- a network of this specification in this world
pub record IsOf (d : Specification) (w : World) (net : HeldNet) : Type 0 where
  pub spec : net.spec ≡ d
  pub world : net.world ≡ w

-- a simulation of so many replicas before its first step, whose invariants weren't asked
pub record IsFirst {R : Type 0} (d : Specification) (w : World) (replicas : ℕ)
    (sim : Simulation R) : Type 0 where
  pub of : IsOf d w sim.net
  pub first : simulated_in sim ≡ first_simulated d w replicas
  pub unknown : sim.unbroken.items ≡ replicate replicas 0

-- a simulation of this specification in this world, in which what is known of its invariants is so
pub record IsAsked {R : Type 0} (d : Specification) (w : World) (sim : Simulation R) : Type 0 where
  pub of : IsOf d w sim.net
  pub unbroken : AreUnbroken sim.net sim.unbroken.items

-- a step of a network, with this outcome, was carried out
pub record IsGone (d : Specification) (w : World) (o : Outcome) (before : Network)
    (it : Result NetDid SimulateRefused) (after : HeldNet) : Type 0 where
  pub told_is : told o ≡ it
  pub net_is : network_after before o ≡ network_held after
  pub of : IsOf d w after

-- A part of a step was carried out: what it says was added to what was said before, this is how it stops, and this is what is left.
pub record IsPart {R : Type 0} (d : Specification) (w : World) (part : Part) (before : List Said)
    (stop : Option Stop) (after : Simulation R) : Type 0 where
  pub said_is : before ++ part.said ≡ after.said.items
  pub stop_is : part.stop ≡ stop
  pub after_is : part.after ≡ simulated_in after
  pub asked : IsAsked d w after

-- This part was carried out, whatever the specification and the world of the network are.
abbrev pub IsDone : {R : Type 0} → (Specification → World → Simulated → Part) → Simulation R
    → Simulation R → Option Stop → Type 0
IsDone part old new stop =
    (d : Specification) (w : World) → IsAsked d w old
    → IsPart d w (part d w (simulated_in old)) old.said.items stop new

-- This part was carried out, or memory was wanting.
abbrev pub Does : {R E : Type 0} → (Specification → World → Simulated → Part) → Simulation R
    → Simulation R → Result (Option Stop) E → Type 0
Does part old new result = IfOk result (λ stop. IsDone part old new stop)

-- What the code has after a step: the text so far, whether it stops there, and the simulation.
pub record StepDone (R : Type 0) : Type 0 where
  pub text : List ℕ
  pub stop : Option Stop
  pub sim : Simulation R

-- a step was carried out, and its lines, which are written so, were added to a text
pub record IsStep {R : Type 0} (d : Specification) (w : World) (part : Part)
    (lines : List Said → List ℕ) (before : List ℕ) (after : StepDone R) : Type 0 where
  pub text_is : after.text ≡ before ++ lines part.said
  pub stop_is : part.stop ≡ after.stop
  pub after_is : part.after ≡ simulated_in after.sim
  pub asked : IsAsked d w after.sim

-- What the code has where the loop over the steps ends: the text so far, at which step it stops and how, and the simulation.
pub record CourseDone (R : Type 0) : Type 0 where
  pub text : List ℕ
  pub at : ℕ
  pub stop : Stop
  pub sim : Simulation R

-- a course was gone through, and its lines were added to this text
pub record IsReached {R : Type 0} (d : Specification) (w : World) (c : Course) (before : List ℕ)
    (end : CourseDone R) : Type 0 where
  pub text_is : before ++ c.lines ≡ end.text
  pub at_is : c.at ≡ end.at
  pub stop_is : c.stop ≡ end.stop
  pub after_is : c.after ≡ simulated_in end.sim
  pub of : IsOf d w end.sim.net
