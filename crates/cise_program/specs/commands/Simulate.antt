-- What `simulate` answers for a specification and the bytes of a schedule.
use Rattle.std.specs.Prelude.{◌≡◌, ℕ, List}
use Rattle.byte_ports.specs.Ending.{IsFrontOfOne}
use Rattle.spec_core.specs.Specification.{Specification}
use Rattle.simulate_text.specs.Recorded.{simulated_status, simulated_text}

-- The text of the simulation, or of the refusal of the schedule, and its status.
pub record IsSimulated (d : Specification) (bytes : List ℕ) (status : ℕ)
    (text : List ℕ) : Type 0 where
  pub status_is : status ≡ simulated_status d bytes
  pub text_is : text ≡ simulated_text d bytes

-- what is left of a simulation that is stopped
abbrev pub IsSimulationFront : Specification → List ℕ → List ℕ → Type 0
IsSimulationFront d bytes front = IsFrontOfOne (IsSimulated d bytes) front
