-- What `replay` answers for a specification and the bytes of a schedule.
use Rattle.std.specs.Prelude.{◌≡◌, ℕ, List}
use Rattle.byte_ports.specs.Ending.{IsFrontOfOne}
use Rattle.spec_core.specs.Specification.{Specification}
use Rattle.replay_text.specs.Recorded.{schedule_status, schedule_text}

-- The text of the replay, or of the refusal of the schedule, and its status.
pub record IsReplayed (d : Specification) (bytes : List ℕ) (status : ℕ)
    (text : List ℕ) : Type 0 where
  pub status_is : status ≡ schedule_status d bytes
  pub text_is : text ≡ schedule_text d bytes

-- what is left of a replay that is stopped
abbrev pub IsReplayFront : Specification → List ℕ → List ℕ → Type 0
IsReplayFront d bytes front = IsFrontOfOne (IsReplayed d bytes) front
