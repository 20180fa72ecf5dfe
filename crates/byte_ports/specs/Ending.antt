-- How the writing of a text ends.
use Rattle.std.specs.Prelude.{◌≡◌, ◌⊎◌, ℕ, ◌<◌, List, take, Option}
use Rattle.std.specs.Io.KnownBytes.{Keeps, Appends}
use Rattle.byte_ports.specs.Faults.{IsFault}
use Rattle.byte_ports.specs.Ports.{Port}

-- this status and this text
abbrev pub IsOne : ℕ → List ℕ → ℕ → List ℕ → Type 0
IsOne status text s t = (s ≡ status) × (t ≡ text)

-- the first bytes of a text
abbrev pub IsFrontOf : List ℕ → List ℕ → Type 0
IsFrontOf text front = (n : ℕ) × (front ≡ take n text)

-- the first bytes of an answer's text
abbrev pub IsFrontOfOne : (ℕ → List ℕ → Type 0) → List ℕ → Type 0
IsFrontOfOne Whole front = (status : ℕ) × (text : List ℕ) × Whole status text × IsFrontOf text front

-- nothing was written, or a front
abbrev pub IsBroken : (List ℕ → Type 0) → Option (List ℕ) → Option (List ℕ) → Type 0
IsBroken Front held_before held_after =
    Keeps held_before held_after
    ⊎ ((front : List ℕ) × Front front × Appends held_before held_after front)

-- How it ends where an answer is a status with a whole text, and what may be left of one is its front: by the port of the sink before
-- and after. With a status below 6 the whole text was written. With 7 the sink has failed, and with 7 and 8 nothing or a front was
-- written. With 6 a source has failed.
pub record Ends (Whole : ℕ → List ℕ → Type 0) (Front : List ℕ → Type 0) (status : ℕ)
    (before after : Port) : Type 0 where
  pub answered : status < 6
      → (text : List ℕ) × Whole status text × Appends before.held after.held text
  pub write_fault : status ≡ 7 → IsFault before.faults after.faults
  pub front : 6 < status → IsBroken Front before.held after.held
  pub known : status < 9

-- a run ends so, where what is left of a stopped one is the front of such an answer
abbrev pub EndsIn : (ℕ → List ℕ → Type 0) → ℕ → Port → Port → Type 0
EndsIn Whole status before after = Ends Whole (IsFrontOfOne Whole) status before after
