-- Which schedule some bytes are, and the first check that fails.
use Rattle.std.specs.Prelude.{ℕ, ℤ, pos, negsuc, ◌&&◌, List, [], ◌∷◌, nat_le, if◌then◌else◌, Option, None, Some, option_and_then, Result, Ok, Err, codes}
use Rattle.std.specs.Str.{is_utf8}
use Rattle.serde_json.specs.Data.{Data}
use Rattle.serde_json.specs.Read.{read}
use Rattle.serde_json.specs.Find.{get}
use Rattle.spec_core.specs.Specification.{Specification}
use Rattle.schedule_json.specs.declared.schedule.Schedule.{Schedule}
use Rattle.schedule_json.specs.declared.refusal.Path.TheVariants as path
use Rattle.schedule_json.specs.declared.refusal.Fault.{Fault}
use Rattle.schedule_json.specs.declared.refusal.Fault.TheVariants as fault
use Rattle.schedule_json.specs.declared.refusal.ScheduleRefused.TheVariants as refused
use Rattle.schedule_json.specs.Parts.{whole, has_exactly}
use Rattle.schedule_json.specs.Checks.{Checked, located, need, with_some, and_then}
use Rattle.schedule_json.specs.Worlds.{world_of}
use Rattle.schedule_json.specs.Recorded.{steps_of}

-- the JSON value of some bytes, which are text in UTF-8
abbrev pub value_of : List ℕ → Option Data
value_of bytes = if is_utf8 bytes then read bytes else None

-- how many replicas a schedule has at most
abbrev pub most_replicas : ℕ
most_replicas = 16

-- a number of replicas: none is a fault of shape, one out of range a fault of size
abbrev pub count_of : Option ℤ → Result ℕ Fault
count_of None = Err fault.Shape
count_of (Some (pos n)) = if nat_le 1 n && nat_le n most_replicas then Ok n else Err fault.Size
count_of (Some (negsuc n)) = Err fault.Size

-- the number of replicas: a whole number from 1 to 16
abbrev pub replicas_of : Option Data → Checked ℕ
replicas_of v = located path.Replicas (count_of (option_and_then whole v))

-- the keys of a schedule
abbrev pub schedule_keys : List (List ℕ)
schedule_keys = codes "sizes" ∷ codes "constants" ∷ codes "replicas" ∷ codes "steps" ∷ []

-- The schedule that a value is: an object with exactly these keys; its world, its replicas and its steps are checked in this
-- order.
abbrev pub schedule_of : Specification → Data → Checked Schedule
schedule_of d v =
    need (has_exactly schedule_keys v) (refused.Shape path.Top)
    (and_then (world_of d v)
    (λ world. and_then (replicas_of (get (codes "replicas") v))
    (λ replicas. and_then (steps_of (get (codes "steps") v))
    (λ steps. Ok (record { world = world; replicas = replicas; steps = steps })))))

-- The schedule that some bytes are, or the first check that fails.
abbrev pub schedule_from : Specification → List ℕ → Checked Schedule
schedule_from d bytes = with_some (value_of bytes) refused.Json (schedule_of d)
