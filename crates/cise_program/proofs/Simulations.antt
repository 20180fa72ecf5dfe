-- What a schedule comes to in a simulation.
use Rattle.std.proofs.Common.{ℕ, ◌<◌, List, length, refl, arith}
use Rattle.std.specs.Prelude.{nat_le, Ok}
use Rattle.spec_core.specs.Specification.{Specification}
use Rattle.schedule_json.specs.Checks.{Checked}
use Rattle.schedule_json.specs.declared.schedule.Schedule.{Schedule}
use Rattle.schedule_json.specs.Schedules.{schedule_from}
use Rattle.schedule_json.specs.Texts.{most_schedule_bytes, long_text}
use Rattle.simulate_text.specs.declared.said.Stop.{Stop}
use Rattle.simulate_text.specs.declared.said.Stop.TheVariants as stop
use Rattle.simulate_text.specs.Text.{status_of}
use Rattle.simulate_text.specs.Course.{course}
use Rattle.simulate_text.specs.Recorded.{status_read, simulated_status}
use Rattle.cise_program.specs.commands.Simulate.{IsSimulated}
use Rattle.cise_program.proofs.Replays.{too_many, low_choice}

-- the answer to too many bytes
pub long_simulated : (d : Specification) (bytes : List ℕ) → most_schedule_bytes < length bytes → IsSimulated d bytes 4 long_text
long_simulated d bytes h = let long = too_many (length bytes) h in record { status_is = rw long refl; text_is = rw long refl }

low_stop : (s : Stop) → status_of s < 5
low_stop stop.Done = omega arith
low_stop (stop.BrokenFirst place) = omega arith
low_stop (stop.Broken place) = omega arith
low_stop (stop.Refused why) = omega arith

low_read : (d : Specification) (r : Checked Schedule) → status_read d r < 5
low_read d (Ok s) = low_stop (course d s.world s.replicas s.steps).stop
low_read d _ = omega arith

-- every status of a simulation is below 5
pub low_status : (d : Specification) (bytes : List ℕ) → simulated_status d bytes < 5
low_status d bytes = low_choice (nat_le (length bytes) most_schedule_bytes) _ (low_read d (schedule_from d bytes))

pub low_simulated : (d : Specification) (bytes : List ℕ) (status : ℕ) (text : List ℕ) → IsSimulated d bytes status text → status < 5
low_simulated d bytes status text r = let e = r.status_is in rw e (low_status d bytes)
