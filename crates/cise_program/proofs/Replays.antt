-- What a schedule comes to in a replay.
use Rattle.std.proofs.Common.{◌≡◌, ℕ, ◌<◌, Bool, true, false, List, length, refl, arith}
use Rattle.std.specs.Prelude.{nat_le, if◌then◌else◌, Ok}
use Rattle.std.proofs.lemmas.Bool.Decides.{nat_tests}
use Rattle.spec_core.specs.Specification.{Specification}
use Rattle.schedule_json.specs.Checks.{Checked}
use Rattle.schedule_json.specs.declared.schedule.Schedule.{Schedule}
use Rattle.schedule_json.specs.Schedules.{schedule_from}
use Rattle.schedule_json.specs.Texts.{most_schedule_bytes, long_text}
use Rattle.replay_text.specs.declared.stop.Stop.{Stop}
use Rattle.replay_text.specs.declared.stop.Stop.TheVariants as stop
use Rattle.replay_text.specs.Text.{status_of}
use Rattle.replay_text.specs.Course.{course}
use Rattle.replay_text.specs.Recorded.{status_read, schedule_status}
use Rattle.cise_program.specs.commands.Replay.{IsReplayed}

pub too_many : (n : ℕ) → most_schedule_bytes < n → nat_le n most_schedule_bytes ≡ false
too_many n h = grind (arith, nat_tests)

-- the answer to too many bytes
pub long_replayed : (d : Specification) (bytes : List ℕ) → most_schedule_bytes < length bytes → IsReplayed d bytes 4 long_text
long_replayed d bytes h = let long = too_many (length bytes) h in record { status_is = rw long refl; text_is = rw long refl }

low_stop : (s : Stop) → status_of s < 5
low_stop stop.Done = omega arith
low_stop (stop.Broken place) = omega arith
low_stop (stop.Refused why) = omega arith

low_read : (d : Specification) (r : Checked Schedule) → status_read d r < 5
low_read d (Ok s) = low_stop (course d s.world s.replicas s.steps).stop
low_read d _ = omega arith

pub low_choice : (b : Bool) (n : ℕ) → n < 5 → (if b then n else 4) < 5
low_choice true n h = h
low_choice false n h = omega arith

-- every status of a replay is below 5
pub low_status : (d : Specification) (bytes : List ℕ) → schedule_status d bytes < 5
low_status d bytes = low_choice (nat_le (length bytes) most_schedule_bytes) _ (low_read d (schedule_from d bytes))

pub low_replayed : (d : Specification) (bytes : List ℕ) (status : ℕ) (text : List ℕ) → IsReplayed d bytes status text → status < 5
low_replayed d bytes status text r = let e = r.status_is in rw e (low_status d bytes)
