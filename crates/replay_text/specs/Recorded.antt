-- What the bytes of a schedule come to: a text and a status.
use Rattle.std.specs.Prelude.{ℕ, List, length, nat_le, if◌then◌else◌, Ok, Err}
use Rattle.spec_core.specs.Specification.{Specification}
use Rattle.schedule_json.specs.declared.schedule.Schedule.{Schedule}
use Rattle.schedule_json.specs.Checks.{Checked}
use Rattle.schedule_json.specs.Schedules.{schedule_from}
use Rattle.schedule_json.specs.Texts.{most_schedule_bytes, refusal_text, long_text}
use Rattle.replay_text.specs.Text.{replay_text, replay_status}

-- a schedule that was read is replayed; where there is none, the status is 4
abbrev pub status_read : Specification → Checked Schedule → ℕ
status_read d (Ok s) = replay_status d s.world s.replicas s.steps
status_read d (Err why) = 4

-- a schedule that was read is replayed; where there is none, the refusal is written
abbrev pub text_read : Specification → Checked Schedule → List ℕ
text_read d (Ok s) = replay_text d s.world s.replicas s.steps
text_read d (Err why) = refusal_text why

-- The status that some bytes come to. Too many bytes are refused before they are read.
abbrev pub schedule_status : Specification → List ℕ → ℕ
schedule_status d bytes =
    if nat_le (length bytes) most_schedule_bytes then status_read d (schedule_from d bytes) else 4

-- The text that some bytes come to. Too many bytes are refused before they are read.
abbrev pub schedule_text : Specification → List ℕ → List ℕ
schedule_text d bytes =
    if nat_le (length bytes) most_schedule_bytes then text_read d (schedule_from d bytes)
    else long_text
