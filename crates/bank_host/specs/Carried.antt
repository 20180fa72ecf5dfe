-- What a command comes to for a schedule that was read, or for what was refused as one. This serves the code and its proofs.
use Rattle.std.specs.Prelude.{ℕ, List}
use Rattle.spec_core.specs.Specification.{Specification}
use Rattle.schedule_json.specs.declared.schedule.Schedule.{Schedule}
use Rattle.schedule_json.specs.Checks.{Checked}
use Rattle.replay_text.specs.Recorded as replay
use Rattle.simulate_text.specs.Recorded as simulation
use Rattle.bank_host.specs.declared.words.Command.{Command}
use Rattle.bank_host.specs.declared.words.Command.TheVariants.{Replay, Simulate}

-- the status of a command for a schedule that was read, or for what was refused as one
abbrev pub status_read : Command → Specification → Checked Schedule → ℕ
status_read Replay d read = replay.status_read d read
status_read Simulate d read = simulation.status_read d read

-- the text of a command for a schedule that was read, or for what was refused as one
abbrev pub text_read : Command → Specification → Checked Schedule → List ℕ
text_read Replay d read = replay.text_read d read
text_read Simulate d read = simulation.text_read d read
