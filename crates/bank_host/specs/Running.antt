-- Which words the program of the bank accepts, and which status and text are the answer to them.
use Rattle.std.specs.Prelude.{◌≡◌, ℕ, if◌then◌else◌, List, [], ◌∷◌, Option, None, Some, codes}
use Rattle.std.specs.Str.{bytes_eq}
use Rattle.replay_text.specs.Recorded.{schedule_status, schedule_text}
use Rattle.simulate_text.specs.Recorded.{simulated_status, simulated_text}
use Rattle.bank_host.specs.declared.words.Command.{Command}
use Rattle.bank_host.specs.declared.words.Command.TheVariants.{Replay, Simulate}
use Rattle.bank_host.specs.Bank.{bank}

-- the command that a word names
abbrev pub command_named : List ℕ → Option Command
command_named word =
    if bytes_eq word (codes "replay") then Some Replay
    else (if bytes_eq word (codes "simulate") then Some Simulate else None)

-- The command that the words ask for, none where they aren't accepted. The accepted words are `replay SCHEDULE` and `simulate SCHEDULE`;
-- SCHEDULE is any text.
abbrev pub command_of : List (List ℕ) → Option Command
command_of [] = None
command_of (command ∷ []) = None
command_of (command ∷ path ∷ []) = command_named command
command_of (command ∷ path ∷ more ∷ words) = None

-- The status for the bytes of a schedule: that of the command for the bank's specification, and 2 for other words.
abbrev pub answer_status : Option Command → List ℕ → ℕ
answer_status (Some Replay) bytes = schedule_status bank bytes
answer_status (Some Simulate) bytes = simulated_status bank bytes
answer_status None bytes = 2

-- The text for the bytes of a schedule: that of the command for the bank's specification, or the line that refuses other words.
abbrev pub answer_text : Option Command → List ℕ → List ℕ
answer_text (Some Replay) bytes = schedule_text bank bytes
answer_text (Some Simulate) bytes = simulated_text bank bytes
answer_text None bytes = codes "refused words\n"

-- this status and this text are the answer to the bytes of a schedule
pub record IsAnswer (asked : Option Command) (bytes : List ℕ) (status : ℕ)
    (text : List ℕ) : Type 0 where
  pub status_is : status ≡ answer_status asked bytes
  pub text_is : text ≡ answer_text asked bytes
