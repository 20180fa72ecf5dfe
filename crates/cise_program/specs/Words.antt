-- Which words the program accepts, what they ask for, and which inputs are read for it.
use Rattle.std.specs.Prelude.{◌≡◌, ◌⊎◌, ℕ, Bool, true, false, ◌&&◌, nat_le, if◌then◌else◌, List, [], ◌∷◌, map, Option, None, Some, codes, String, string_bytes}
use Rattle.std.specs.Str.{bytes_eq}
use Rattle.byte_ports.specs.Faults.{IsFault}
use Rattle.byte_ports.specs.Told.{IsReadWithin}
use Rattle.word_cut.specs.Whole.{size_read}
use Rattle.report_lines.specs.Heads.{most_budget}
use Rattle.report_verifier.specs.Verified.{most_report_bytes}
use Rattle.schedule_json.specs.Texts.{most_schedule_bytes}
use Rattle.cise_program.specs.Outside.{Told, Failures}
use Rattle.cise_program.specs.declared.words.Task.{Task}
use Rattle.cise_program.specs.declared.words.Task.TheVariants.{Check, Verify, Upgrade, Replay, Simulate, Suggest, Spell}
use Rattle.cise_program.specs.declared.words.Job.{Job}
use Rattle.cise_program.specs.declared.words.Job.TheVariants.{OfSpec, Sample}

-- ---- numbers

-- the budget where the words name none
abbrev pub default_budget : ℕ
default_budget = 10000

-- the greatest sample
abbrev pub most_sample : ℕ
most_sample = 12

-- a number is 1 to a greatest one
abbrev pub is_within : ℕ → ℕ → Bool
is_within most n = nat_le 1 n && nat_le n most

-- a number, where it is one from 1 to a greatest one
abbrev pub within : ℕ → Option ℕ → Option ℕ
within most None = None
within most (Some n) = if is_within most n then Some n else None

-- the number from 1 to a greatest one that a word spells, in decimal without a leading 0; none where it spells no such number
abbrev pub number_in : ℕ → List ℕ → Option ℕ
number_in most word = within most (size_read word)

-- ---- jobs

-- a check with this budget, where there is one
abbrev pub check_within : Option ℕ → Option Job
check_within None = None
check_within (Some budget) = Some (OfSpec (Check budget))

-- a sample of this number, where there is one
abbrev pub sample_of : Option ℕ → Option Job
sample_of None = None
sample_of (Some n) = Some (Sample n)

-- the job of a command and one word more
abbrev pub job_of_two : List ℕ → List ℕ → Option Job
job_of_two command word =
    if bytes_eq command (codes "check") then Some (OfSpec (Check default_budget))
    else (if bytes_eq command (codes "suggest") then Some (OfSpec Suggest)
    else (if bytes_eq command (codes "spell") then Some (OfSpec Spell)
    else (if bytes_eq command (codes "sample")
    then sample_of (number_in most_sample word) else None)))

-- the job of a command with two inputs
abbrev pub job_of_three : List ℕ → Option Job
job_of_three command =
    if bytes_eq command (codes "verify") then Some (OfSpec Verify)
    else (if bytes_eq command (codes "upgrade") then Some (OfSpec Upgrade)
    else (if bytes_eq command (codes "replay") then Some (OfSpec Replay)
    else (if bytes_eq command (codes "simulate") then Some (OfSpec Simulate) else None)))

-- the job of a command with an input, an option and a number
abbrev pub job_of_four : List ℕ → List ℕ → List ℕ → Option Job
job_of_four command option word =
    if bytes_eq command (codes "check") then
    (if bytes_eq option (codes "--budget") then check_within (number_in most_budget word) else None)
    else None

-- The job that the words ask for; none where they aren't accepted. The accepted words are `check SPEC`, `check SPEC --budget N` with N
-- from 1 to 1,000,000, `verify SPEC REPORT`, `upgrade SPEC REPORT`, `replay SPEC SCHEDULE`, `simulate SPEC SCHEDULE`, `suggest SPEC`,
-- `spell SPEC` and `sample N` with N from 1 to 12; SPEC, REPORT and SCHEDULE are any texts.
abbrev pub job_of : List (List ℕ) → Option Job
job_of [] = None
job_of (command ∷ []) = None
job_of (command ∷ word ∷ []) = job_of_two command word
job_of (command ∷ path ∷ other ∷ []) = job_of_three command
job_of (command ∷ path ∷ option ∷ word ∷ []) = job_of_four command option word
job_of (command ∷ path ∷ option ∷ word ∷ more ∷ words) = None

-- What the words behind the program's name ask for: a job, or nothing that is known.
abbrev pub asked : {A : Type 0} → List (String A) → Option Job
asked words = job_of (map string_bytes words)

-- the number in a task is within its limits
abbrev pub is_task : Task → Bool
is_task (Check budget) = is_within most_budget budget
is_task _ = true

-- The number in a job is within its limits.
abbrev pub is_job : Job → Bool
is_job (OfSpec task) = is_task task
is_job (Sample n) = is_within most_sample n

-- ---- inputs

-- the second input is read for a task
abbrev pub takes_extra : Task → Bool
takes_extra Verify = true
takes_extra Upgrade = true
takes_extra Replay = true
takes_extra Simulate = true
takes_extra _ = false

-- Whether the specification's input is read for a job; where the words aren't accepted, it isn't.
abbrev pub reads_spec : Option Job → Bool
reads_spec (Some (OfSpec task)) = true
reads_spec _ = false

-- Whether the second input is read for a job; where the words aren't accepted, it isn't.
abbrev pub reads_extra : Option Job → Bool
reads_extra (Some (OfSpec task)) = takes_extra task
reads_extra _ = false

-- the most bytes that are read of the first input: 64 KiB
abbrev pub most_specification_bytes : ℕ
most_specification_bytes = 65536

-- the most bytes that are read of the second input: 64 MiB of a report, 16 MiB of a schedule
abbrev pub most_extra_bytes : Task → ℕ
most_extra_bytes Verify = most_report_bytes
most_extra_bytes Upgrade = most_report_bytes
most_extra_bytes Replay = most_schedule_bytes
most_extra_bytes Simulate = most_schedule_bytes
most_extra_bytes _ = 0

-- The inputs that are read for the job were read to their ends, by what they had left before and after, where there were at most so many
-- bytes: the first one, and the second one too, unless the specification is refused.
abbrev pub AreRead : Option Job → ℕ → Told → Told → Type 0
AreRead (Some (OfSpec task)) status before after =
    IsReadWithin most_specification_bytes before.spec after.spec
    × (takes_extra task ≡ true → (status ≡ 3 → ⊥)
    → IsReadWithin (most_extra_bytes task) before.extra after.extra)
AreRead _ status before after = Unit {0}

-- An input that is read for the job has failed, by how often both had before and after.
abbrev pub IsInputFault : Option Job → Failures → Failures → Type 0
IsInputFault job before after =
    ((reads_spec job ≡ true) × IsFault before.spec after.spec)
    ⊎ ((reads_extra job ≡ true) × IsFault before.extra after.extra)

-- ---- what the words ask for

-- a task judges a specification: a check of it, and the verification or the upgrade of a report on it
abbrev pub is_judging : Task → Bool
is_judging (Check budget) = true
is_judging Verify = true
is_judging Upgrade = true
is_judging _ = false

-- the words ask for a verdict on a specification
abbrev pub judges : Option Job → Bool
judges (Some (OfSpec task)) = is_judging task
judges _ = false

-- a task writes a report: a check, and an upgrade
abbrev pub is_reporting : Task → Bool
is_reporting (Check budget) = true
is_reporting Upgrade = true
is_reporting _ = false

-- the words ask for a report that is written
abbrev pub writes_report : Option Job → Bool
writes_report (Some (OfSpec task)) = is_reporting task
writes_report _ = false
