-- What the program answers: which status and which text belong to its words and to the bytes of its inputs.
use Rattle.std.specs.Prelude.{◌⊎◌, ◌≡◌, ℕ, ◌<◌, List, [], ◌∷◌, Option, None, Some, codes}
use Rattle.std.specs.Io.KnownBytes.{Appends}
use Rattle.byte_ports.specs.Ports.{Port}
use Rattle.byte_ports.specs.Told.{Tells}
use Rattle.byte_ports.specs.Ending.{IsOne, IsFrontOf, IsBroken, Ends}
use Rattle.spec_core.specs.Specification.{Specification}
use Rattle.spec_trees.specs.Form.{TreeForm}
use Rattle.report_lines.specs.declared.head.Tally.{Tally}
use Rattle.spec_from_bytes.specs.Lines.{line}
use Rattle.spec_from_bytes.specs.Refusal.{IsReadAs, Refusal, IsRefusal, refusal_text}
use Rattle.cise_program.specs.Outside.{Told, Held}
use Rattle.cise_program.specs.declared.words.Task.{Task}
use Rattle.cise_program.specs.declared.words.Task.TheVariants.{Check, Verify, Upgrade, Replay, Simulate, Suggest, Spell}
use Rattle.cise_program.specs.declared.words.Job.{Job}
use Rattle.cise_program.specs.declared.words.Job.TheVariants.{OfSpec, Sample}
use Rattle.cise_program.specs.commands.Check.{IsReport, IsReportFront}
use Rattle.cise_program.specs.commands.Verify.{IsVerdict, IsVerdictFront}
use Rattle.cise_program.specs.commands.Upgrade.{IsUpgraded, IsUpgradeFront}
use Rattle.cise_program.specs.commands.Replay.{IsReplayed, IsReplayFront}
use Rattle.cise_program.specs.commands.Simulate.{IsSimulated, IsSimulationFront}
use Rattle.cise_program.specs.commands.Suggest.{IsSuggested, IsSuggestionFront}
use Rattle.cise_program.specs.commands.Spell.{IsSpelled, IsSpellFront}
use Rattle.cise_program.specs.commands.Sample.{sample_text, IsSampled, IsSampleFront}

-- ---- the tasks

-- The outcome of a task: the status and the text that its command answers for a specification and its tree, and for the bytes of the
-- second input.
abbrev pub IsOutcome : Task → TreeForm → Specification → List ℕ → ℕ → List ℕ → Type 0
IsOutcome (Check budget) tree d more status text = IsReport budget d status text
IsOutcome Verify tree d more status text = IsVerdict d more status text
IsOutcome Upgrade tree d more status text = IsUpgraded d more status text
IsOutcome Replay tree d more status text = IsReplayed d more status text
IsOutcome Simulate tree d more status text = IsSimulated d more status text
IsOutcome Suggest tree d more status text = IsSuggested d status text
IsOutcome Spell tree d more status text = IsSpelled tree status text

-- what is left of it where it is stopped
abbrev pub IsOutcomeFront : Task → TreeForm → Specification → List ℕ → List ℕ → Type 0
IsOutcomeFront (Check budget) tree d more front = IsReportFront budget d front
IsOutcomeFront Verify tree d more front = IsVerdictFront d more front
IsOutcomeFront Upgrade tree d more front = IsUpgradeFront d more front
IsOutcomeFront Replay tree d more front = IsReplayFront d more front
IsOutcomeFront Simulate tree d more front = IsSimulationFront d more front
IsOutcomeFront Suggest tree d more front = IsSuggestionFront d front
IsOutcomeFront Spell tree d more front = IsSpellFront tree front

-- ---- the specification

-- The bytes of the specification are refused, and so they say; or they are read, and what is said of the specification that they are and
-- of its tree holds.
abbrev pub ByReading : (Refusal → Type 0) → (TreeForm → Specification → Type 0) → List ℕ → Type 0
ByReading Refused Read bytes =
    ((why : Refusal) × IsRefusal bytes why × Refused why)
    ⊎ ((tree : TreeForm) × (d : Specification) × IsReadAs bytes tree d × Read tree d)

-- The answer to a task is the refusal of its specification, with status 3; or, with the specification that the bytes are read as, the
-- outcome of the task.
abbrev pub IsAnswerOf : Task → List ℕ → List ℕ → ℕ → List ℕ → Type 0
IsAnswerOf task bytes more status text =
    ByReading (λ why. IsOne 3 (refusal_text why) status text)
    (λ tree d. IsOutcome task tree d more status text) bytes

-- what is left of it where it is stopped
abbrev pub IsFrontOfAnswer : Task → List ℕ → List ℕ → List ℕ → Type 0
IsFrontOfAnswer task bytes more front =
    ByReading (λ why. IsFrontOf (refusal_text why) front)
    (λ tree d. IsOutcomeFront task tree d more front) bytes

-- ---- the second input

-- It ends so, with the bytes that the second source tells, where it tells them.
abbrev pub EndsWith : Option (List ℕ) → (List ℕ → ℕ → List ℕ → Type 0) → (List ℕ → List ℕ → Type 0)
    → ℕ → Port → Port → Type 0
EndsWith told Whole Front status before after =
    (more : List ℕ) × Tells told more × Ends (Whole more) (Front more) status before after

-- ---- the words

-- the line by which words are refused
abbrev pub words_text : List ℕ
words_text = line (codes "refused" ∷ codes "words" ∷ [])

-- ---- the program

-- The answer to what the words ask for, from the bytes that the two sources give, where they give them, that of the specification first.
-- Words that aren't accepted are refused, with status 2. A sample reads neither source.
abbrev pub IsAnswer : Option Job → Option (List ℕ) → Option (List ℕ) → ℕ → List ℕ → Type 0
IsAnswer None spec extra status text = IsOne 2 words_text status text
IsAnswer (Some (Sample n)) spec extra status text = IsSampled n status text
IsAnswer (Some (OfSpec task)) spec extra status text =
    (bytes : List ℕ) × (more : List ℕ) × Tells spec bytes × Tells extra more
    × IsAnswerOf task bytes more status text

-- what is left of the answer where it is stopped
abbrev pub IsAnswerFront : Option Job → Option (List ℕ) → Option (List ℕ) → List ℕ → Type 0
IsAnswerFront None spec extra front = IsFrontOf words_text front
IsAnswerFront (Some (Sample n)) spec extra front = IsSampleFront n front
IsAnswerFront (Some (OfSpec task)) spec extra front =
    (bytes : List ℕ) × (more : List ℕ) × Tells spec bytes × Tells extra more
    × IsFrontOfAnswer task bytes more front

-- the whole text of the answer was written
abbrev pub IsAnswered : Option Job → Told → ℕ → Held → Type 0
IsAnswered job told status held =
    (text : List ℕ) × IsAnswer job told.spec told.extra status text
    × Appends held.before held.after text

-- nothing was written, or what is left of an answer that is stopped
abbrev pub IsStopped : Option Job → Told → Held → Type 0
IsStopped job told held =
    IsBroken (IsAnswerFront job told.spec told.extra) held.before held.after

-- ---- two answers

-- Two answers to one task agree: they are the same, or both are reports of one specification, with one budget, or suggestions for one.
-- Verdicts, witnesses and logs are free.
abbrev pub AgreeOf : Task → ℕ → List ℕ → ℕ → List ℕ → Type 0
AgreeOf (Check budget) status text other_status other_text =
    IsOne status text other_status other_text
    ⊎ ((d : Specification) × IsReport budget d status text
    × IsReport budget d other_status other_text)
AgreeOf Suggest status text other_status other_text =
    IsOne status text other_status other_text
    ⊎ ((d : Specification) × IsSuggested d status text × IsSuggested d other_status other_text)
AgreeOf _ status text other_status other_text = IsOne status text other_status other_text

-- a sample's text counts an undecided verdict
abbrev pub CountsUndecided : ℕ → List ℕ → Type 0
CountsUndecided n text = (tally : Tally) × (0 < tally.undecided) × (text ≡ sample_text n tally)

-- So do two answers to the same words: they are the same, or both count verdicts on the same sample, some of them undecided.
abbrev pub Agree : Option Job → ℕ → List ℕ → ℕ → List ℕ → Type 0
Agree None status text other_status other_text = IsOne status text other_status other_text
Agree (Some (OfSpec task)) status text other_status other_text =
    AgreeOf task status text other_status other_text
Agree (Some (Sample n)) status text other_status other_text =
    IsSampled n status text × IsSampled n other_status other_text
    × (IsOne status text other_status other_text ⊎ (CountsUndecided n text
    ⊎ CountsUndecided n other_text))
