-- What status 0 of a check, or of a report that is verified or upgraded, says, what a refutation says, what a replay or a simulation of a safe
-- specification keeps, how a written report is verified, what a suggestion says, what a refutation says in a report or a suggestion that was
-- stopped, for what bytes are refused, and which statuses may come at all.
use Rattle.std.specs.Prelude.{◌≡◌, ◌⊎◌, ℕ, ◌≤◌, length, Bool, true, ◌||◌, ◌==◌, List, ◌∷◌, Option, None, Some, IfSome, Ok, slice_get, codes}
use Rattle.std.specs.Io.KnownBytes.{Appends}
use Rattle.byte_ports.specs.Ending.{IsFrontOf, IsBroken}
use Rattle.spec_core.specs.Specification.{Specification}
use Rattle.spec_core.specs.State.{Listing, reads}
use Rattle.spec_trees.specs.Form.{TreeForm}
use Rattle.obligation_list.specs.declared.obligation.Obligation.{Obligation}
use Rattle.obligation_list.specs.Breaking.{Breaks, Safe}
use Rattle.executions.specs.Convergence.{Converges}
use Rattle.proof_report.specs.declared.place.PartialWitness.{PartialWitness}
use Rattle.proof_report.specs.declared.verdict.Verdict.{Verdict}
use Rattle.proof_report.specs.Verdicts.{VerdictForm, refuted, obligation_at, ReportForm}
use Rattle.report_reader.specs.Reader.{reads_of}
use Rattle.typing_rules.specs.Fault.{Fault}
use Rattle.typing_rules.specs.FaultRules.{IsLeastFault}
use Rattle.spec_from_bytes.specs.Lines.{line}
use Rattle.spec_from_bytes.specs.Refusal.{IsTreeOf, IsSpecificationOf, Refusal, faulty, IsRefusal, refusal_text}
use Rattle.schedule_json.specs.declared.schedule.Schedule.{Schedule}
use Rattle.schedule_json.specs.Schedules.{schedule_from}
use Rattle.replay_text.specs.Course.{course}
use Rattle.replay_text.specs.Safely.{PrintAlike}
use Rattle.simulate_text.specs.Course.{course as simulated}
use Rattle.simulate_text.specs.Safely.{PrintAlike as SimulatedAlike}
use Rattle.check_run.specs.Shown.{listing_of}
use Rattle.check_run.specs.Reports.{forms_of, opening_text}
use Rattle.report_verifier.specs.Verified.{most_report_bytes, AreBytesOf}
use Rattle.suggest.specs.declared.answer.PairAnswer.{PairAnswer}
use Rattle.suggest.specs.Pairs.{IsEnough}
use Rattle.suggest.specs.Answers.{is_needed}
use Rattle.suggest.specs.Texts.{suggest_text, opening_text as suggestion_opening}
use Rattle.suggest.specs.Theorem.{AreShownToBreak, IsRight as SaysRightly}
use Rattle.cise_program.specs.Outside.{Told, Held}
use Rattle.cise_program.specs.declared.words.Task.{Task}
use Rattle.cise_program.specs.declared.words.Task.TheVariants.{Check, Verify, Upgrade, Replay, Simulate, Suggest, Spell}
use Rattle.cise_program.specs.declared.words.Job.{Job}
use Rattle.cise_program.specs.declared.words.Job.TheVariants.{OfSpec, Sample}
use Rattle.cise_program.specs.Answer.{IsAnswerOf}

-- ---- status 0

-- The bytes are a specification, which is safe: nothing breaks any of its obligations. And it converges: in every world and every
-- execution, replicas that took the same events are in one state, in whichever orders they took them, and it satisfies every invariant.
pub record IsProved (bytes : List ℕ) : Type 0 where
  pub specification : Specification
  pub read : IsSpecificationOf bytes specification
  pub only : (d : Specification) → IsSpecificationOf bytes d → d ≡ specification
  pub safe : Safe specification
  pub converges : Converges specification

-- ---- refutations

-- A state is the one that is shown: it lists what is shown and nothing else, or it reads so.
abbrev pub IsShown : Specification → PartialWitness → Listing → Type 0
IsShown d p s = (s ≡ listing_of d p) ⊎ (reads s ≡ reads_of p)

-- A refutation of an obligation is right: the calls that it shows break the obligation in its world and its state, at its elements.
pub record IsRight (d : Specification) (ob : Obligation) (p : PartialWitness)
    (es : List ℕ) : Type 0 where
  pub state : Listing
  pub shown : IsShown d p state
  pub breaks : Breaks d ob p.world state p.calls es

-- Each refutation among verdicts on the first obligations is right.
abbrev pub AreRight : Specification → List VerdictForm → Type 0
AreRight d verdicts =
    (i : ℕ) (p : PartialWitness) (es : List ℕ) → slice_get verdicts i ≡ Some (refuted p es)
    → IsRight d (obligation_at d i) p es

-- Some bytes are a specification, and others those of a report on it, in which each refutation is right.
pub record IsRefutedRightly (bytes report : List ℕ) : Type 0 where
  pub specification : Specification
  pub read : IsSpecificationOf bytes specification
  pub verdicts : ReportForm
  pub written : AreBytesOf specification report verdicts
  pub right : AreRight specification verdicts.verdicts

-- What was written is a report in which each refutation is right, on the specification that the first source told.
abbrev pub WritesRightly : Option (List ℕ) → Held → Type 0
WritesRightly spec held =
    IfSome spec
    (λ bytes. (text : List ℕ) × Appends held.before held.after text × IsRefutedRightly bytes text)

-- What the second source told is such a report.
abbrev pub VerifiesRightly : Told → Type 0
VerifiesRightly told =
    IfSome told.spec (λ bytes. IfSome told.extra (λ report. IsRefutedRightly bytes report))

-- where a task judges a specification, each refutation that it writes or verifies is right
abbrev pub RefutesOf : Task → Told → Held → Type 0
RefutesOf (Check budget) told held = WritesRightly told.spec held
RefutesOf Verify told held = VerifiesRightly told
RefutesOf Upgrade told held = VerifiesRightly told × WritesRightly told.spec held
RefutesOf _ told held = Unit {0}

-- Where the words ask for a verdict on a specification, each refutation that is written or verified is right.
abbrev pub Refutes : Option Job → Told → Held → Type 0
Refutes (Some (OfSpec task)) told held = RefutesOf task told held
Refutes _ told held = Unit {0}

-- ---- replays

-- Where the bytes are a safe specification, no replay of it ends with status 1. And in the replay of the schedule that the second source
-- tells, replicas that have taken the same events print the same lines of their states.
pub record IsReplayedSafely (bytes : List ℕ) (told : Option (List ℕ)) (status : ℕ) : Type 0 where
  pub unbroken : (d : Specification) → IsSpecificationOf bytes d → Safe d → status ≡ 1 → ⊥
  pub alike : (d : Specification) (more : List ℕ) (s : Schedule) → IsSpecificationOf bytes d
      → Safe d → told ≡ Some more → schedule_from d more ≡ Ok s
      → PrintAlike d s.world (course d s.world s.replicas s.steps)

-- ---- reports verified anew

-- Each verification of a text as a report on the specification that some bytes are ends with this status, where it has at most 64 MiB.
abbrev pub IsVerifiedAs : List ℕ → List ℕ → ℕ → Type 0
IsVerifiedAs bytes text status =
    length text ≤ most_report_bytes → (other : ℕ) (said : List ℕ)
    → IsAnswerOf Verify bytes text other said → other ≡ status

-- So does each verification of what was written, on the specification that the first source told.
abbrev pub VerifiesAlike : Option (List ℕ) → ℕ → Held → Type 0
VerifiesAlike spec status held =
    IfSome spec
    (λ bytes. (text : List ℕ) × Appends held.before held.after text
    × IsVerifiedAs bytes text status)

-- ---- simulations

-- Where the bytes are a safe specification, no simulation of it ends with status 1. And in the simulation of the schedule that the second
-- source tells, replicas that have taken the same events print the same lines of their states.
pub record IsSimulatedSafely (bytes : List ℕ) (told : Option (List ℕ)) (status : ℕ) : Type 0 where
  pub unbroken : (d : Specification) → IsSpecificationOf bytes d → Safe d → status ≡ 1 → ⊥
  pub alike : (d : Specification) (more : List ℕ) (s : Schedule) → IsSpecificationOf bytes d
      → Safe d → told ≡ Some more → schedule_from d more ≡ Ok s
      → SimulatedAlike d s.world (simulated d s.world s.replicas s.steps)

-- ---- suggestions

-- Some bytes are a specification, and a text is the suggestion for it, which is right: each block under `needed` breaks its obligation
-- where nothing conflicts, so each set of pairs that is enough contains all needed pairs; and with status 0 the needed pairs are enough.
pub record IsSuggestedRightly (bytes text : List ℕ) (status : ℕ) : Type 0 where
  pub specification : Specification
  pub read : IsSpecificationOf bytes specification
  pub answers : List PairAnswer
  pub written : text ≡ suggest_text specification answers
  pub right : SaysRightly specification answers
  pub enough : status ≡ 0 → IsEnough specification (is_needed answers)

-- What was written is such a suggestion, for the specification that the first source told.
abbrev pub SuggestsRightly : Option (List ℕ) → ℕ → Held → Type 0
SuggestsRightly spec status held =
    IfSome spec
    (λ bytes. (text : List ℕ) × Appends held.before held.after text
    × IsSuggestedRightly bytes text status)

-- ---- stopped reports

-- Some bytes are a specification, and others a front of the head and the first blocks of a report on it, in which each refutation is right.
pub record IsOpenedRightly (bytes front : List ℕ) : Type 0 where
  pub specification : Specification
  pub read : IsSpecificationOf bytes specification
  pub budget : ℕ
  pub verdicts : List Verdict
  pub written : IsFrontOf (opening_text specification budget verdicts) front
  pub right : AreRight specification (forms_of specification verdicts)

-- a line that begins with the word `refused`
abbrev pub IsRefusalLine : List ℕ → Type 0
IsRefusalLine text = (words : List (List ℕ)) × (text ≡ line (codes "refused" ∷ words))

-- What a stopped check or upgrade may leave: a front of a refusal; of a report in which each refutation is right; or of the head and the
-- first blocks of one, in which each is right too. So each whole block of a refutation that was written is right.
abbrev pub IsRightFront : List ℕ → List ℕ → Type 0
IsRightFront bytes front =
    ((text : List ℕ) × IsRefusalLine text × IsFrontOf text front)
    ⊎ (((report : List ℕ) × IsRefutedRightly bytes report × IsFrontOf report front)
    ⊎ IsOpenedRightly bytes front)

-- ---- stopped suggestions

-- Some bytes are a specification, and others a front of the head of a suggestion for it and of answers for its first pairs, in which each
-- refutation is right.
pub record IsSuggestedSoFar (bytes front : List ℕ) : Type 0 where
  pub specification : Specification
  pub read : IsSpecificationOf bytes specification
  pub answers : List PairAnswer
  pub written : IsFrontOf (suggestion_opening specification answers) front
  pub right : AreShownToBreak specification answers

-- What a stopped suggestion may leave: a front of a refusal; of a suggestion that is right; or of the head and the first answers of one, in
-- which each refutation is right too. So each whole block under `needed` or `notby` that was written breaks its obligation.
abbrev pub IsRightSuggestionFront : List ℕ → List ℕ → Type 0
IsRightSuggestionFront bytes front =
    ((text : List ℕ) × IsRefusalLine text × IsFrontOf text front)
    ⊎ (((status : ℕ) × (text : List ℕ) × IsSuggestedRightly bytes text status
    × IsFrontOf text front)
    ⊎ IsSuggestedSoFar bytes front)

-- ---- stopped runs

-- Nothing was written, or such a front, for the specification that the first source told.
abbrev pub LeavesRightly : (List ℕ → List ℕ → Type 0) → Option (List ℕ) → Held → Type 0
LeavesRightly IsRightlyLeft spec held =
    IfSome spec (λ bytes. IsBroken (IsRightlyLeft bytes) held.before held.after)

-- where a task writes refutations, each that was written before it was stopped is right
abbrev pub StopsOf : Task → Option (List ℕ) → Held → Type 0
StopsOf (Check budget) spec held = LeavesRightly IsRightFront spec held
StopsOf Upgrade spec held = LeavesRightly IsRightFront spec held
StopsOf Suggest spec held = LeavesRightly IsRightSuggestionFront spec held
StopsOf _ spec held = Unit {0}

-- Where the words ask for a report or a suggestion, each refutation that was written before the run was stopped is right.
abbrev pub StopsRightly : Option Job → Option (List ℕ) → Held → Type 0
StopsRightly (Some (OfSpec task)) spec held = StopsOf task spec held
StopsRightly _ spec held = Unit {0}

-- ---- refused specifications

-- Where some bytes are refused for a fault of their tree, it is the least one: no rule finds another at an earlier word, or at the same word
-- and earlier in the order unknown, twice, kind, count, limit.
abbrev pub IsLeastOf : List ℕ → Refusal → Type 0
IsLeastOf bytes why =
    (f : Fault) → why ≡ faulty f → (t : TreeForm) × IsTreeOf bytes t × IsLeastFault t f

-- What the first source told is no specification, for one reason, which was written, and so with a fault.
abbrev pub RefusesRightly : Option (List ℕ) → Held → Type 0
RefusesRightly spec held =
    IfSome spec
    (λ bytes. (why : Refusal) × IsRefusal bytes why
    × Appends held.before held.after (refusal_text why) × IsLeastOf bytes why)

-- ---- completeness

-- the status of verdicts: all are proved, one is refuted, or none is and one is undecided
abbrev pub is_outcome : ℕ → Bool
is_outcome status = (status == 0) || (status == 1) || (status == 5)

-- the status where memory ran out
abbrev pub is_memory : ℕ → Bool
is_memory status = status == 8

-- How a task may end where its specification is read: with an outcome, with the refusal of the second input, or for want of memory. There
-- is no other answer.
abbrev pub may_end_of : Task → ℕ → Bool
may_end_of (Check budget) status = is_outcome status || is_memory status
may_end_of Verify status = is_outcome status || ((status == 4) || is_memory status)
may_end_of Upgrade status = is_outcome status || ((status == 4) || is_memory status)
may_end_of Replay status = (status == 0) || ((status == 1) || ((status == 4) || is_memory status))
may_end_of Simulate status = (status == 0) || ((status == 1) || ((status == 4) || is_memory status))
may_end_of Suggest status = (status == 0) || ((status == 5) || is_memory status)
may_end_of Spell status = (status == 0) || is_memory status

-- the first source tells a specification
abbrev pub TellsSpecification : Option (List ℕ) → Type 0
TellsSpecification told =
    (bytes : List ℕ) × (d : Specification) × (told ≡ Some bytes) × IsSpecificationOf bytes d

-- A run ends as its job may, where the specification is told that it reads.
abbrev pub IsComplete : Option Job → Option (List ℕ) → ℕ → Type 0
IsComplete None told status = Unit {0}
IsComplete (Some (OfSpec task)) told status =
    TellsSpecification told → may_end_of task status ≡ true
IsComplete (Some (Sample n)) told status = (is_outcome status || is_memory status) ≡ true
