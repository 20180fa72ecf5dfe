-- That there is an answer where the specification is read and nothing fails.
use Rattle.std.proofs.Common.{◌≡◌, ◌⊎◌, ℕ, zero, suc, ◌<◌, Bool, true, false, ◌||◌, ◌==◌, List, length, Option, Some, None, Result, refl, sym, subst, ◌∙◌, inl, inr, arith}
use Rattle.std.specs.Prelude.{nat_le, if◌then◌else◌, Ok, Err}
use Rattle.spec_core.specs.Specification.{Specification}
use Rattle.spec_trees.specs.Form.{TreeForm}
use Rattle.spec_from_bytes.specs.Refusal.{IsSpecificationOf}
use Rattle.spec_from_bytes.proofs.Reasons.{refused_or_specified}
use Rattle.schedule_json.specs.Checks.{Checked}
use Rattle.schedule_json.specs.declared.schedule.Schedule.{Schedule}
use Rattle.schedule_json.specs.Schedules.{schedule_from}
use Rattle.schedule_json.specs.Texts.{most_schedule_bytes}
use Rattle.replay_text.specs.declared.stop.Stop.{Stop}
use Rattle.replay_text.specs.declared.stop.Stop.TheVariants as stop
use Rattle.replay_text.specs.Text as replay
use Rattle.replay_text.specs.Course.{course}
use Rattle.replay_text.specs.Recorded.{status_read, schedule_status}
use Rattle.simulate_text.specs.declared.said.Stop.{Stop as SimulationStop}
use Rattle.simulate_text.specs.declared.said.Stop.TheVariants as halt
use Rattle.simulate_text.specs.Text as simulation
use Rattle.simulate_text.specs.Course.{course as simulated}
use Rattle.simulate_text.specs.Recorded.{status_read as status_simulated, simulated_status}
use Rattle.report_lines.specs.declared.head.Tally.{Tally}
use Rattle.report_lines.specs.declared.head.Outcome.{Outcome}
use Rattle.check_run.specs.Reports.{status_of}
use Rattle.proof_report.specs.Events.{outcome_of}
use Rattle.report_verifier.specs.declared.refused.VerifyRefused.{VerifyRefused}
use Rattle.cise_program.specs.declared.words.Task.{Task}
use Rattle.cise_program.specs.declared.words.Task.TheVariants.{Check, Verify, Upgrade, Replay, Simulate, Suggest, Spell}
use Rattle.cise_program.specs.declared.words.Job.{Job}
use Rattle.cise_program.specs.declared.words.Job.TheVariants.{OfSpec, Sample}
use Rattle.cise_program.specs.commands.Verify.{status_said}
use Rattle.cise_program.specs.commands.Suggest.{status_by}
use Rattle.cise_program.specs.Answer.{IsOutcome, IsAnswerOf, IsAnswer}
use Rattle.cise_program.specs.Headline.{is_outcome, is_memory, may_end_of, TellsSpecification, IsComplete}
use Rattle.cise_program.proofs.Outcomes.{is_outcome-status_of}
use Rattle.cise_program.proofs.Upgrades.{as_verdict}

-- ---- how a task ends

or_left : (a b : Bool) → a ≡ true → a || b ≡ true
or_left true b e = refl
or_left false b e = absurd cc

abbrev is_replay_status : ℕ → Bool
is_replay_status status = (status == 0) || ((status == 1) || (status == 4))

stop_ends : (s : Stop) → is_replay_status (replay.status_of s) ≡ true
stop_ends stop.Done = refl
stop_ends (stop.Broken place) = refl
stop_ends (stop.Refused why) = refl

read_ends : (d : Specification) (r : Checked Schedule) → is_replay_status (status_read d r) ≡ true
read_ends d (Ok s) = stop_ends (course d s.world s.replicas s.steps).stop
read_ends d _ = refl

choice_ends : (b : Bool) (n : ℕ) → is_replay_status n ≡ true → is_replay_status (if b then n else 4) ≡ true
choice_ends true n h = h
choice_ends false n h = refl

replay_ends : (d : Specification) (bytes : List ℕ) → is_replay_status (schedule_status d bytes) ≡ true
replay_ends d bytes = choice_ends (nat_le (length bytes) most_schedule_bytes) (status_read d (schedule_from d bytes)) (read_ends d (schedule_from d bytes))

stopped_ends : (s : SimulationStop) → is_replay_status (simulation.status_of s) ≡ true
stopped_ends halt.Done = refl
stopped_ends (halt.BrokenFirst place) = refl
stopped_ends (halt.Broken place) = refl
stopped_ends (halt.Refused why) = refl

simulated_ends : (d : Specification) (r : Checked Schedule) → is_replay_status (status_simulated d r) ≡ true
simulated_ends d (Ok s) = stopped_ends (simulated d s.world s.replicas s.steps).stop
simulated_ends d _ = refl

simulation_ends : (d : Specification) (bytes : List ℕ) → is_replay_status (simulated_status d bytes) ≡ true
simulation_ends d bytes = choice_ends (nat_le (length bytes) most_schedule_bytes) (status_simulated d (schedule_from d bytes)) (simulated_ends d (schedule_from d bytes))

may_replay : (a b c m : Bool) → a || (b || c) ≡ true → a || (b || (c || m)) ≡ true
may_replay true b c m e = refl
may_replay false true c m e = refl
may_replay false false true m e = refl
may_replay false false false m e = absurd cc

outcome_or : (o : Outcome) (rest : Bool) → is_outcome (status_of o) || rest ≡ true
outcome_or o rest = or_left (is_outcome (status_of o)) rest (is_outcome-status_of o)

said_ends : (said : Result Tally VerifyRefused) → may_end_of Verify (status_said said) ≡ true
said_ends (Ok tally) = outcome_or (outcome_of tally) _
said_ends (Err why) = refl

suggestion_ends : (unknown : ℕ) → may_end_of Suggest (status_by unknown) ≡ true
suggestion_ends zero = refl
suggestion_ends (suc n) = refl

-- what is true of the status that it is, is true of it
at_status : (task : Task) (status s : ℕ) → status ≡ s → may_end_of task s ≡ true → may_end_of task status ≡ true
at_status task status s e = subst (λ n. may_end_of task n ≡ true) (sym e)

pub outcome_ends : (task : Task) (tree : TreeForm) (d : Specification) (more : List ℕ) (status : ℕ) (text : List ℕ) → IsOutcome task tree d more status text → may_end_of task status ≡ true
outcome_ends (Check budget) tree d more status text r = at_status (Check budget) status _ r.status_is (outcome_or (outcome_of r.tally) _)
outcome_ends Verify tree d more status text v = at_status Verify status _ v.status_is (said_ends v.said)
outcome_ends Upgrade tree d more status text r = let v = (as_verdict d more status text r).1 in at_status Upgrade status _ v.status_is (said_ends v.said)
outcome_ends Simulate tree d more status text r =
    let s = simulated_status d more in
    at_status Simulate status s r.status_is (may_replay (s == 0) (s == 1) (s == 4) (is_memory s) (simulation_ends d more))
outcome_ends Suggest tree d more status text r = at_status Suggest status (status_by r.tally.unknown) r.status_is (suggestion_ends r.tally.unknown)
outcome_ends Replay tree d more status text r =
    let s = schedule_status d more in
    at_status Replay status s r.status_is (may_replay (s == 0) (s == 1) (s == 4) (is_memory s) (replay_ends d more))
outcome_ends Spell tree d more status text r = at_status Spell status 0 r.status_is refl

answer_ends : (task : Task) (bytes more : List ℕ) (status : ℕ) (text : List ℕ) (d : Specification) → IsSpecificationOf bytes d → IsAnswerOf task bytes more status text → may_end_of task status ≡ true
answer_ends task bytes more status text d is (inl (why, r, one)) = absurd (refused_or_specified bytes d why is r)
answer_ends task bytes more status text d is (inr (tree, e, read, done)) = outcome_ends task tree e more status text done

told_answer_ends : (task : Task) (told extra : Option (List ℕ)) (status : ℕ) (text : List ℕ) → TellsSpecification told → IsAnswer (Some (OfSpec task)) told extra status text → may_end_of task status ≡ true
told_answer_ends task None extra status text (bytes, d, e, is) a = absurd cc
told_answer_ends task (Some some) extra status text (bytes, d, e, is) (given, more, told, also, a) =
    let same : some ≡ bytes = cc e in
    answer_ends task given more status text d (subst (λ bs. IsSpecificationOf bs d) (sym same ∙ told) is) a

-- want of memory may always be answered
memory_ends : (task : Task) → may_end_of task 8 ≡ true
memory_ends (Check budget) = refl
memory_ends Verify = refl
memory_ends Upgrade = refl
memory_ends Replay = refl
memory_ends Simulate = refl
memory_ends Suggest = refl
memory_ends Spell = refl

-- ---- how a run ends

-- a status that isn't of a fault is below 6, or want of memory
below_or_memory : (status : ℕ) → status < 9 → (status ≡ 6 → ⊥) → (status ≡ 7 → ⊥) → (status < 6) ⊎ (status ≡ 8)
below_or_memory status known not_six not_seven = grind arith

job_ends : (job : Option Job) (told extra : Option (List ℕ)) (status : ℕ) (text : List ℕ) → IsAnswer job told extra status text → IsComplete job told status
job_ends None told extra status text a = tt
job_ends (Some (OfSpec task)) told extra status text a = λ tells. told_answer_ends task told extra status text tells a
job_ends (Some (Sample n)) told extra status text a = subst (λ s. is_outcome s || is_memory s ≡ true) (sym a.status_is) (outcome_or (outcome_of a.tally) _)

job_out : (job : Option Job) (told : Option (List ℕ)) → IsComplete job told 8
job_out None told = tt
job_out (Some (OfSpec task)) told = λ tells. memory_ends task
job_out (Some (Sample n)) told = refl

pub IsComplete-run : (job : Option Job) (told extra : Option (List ℕ)) (status : ℕ) → status < 9 → (status ≡ 6 → ⊥) → (status ≡ 7 → ⊥)
    → (status < 6 → (text : List ℕ) × IsAnswer job told extra status text) → IsComplete job told status
IsComplete-run job told extra status known not_six not_seven answered = elim (below_or_memory status known not_six not_seven) [
  | inl below ↦ job_ends job told extra status (answered below).0 (answered below).1
  | inr memory ↦ subst (IsComplete job told) (sym memory) (job_out job told)
]
