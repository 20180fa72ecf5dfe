-- What the answers of the program say of a specification.
use Rattle.std.proofs.Common.{◌≡◌, ℕ, ◌<◌, true, List, Option, Some, None, IfSome, sym, subst, inl, inr, arith}
use Rattle.std.specs.Io.KnownBytes.{Appends}
use Rattle.spec_core.specs.Specification.{Specification}
use Rattle.spec_core.specs.Typed.{is_specification}
use Rattle.spec_trees.specs.Form.{TreeForm}
use Rattle.executions.proofs.Safety.{converges}
use Rattle.obligation_list.specs.Breaking.{Safe}
use Rattle.replay_text.specs.Recorded.{schedule_status}
use Rattle.replay_text.proofs.Safety.{safe_status, schedule_safely}
use Rattle.simulate_text.specs.Recorded.{simulated_status}
use Rattle.simulate_text.proofs.Safety.{safe_status as safe_simulation, schedule_safely as simulated_safely_alike}
use Rattle.spec_from_bytes.specs.Refusal.{IsReadAs, IsSpecificationOf}
use Rattle.spec_from_bytes.proofs.Reasons.{specification_unique}
use Rattle.cise_program.specs.declared.words.Task.{Task}
use Rattle.cise_program.specs.declared.words.Task.TheVariants.{Check, Verify, Upgrade, Replay, Simulate, Suggest, Spell}
use Rattle.cise_program.specs.declared.words.Job.{Job}
use Rattle.cise_program.specs.declared.words.Job.TheVariants.{OfSpec, Sample}
use Rattle.report_lines.specs.Heads.{most_budget}
use Rattle.cise_program.specs.Words.{is_within, is_task, is_job, job_of, judges, is_judging}
use Rattle.cise_program.specs.Answer.{IsOutcome, IsAnswerOf, IsAnswer}
use Rattle.cise_program.specs.Headline.{IsProved, is_outcome, IsRefutedRightly, RefutesOf, Refutes, IsReplayedSafely, IsSimulatedSafely}
use Rattle.cise_program.proofs.Laws.{TypesWell, OfChecks, OfReports}
use Rattle.cise_program.proofs.Jobs.{is_job-job_of}
use Rattle.cise_program.proofs.Reports.{is_specification-read, safe_checked, right_checked, safe_verified, right_accepted, right_verified, not_four}
use Rattle.cise_program.proofs.Upgrades.{as_verdict}

-- ---- status 0

IsProved-safe : (bytes : List ℕ) (tree : TreeForm) (d : Specification) → IsReadAs bytes tree d → Safe d → IsProved bytes
IsProved-safe bytes tree d read safe = record {
  specification = d;
  read = (tree, read);
  only = λ e s. specification_unique bytes e d s (tree, read);
  safe = safe;
  converges = converges d safe;
}

-- a check or a verified report with status 0 shows that the specification is safe
pub safe_outcome : (task : Task) (tree : TreeForm) (d : Specification) (more text : List ℕ) → OfChecks → OfReports → is_judging task ≡ true → is_specification d ≡ true
    → IsOutcome task tree d more 0 text → Safe d
safe_outcome (Check budget) tree d more text checks reports j is r = safe_checked d budget text checks is r
safe_outcome Verify tree d more text checks reports j is v = safe_verified d more text reports is v
safe_outcome Upgrade tree d more text checks reports j is v = let said = as_verdict d more 0 text v in safe_verified d more said.0 reports is said.1
safe_outcome Replay tree d more text checks reports j is v = absurd cc
safe_outcome Simulate tree d more text checks reports j is v = absurd cc
safe_outcome Suggest tree d more text checks reports j is v = absurd cc
safe_outcome Spell tree d more text checks reports j is v = absurd cc

proved_task : (task : Task) (bytes more text : List ℕ) → TypesWell → OfChecks → OfReports → is_judging task ≡ true → IsAnswerOf task bytes more 0 text → IsProved bytes
proved_task task bytes more text well checks reports j (inl (why, is, one)) = absurd (omega (arith, one.0))
proved_task task bytes more text well checks reports j (inr (tree, d, read, done)) =
    IsProved-safe bytes tree d read (safe_outcome task tree d more text checks reports j (is_specification-read bytes tree d well read) done)

proved_told : (job : Option Job) (told extra : Option (List ℕ)) (text : List ℕ) → TypesWell → OfChecks → OfReports → judges job ≡ true → IsAnswer job told extra 0 text → IfSome told IsProved
proved_told job None extra text well checks reports j a = tt
proved_told None (Some bytes) extra text well checks reports j a = absurd cc
proved_told (Some (Sample n)) (Some bytes) extra text well checks reports j a = absurd cc
proved_told (Some (OfSpec task)) (Some bytes) extra text well checks reports j (given, more, told, also, a) =
    subst IsProved (sym told) (proved_task task given more text well checks reports j a)

pub IsProved-zero : (words : List (List ℕ)) (told extra : Option (List ℕ)) (text : List ℕ) → TypesWell → OfChecks → OfReports → judges (job_of words) ≡ true → IsAnswer (job_of words) told extra 0 text
    → IfSome told IsProved
IsProved-zero words told extra text well checks reports j a = proved_told (job_of words) told extra text well checks reports j a

-- ---- refutations

not_three : (status : ℕ) → is_outcome status ≡ true → status ≡ 3 → ⊥
not_three status o e = absurd (cc (subst (λ n. is_outcome n ≡ true) e o))

refutes_checked : (bytes more : List ℕ) (budget status : ℕ) (text : List ℕ) → TypesWell → OfChecks → is_within most_budget budget ≡ true → is_outcome status ≡ true → IsAnswerOf (Check budget) bytes more status text → IsRefutedRightly bytes text
refutes_checked bytes more budget status text well checks w o (inl (why, is, one)) = absurd (not_three status o one.0)
refutes_checked bytes more budget status text well checks w o (inr (tree, d, read, r)) = right_checked bytes d budget status text checks (tree, read) (is_specification-read bytes tree d well read) w r

refutes_verified : (bytes more : List ℕ) (status : ℕ) (text : List ℕ) → OfReports → is_outcome status ≡ true → IsAnswerOf Verify bytes more status text → IsRefutedRightly bytes more
refutes_verified bytes more status text reports o (inl (why, is, one)) = absurd (not_three status o one.0)
refutes_verified bytes more status text reports o (inr (tree, d, read, v)) = right_verified bytes d more status text reports (tree, read) o v

refutes_upgraded : (bytes more : List ℕ) (status : ℕ) (text : List ℕ) → OfReports → is_outcome status ≡ true → IsAnswerOf Upgrade bytes more status text → IsRefutedRightly bytes more
refutes_upgraded bytes more status text reports o (inl (why, is, one)) = absurd (not_three status o one.0)
refutes_upgraded bytes more status text reports o (inr (tree, d, read, v)) =
    let said = as_verdict d more status text v in right_verified bytes d more status said.0 reports (tree, read) o said.1

-- what was written of it
refutes_written : (bytes more : List ℕ) (status : ℕ) (text : List ℕ) → OfReports → is_outcome status ≡ true → IsAnswerOf Upgrade bytes more status text → IsRefutedRightly bytes text
refutes_written bytes more status text reports o (inl (why, is, one)) = absurd (not_three status o one.0)
refutes_written bytes more status text reports o (inr (tree, d, read, inl u)) = right_accepted bytes d text u.tally reports (tree, read) (reports.keeps d more u.tally text u.short u.upgraded)
refutes_written bytes more status text reports o (inr (tree, d, read, inr (four, v))) = absurd (not_four status o four)

refutes_told : (task : Task) (told extra : Option (List ℕ)) (status : ℕ) (text : List ℕ) (before after : Option (List ℕ)) → TypesWell → OfChecks → OfReports → is_task task ≡ true → is_outcome status ≡ true
    → IsAnswer (Some (OfSpec task)) told extra status text → Appends before after text → RefutesOf task (record { spec = told; extra = extra }) (record { before = before; after = after })
refutes_told (Check budget) None extra status text before after well checks reports t o a w = tt
refutes_told (Check budget) (Some bytes) extra status text before after well checks reports t o (given, more, told, also, a) w =
    (text, w, subst (λ bs. IsRefutedRightly bs text) (sym told) (refutes_checked given more budget status text well checks t o a))
refutes_told Verify None extra status text before after well checks reports t o a w = tt
refutes_told Verify (Some bytes) None status text before after well checks reports t o a w = tt
refutes_told Verify (Some bytes) (Some report) status text before after well checks reports t o (given, more, told, also, a) w =
    subst (λ bs. IsRefutedRightly bs report) (sym told) (subst (IsRefutedRightly given) (sym also) (refutes_verified given more status text reports o a))
refutes_told Upgrade None extra status text before after well checks reports t o a w = (tt, tt)
refutes_told Upgrade (Some bytes) None status text before after well checks reports t o (given, more, told, also, a) w =
    (tt, (text, w, subst (λ bs. IsRefutedRightly bs text) (sym told) (refutes_written given more status text reports o a)))
refutes_told Upgrade (Some bytes) (Some report) status text before after well checks reports t o (given, more, told, also, a) w = (
  subst (λ bs. IsRefutedRightly bs report) (sym told) (subst (IsRefutedRightly given) (sym also) (refutes_upgraded given more status text reports o a)),
  (text, w, subst (λ bs. IsRefutedRightly bs text) (sym told) (refutes_written given more status text reports o a)),
)
refutes_told Replay told extra status text before after well checks reports t o a w = tt
refutes_told Simulate told extra status text before after well checks reports t o a w = tt
refutes_told Suggest told extra status text before after well checks reports t o a w = tt
refutes_told Spell told extra status text before after well checks reports t o a w = tt

refutes_job : (job : Option Job) (told extra : Option (List ℕ)) (status : ℕ) (text : List ℕ) (before after : Option (List ℕ)) → TypesWell → OfChecks → OfReports → IfSome job (λ j. is_job j ≡ true)
    → is_outcome status ≡ true → IsAnswer job told extra status text → Appends before after text → Refutes job (record { spec = told; extra = extra }) (record { before = before; after = after })
refutes_job None told extra status text before after well checks reports j o a w = tt
refutes_job (Some (OfSpec task)) told extra status text before after well checks reports j o a w = refutes_told task told extra status text before after well checks reports j o a w
refutes_job (Some (Sample n)) told extra status text before after well checks reports j o a w = tt

pub Refutes-answer : (words : List (List ℕ)) (told extra : Option (List ℕ)) (status : ℕ) (text : List ℕ) (before after : Option (List ℕ)) → TypesWell → OfChecks → OfReports → is_outcome status ≡ true
    → IsAnswer (job_of words) told extra status text → Appends before after text → Refutes (job_of words) (record { spec = told; extra = extra }) (record { before = before; after = after })
Refutes-answer words told extra status text before after well checks reports o a w = refutes_job (job_of words) told extra status text before after well checks reports (is_job-job_of words) o a w

-- ---- a replay

broken_replay : (bytes more text : List ℕ) (d : Specification) → IsSpecificationOf bytes d → Safe d → IsAnswerOf Replay bytes more 1 text → ⊥
broken_replay bytes more text d is safe (inl (why, r, one)) = omega (arith, one.0)
broken_replay bytes more text d is safe (inr (tree, e, read, done)) =
    let same = specification_unique bytes e d (tree, read) is in
    let status = done.status_is in
    safe_status d safe more (sym (subst (λ (f : Specification). 1 ≡ schedule_status f more) same status))

told_replay : (bytes : List ℕ) (extra : Option (List ℕ)) (text : List ℕ) (d : Specification) → IsSpecificationOf bytes d → Safe d → IsAnswer (Some (OfSpec Replay)) (Some bytes) extra 1 text → ⊥
told_replay bytes extra text d is safe (given, more, told, also, a) =
    broken_replay bytes more text d is safe (subst (λ bs. IsAnswerOf Replay bs more 1 text) (sym told) a)

replayed_told : (bytes : List ℕ) (extra : Option (List ℕ)) (status : ℕ)
    → (status < 6 → (text : List ℕ) × IsAnswer (Some (OfSpec Replay)) (Some bytes) extra status text) → IsReplayedSafely bytes extra status
replayed_told bytes extra status a = record {
  unbroken = λ d is safe e. let at = a (omega (arith, e)) in
      told_replay bytes extra at.0 d is safe (subst (λ n. IsAnswer (Some (OfSpec Replay)) (Some bytes) extra n at.0) e at.1);
  alike = λ d more s is safe told e. (schedule_safely d safe more s e).alike;
}

replays_told : (told extra : Option (List ℕ)) (status : ℕ)
    → (status < 6 → (text : List ℕ) × IsAnswer (Some (OfSpec Replay)) told extra status text) → IfSome told (λ bytes. IsReplayedSafely bytes extra status)
replays_told None extra status a = tt
replays_told (Some bytes) extra status a = replayed_told bytes extra status a

-- a replay of a safe specification
pub replayed_safely : (job : Option Job) (told extra : Option (List ℕ)) (status : ℕ) → job ≡ Some (OfSpec Replay)
    → (status < 6 → (text : List ℕ) × IsAnswer job told extra status text) → IfSome told (λ bytes. IsReplayedSafely bytes extra status)
replayed_safely job told extra status e a =
    replays_told told extra status (λ below. let x = a below in (x.0, subst (λ (j : Option Job). IsAnswer j told extra status x.0) e x.1))

-- ---- a simulation

broken_simulation : (bytes more text : List ℕ) (d : Specification) → IsSpecificationOf bytes d → Safe d → IsAnswerOf Simulate bytes more 1 text → ⊥
broken_simulation bytes more text d is safe (inl (why, r, one)) = omega (arith, one.0)
broken_simulation bytes more text d is safe (inr (tree, e, read, done)) =
    let same = specification_unique bytes e d (tree, read) is in
    let status = done.status_is in
    safe_simulation d safe more (sym (subst (λ (f : Specification). 1 ≡ simulated_status f more) same status))

told_simulation : (bytes : List ℕ) (extra : Option (List ℕ)) (text : List ℕ) (d : Specification) → IsSpecificationOf bytes d → Safe d → IsAnswer (Some (OfSpec Simulate)) (Some bytes) extra 1 text → ⊥
told_simulation bytes extra text d is safe (given, more, told, also, a) =
    broken_simulation bytes more text d is safe (subst (λ bs. IsAnswerOf Simulate bs more 1 text) (sym told) a)

simulated_told : (bytes : List ℕ) (extra : Option (List ℕ)) (status : ℕ)
    → (status < 6 → (text : List ℕ) × IsAnswer (Some (OfSpec Simulate)) (Some bytes) extra status text) → IsSimulatedSafely bytes extra status
simulated_told bytes extra status a = record {
  unbroken = λ d is safe e. let at = a (omega (arith, e)) in
      told_simulation bytes extra at.0 d is safe (subst (λ n. IsAnswer (Some (OfSpec Simulate)) (Some bytes) extra n at.0) e at.1);
  alike = λ d more s is safe told e. (simulated_safely_alike d safe more s e).alike;
}

simulates_told : (told extra : Option (List ℕ)) (status : ℕ)
    → (status < 6 → (text : List ℕ) × IsAnswer (Some (OfSpec Simulate)) told extra status text) → IfSome told (λ bytes. IsSimulatedSafely bytes extra status)
simulates_told None extra status a = tt
simulates_told (Some bytes) extra status a = simulated_told bytes extra status a

-- a simulation of a safe specification
pub simulated_safely : (job : Option Job) (told extra : Option (List ℕ)) (status : ℕ) → job ≡ Some (OfSpec Simulate)
    → (status < 6 → (text : List ℕ) × IsAnswer job told extra status text) → IfSome told (λ bytes. IsSimulatedSafely bytes extra status)
simulated_safely job told extra status e a =
    simulates_told told extra status (λ below. let x = a below in (x.0, subst (λ (j : Option Job). IsAnswer j told extra status x.0) e x.1))
