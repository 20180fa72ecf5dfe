-- What a check or an upgrade wrote is verified with the status that it ended with.
use Rattle.std.proofs.Common.{◌≡◌, ℕ, ◌≤◌, true, List, length, Option, Some, None, IfSome, inl, inr, sym, subst, ◌∙◌}
use Rattle.std.specs.Prelude.{nat_le}
use Rattle.std.proofs.lemmas.Bool.{and_parts}
use Rattle.std.specs.Io.KnownBytes.{Appends}
use Rattle.spec_core.specs.Specification.{Specification}
use Rattle.spec_core.specs.Typed.{is_specification}
use Rattle.spec_trees.specs.Form.{TreeForm}
use Rattle.spec_from_bytes.specs.Refusal.{IsReadAs}
use Rattle.spec_from_bytes.proofs.Reasons.{specification_unique, refused_or_specified}
use Rattle.report_lines.specs.declared.head.Tally.{Tally}
use Rattle.report_lines.specs.Heads.{most_budget}
use Rattle.proof_report.specs.Events.{outcome_of}
use Rattle.check_run.specs.Reports.{status_of}
use Rattle.report_verifier.specs.Verified.{most_report_bytes, IsAccepted}
use Rattle.cise_program.specs.declared.words.Task.{Task}
use Rattle.cise_program.specs.declared.words.Task.TheVariants.{Check, Verify, Upgrade, Replay, Simulate, Suggest, Spell}
use Rattle.cise_program.specs.declared.words.Job.{Job}
use Rattle.cise_program.specs.declared.words.Job.TheVariants.{OfSpec, Sample}
use Rattle.cise_program.specs.Words.{is_task, is_job, job_of, is_reporting, writes_report}
use Rattle.cise_program.specs.commands.Verify.{verified_text, IsVerdict}
use Rattle.cise_program.specs.Answer.{IsOutcome, IsAnswerOf, IsAnswer}
use Rattle.cise_program.specs.Headline.{is_outcome, IsVerifiedAs, VerifiesAlike}
use Rattle.cise_program.proofs.Laws.{TypesWell, KeepsVerdicts, AcceptsChecked}
use Rattle.cise_program.proofs.Jobs.{is_job-job_of}
use Rattle.cise_program.proofs.Reports.{is_specification-read, not_four, least, most}
use Rattle.cise_program.proofs.Upgrades.{verdict_on}
use Rattle.cise_program.proofs.Agreement.{SaysOne, verdicts_agree}

no_three : (status : ℕ) → is_outcome status ≡ true → status ≡ 3 → ⊥
no_three status o e = absurd (cc (subst (λ n. is_outcome n ≡ true) e o))

-- a text that is accepted, up to 64 MiB of it, with verdicts that come to a status
pub record IsAcceptedWith (d : Specification) (text : List ℕ) (status : ℕ) : Type 0 where
  pub tally : Tally
  pub accepted : length text ≤ most_report_bytes → IsAccepted d text tally
  pub status_is : status ≡ status_of (outcome_of tally)

-- a task that writes a report writes such a text
written_with : (task : Task) (tree : TreeForm) (d : Specification) (more : List ℕ) (status : ℕ) (text : List ℕ) → KeepsVerdicts → AcceptsChecked → is_specification d ≡ true → is_task task ≡ true → is_reporting task ≡ true
    → is_outcome status ≡ true → IsOutcome task tree d more status text → IsAcceptedWith d text status
written_with (Check budget) tree d more status text keeps accepts is t w o r =
    let limits = and_parts (nat_le 1 budget) (nat_le budget most_budget) t in
    record { tally = r.tally; accepted = λ short. (accepts d budget r.tally text is (least budget limits.0) (most budget limits.1) r.checked short).1; status_is = r.status_is }
written_with Upgrade tree d more status text keeps accepts is t w o (inl u) =
    record { tally = u.tally; accepted = λ short. keeps d more u.tally text u.short u.upgraded; status_is = u.status_is }
written_with Upgrade tree d more status text keeps accepts is t w o (inr (four, v)) = absurd (not_four status o four)
written_with Verify tree d more status text keeps accepts is t w o r = absurd (cc w)
written_with Replay tree d more status text keeps accepts is t w o r = absurd (cc w)
written_with Simulate tree d more status text keeps accepts is t w o r = absurd (cc w)
written_with Suggest tree d more status text keeps accepts is t w o r = absurd (cc w)
written_with Spell tree d more status text keeps accepts is t w o r = absurd (cc w)

-- each verification of such a text ends with the status
verified_as : (bytes : List ℕ) (tree : TreeForm) (d : Specification) (text : List ℕ) (status : ℕ) → SaysOne → is_specification d ≡ true → IsReadAs bytes tree d → IsAcceptedWith d text status → IsVerifiedAs bytes text status
verified_as bytes tree d text status one typed read a = λ short other said answer. by_answer short other said answer
  where
    by_answer : length text ≤ most_report_bytes → (other : ℕ) (said : List ℕ) → IsAnswerOf Verify bytes text other said → other ≡ status
    by_answer short other said (inl (why, is, refusal)) = absurd (refused_or_specified bytes d why (tree, read) is)
    by_answer short other said (inr (again, e, also, v)) =
        let same = specification_unique bytes e d (again, also) (tree, read) in
        let verdict = subst (λ (f : Specification). IsVerdict f text other said) same v in
        let agree = verdicts_agree d text other (status_of (outcome_of a.tally)) said (verified_text a.tally) one typed verdict (verdict_on d text a.tally short (a.accepted short)) in
        sym agree.0 ∙ sym a.status_is

verified_task : (task : Task) (bytes more text : List ℕ) (status : ℕ) → TypesWell → SaysOne → AcceptsChecked → KeepsVerdicts → is_task task ≡ true → is_reporting task ≡ true → is_outcome status ≡ true
    → IsAnswerOf task bytes more status text → IsVerifiedAs bytes text status
verified_task task bytes more text status well one accepts keeps t w o (inl (why, is, refusal)) = absurd (no_three status o refusal.0)
verified_task task bytes more text status well one accepts keeps t w o (inr (tree, d, read, done)) =
    let typed = is_specification-read bytes tree d well read in
    verified_as bytes tree d text status one typed read (written_with task tree d more status text keeps accepts typed t w o done)

verified_told : (job : Option Job) (told extra : Option (List ℕ)) (status : ℕ) (text : List ℕ) (before after : Option (List ℕ)) → TypesWell → SaysOne → AcceptsChecked → KeepsVerdicts
    → IfSome job (λ j. is_job j ≡ true) → is_outcome status ≡ true → writes_report job ≡ true → IsAnswer job told extra status text → Appends before after text → VerifiesAlike told status (record { before = before; after = after })
verified_told job None extra status text before after well one accepts keeps j o w a written = tt
verified_told None (Some bytes) extra status text before after well one accepts keeps j o w a written = absurd (cc w)
verified_told (Some (Sample n)) (Some bytes) extra status text before after well one accepts keeps j o w a written = absurd (cc w)
verified_told (Some (OfSpec task)) (Some bytes) extra status text before after well one accepts keeps j o w (given, more, told, also, a) written =
    (text, written, verified_task task bytes more text status well one accepts keeps j w o (subst (λ (bs : List ℕ). IsAnswerOf task bs more status text) (sym told) a))

-- where the words ask for a report
pub verifies_alike : (words : List (List ℕ)) (told extra : Option (List ℕ)) (status : ℕ) (text : List ℕ) (before after : Option (List ℕ)) → TypesWell → SaysOne → AcceptsChecked → KeepsVerdicts
    → is_outcome status ≡ true → writes_report (job_of words) ≡ true → IsAnswer (job_of words) told extra status text → Appends before after text → VerifiesAlike told status (record { before = before; after = after })
verifies_alike words told extra status text before after well one accepts keeps o w a written =
    verified_told (job_of words) told extra status text before after well one accepts keeps (is_job-job_of words) o w a written
