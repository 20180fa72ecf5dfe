-- What a stopped check, upgrade or suggestion has written.
use Rattle.std.proofs.Common.{◌≡◌, ℕ, true, List, [], ◌∷◌, Option, Some, None, IfSome, refl, sym, ◌∙◌, subst, inl, inr}
use Rattle.std.specs.Prelude.{Result, Ok, Err, codes, decimal}
use Rattle.byte_ports.specs.Ending.{IsFrontOf, IsBroken}
use Rattle.byte_ports.proofs.Endings.{broken_map}
use Rattle.spec_core.specs.Specification.{Specification}
use Rattle.spec_core.specs.Typed.{is_specification}
use Rattle.obligation_list.specs.Obligations.{obligations_of}
use Rattle.spec_from_bytes.specs.Refusal.{IsSpecificationOf, Refusal, refusal_words, refusal_text}
use Rattle.report_lines.specs.declared.head.Tally.{Tally}
use Rattle.report_lines.specs.Heads.{most_budget}
use Rattle.proof_report.specs.Verdicts.{refuted, obligation_at}
use Rattle.proof_report.specs.Events.{outcome_of}
use Rattle.check_run.specs.Shown.{listing_of}
use Rattle.check_run.specs.Reports.{status_of, forms_of, IsFront}
use Rattle.report_verifier.specs.declared.refused.VerifyRefused.{VerifyRefused}
use Rattle.report_verifier.specs.declared.refused.VerifyRefused.TheVariants as refused
use Rattle.cise_program.specs.declared.words.Task.{Task}
use Rattle.cise_program.specs.declared.words.Task.TheVariants.{Check, Verify, Upgrade, Replay, Simulate, Suggest, Spell}
use Rattle.cise_program.specs.declared.words.Job.{Job}
use Rattle.cise_program.specs.declared.words.Job.TheVariants.{OfSpec, Sample}
use Rattle.cise_program.specs.Words.{is_within, is_task, is_job, job_of}
use Rattle.cise_program.specs.commands.Verify.{status_said, text_said, kind_word, IsVerdict}
use Rattle.cise_program.specs.commands.Upgrade.{IsUpgraded, IsUpgradeFront}
use Rattle.cise_program.specs.commands.Suggest.{suggest_budget, status_by, IsSuggestionFront}
use Rattle.cise_program.specs.Answer.{IsFrontOfAnswer, IsAnswerFront, IsStopped}
use Rattle.cise_program.specs.Headline.{IsRefusalLine, IsRightFront, IsRightSuggestionFront, LeavesRightly, StopsOf, StopsRightly}
use Rattle.cise_program.proofs.Laws.{TypesWell, OfChecks, OfReports}
use Rattle.cise_program.proofs.Outcomes.{good_so_far_at}
use Rattle.cise_program.proofs.Jobs.{is_job-job_of}
use Rattle.cise_program.proofs.Reports.{is_specification-read, right_checked, right_accepted}
use Rattle.cise_program.proofs.Suggestions.{OfSuggestions, right_suggested}
use Rattle.cise_program.proofs.Agreement.{no_four}

-- ---- a check

front_checked : (bytes : List ℕ) (d : Specification) (budget : ℕ) (front : List ℕ) → OfChecks → IsSpecificationOf bytes d → is_specification d ≡ true → is_within most_budget budget ≡ true
    → IsFront d budget front → IsRightFront bytes front
front_checked bytes d budget front laws read is within (inl (tally, text, n, checked, e)) =
    let right = right_checked bytes d budget (status_of (outcome_of tally)) text laws read is within (record { tally = tally; checked = checked; status_is = refl }) in
    inr (inl (text, right, (n, e)))
front_checked bytes d budget front laws read is within (inr (vs, n, good, e)) = inr (inr (record {
  specification = d;
  read = read;
  budget = budget;
  verdicts = vs;
  written = (n, e);
  right = λ i p es at. record {
    state = listing_of d p;
    shown = inl refl;
    breaks = laws.breaks d budget (obligation_at d i) p es (good_so_far_at d budget (obligations_of d) (forms_of d vs) i (refuted p es) good at);
  };
}))

-- ---- an upgrade

one_text : (x y : List ℕ) → Some x ≡ Some y → x ≡ y
one_text x y e = cc

-- what is said of a report with status 4 is a refusal
refusal_said : (said : Result Tally VerifyRefused) (text : List ℕ) → status_said said ≡ 4 → text_said said ≡ Some text → IsRefusalLine text
refusal_said (Ok tally) text four e = absurd (no_four (outcome_of tally) four)
refusal_said (Err refused.Long) text four e = (codes "report" ∷ codes "long" ∷ [], sym (one_text _ text e))
refusal_said (Err (refused.Line n k)) text four e = (codes "report" ∷ codes "line" ∷ decimal n ∷ kind_word k ∷ [], sym (one_text _ text e))
refusal_said (Err refused.Fault) text four e = absurd cc
refusal_said (Err refused.Memory) text four e = absurd cc

front_upgraded : (bytes : List ℕ) (d : Specification) (more front : List ℕ) → OfReports → IsSpecificationOf bytes d → IsUpgradeFront d more front → IsRightFront bytes front
front_upgraded bytes d more front laws read (status, text, inl u, is) =
    inr (inl (text, right_accepted bytes d text u.tally laws read (laws.keeps d more u.tally text u.short u.upgraded), is))
front_upgraded bytes d more front laws read (status, text, inr (four, v), is) =
    inl (text, refusal_said v.said text (sym v.status_is ∙ four) v.text_is, is)

-- ---- a suggestion

front_suggested : (bytes : List ℕ) (d : Specification) (front : List ℕ) → OfSuggestions → IsSpecificationOf bytes d → IsSuggestionFront d front → IsRightSuggestionFront bytes front
front_suggested bytes d front laws read (inl (tally, text, n, suggested, e)) =
    let status = status_by tally.unknown in
    inr (inl (status, text, right_suggested bytes d status text laws read (record { tally = tally; suggested = suggested; status_is = refl }), (n, e)))
front_suggested bytes d front laws read (inr (answers, n, good, e)) = inr (inr (record {
  specification = d;
  read = read;
  answers = answers;
  written = (n, e);
  right = laws.so_far d suggest_budget answers good;
}))

-- ---- a run

front_refused : (why : Refusal) (front : List ℕ) → IsFrontOf (refusal_text why) front → (text : List ℕ) × IsRefusalLine text × IsFrontOf text front
front_refused why front of = (refusal_text why, (codes "specification" ∷ refusal_words why, refl), of)

front_check : (budget : ℕ) (bytes more front : List ℕ) → TypesWell → OfChecks → is_within most_budget budget ≡ true → IsFrontOfAnswer (Check budget) bytes more front → IsRightFront bytes front
front_check budget bytes more front well checks t (inl (why, is, of)) = inl (front_refused why front of)
front_check budget bytes more front well checks t (inr (tree, d, read, f)) = front_checked bytes d budget front checks (tree, read) (is_specification-read bytes tree d well read) t f

front_upgrade : (bytes more front : List ℕ) → OfReports → IsFrontOfAnswer Upgrade bytes more front → IsRightFront bytes front
front_upgrade bytes more front reports (inl (why, is, of)) = inl (front_refused why front of)
front_upgrade bytes more front reports (inr (tree, d, read, f)) = front_upgraded bytes d more front reports (tree, read) f

front_suggest : (bytes more front : List ℕ) → OfSuggestions → IsFrontOfAnswer Suggest bytes more front → IsRightSuggestionFront bytes front
front_suggest bytes more front suggestions (inl (why, is, of)) = inl (front_refused why front of)
front_suggest bytes more front suggestions (inr (tree, d, read, f)) = front_suggested bytes d front suggestions (tree, read) f

-- what each front is, for the specification that the first source told
leaves : (task : Task) (IsLeft : List ℕ → List ℕ → Type 0) (told extra before after : Option (List ℕ)) → ((bytes more front : List ℕ) → IsFrontOfAnswer task bytes more front → IsLeft bytes front)
    → IsStopped (Some (OfSpec task)) (record { spec = told; extra = extra }) (record { before = before; after = after }) → LeavesRightly IsLeft told (record { before = before; after = after })
leaves task IsLeft None extra before after each s = tt
leaves task IsLeft (Some bytes) extra before after each s =
    broken_map (IsAnswerFront (Some (OfSpec task)) (Some bytes) extra) (IsLeft bytes) before after
    (λ front f. subst (λ bs. IsLeft bs front) (sym f.2) (each f.0 f.1 front f.4)) s

stops_task : (task : Task) (told extra before after : Option (List ℕ)) → TypesWell → OfChecks → OfReports → OfSuggestions → is_task task ≡ true → IsStopped (Some (OfSpec task)) (record { spec = told; extra = extra }) (record { before = before; after = after })
    → StopsOf task told (record { before = before; after = after })
stops_task (Check budget) told extra before after well checks reports suggestions t s = leaves (Check budget) IsRightFront told extra before after (λ bytes more front f. front_check budget bytes more front well checks t f) s
stops_task Upgrade told extra before after well checks reports suggestions t s = leaves Upgrade IsRightFront told extra before after (λ bytes more front f. front_upgrade bytes more front reports f) s
stops_task Suggest told extra before after well checks reports suggestions t s = leaves Suggest IsRightSuggestionFront told extra before after (λ bytes more front f. front_suggest bytes more front suggestions f) s
stops_task Verify told extra before after well checks reports suggestions t s = tt
stops_task Replay told extra before after well checks reports suggestions t s = tt
stops_task Simulate told extra before after well checks reports suggestions t s = tt
stops_task Spell told extra before after well checks reports suggestions t s = tt

stops_job : (job : Option Job) (told extra before after : Option (List ℕ)) → TypesWell → OfChecks → OfReports → OfSuggestions → IfSome job (λ j. is_job j ≡ true) → IsStopped job (record { spec = told; extra = extra }) (record { before = before; after = after })
    → StopsRightly job told (record { before = before; after = after })
stops_job None told extra before after well checks reports suggestions j s = tt
stops_job (Some (Sample n)) told extra before after well checks reports suggestions j s = tt
stops_job (Some (OfSpec task)) told extra before after well checks reports suggestions j s = stops_task task told extra before after well checks reports suggestions j s

pub stops_rightly : (words : List (List ℕ)) (told extra before after : Option (List ℕ)) → TypesWell → OfChecks → OfReports → OfSuggestions → IsStopped (job_of words) (record { spec = told; extra = extra }) (record { before = before; after = after })
    → StopsRightly (job_of words) told (record { before = before; after = after })
stops_rightly words told extra before after well checks reports suggestions s =
    stops_job (job_of words) told extra before after well checks reports suggestions (is_job-job_of words) s
