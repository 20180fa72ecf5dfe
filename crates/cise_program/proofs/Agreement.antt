-- Two answers to the same words and bytes agree.
use Rattle.std.proofs.Common.{◌≡◌, ℕ, ◌≤◌, ◌<◌, true, List, Option, Some, None, IfSome, refl, sym, subst, ap, ◌∙◌, inl, inr, arith}
use Rattle.std.specs.Prelude.{Result, Ok, Err}
use Rattle.byte_ports.specs.Ending.{IsOne}
use Rattle.spec_core.specs.Specification.{Specification}
use Rattle.spec_core.specs.Typed.{is_specification}
use Rattle.spec_trees.specs.Form.{TreeForm}
use Rattle.spec_from_bytes.specs.Refusal.{Refusal, IsRefusal, refusal_text}
use Rattle.spec_from_bytes.proofs.Reasons.{tree_unique, specification_unique, refusal_is_unique, refused_or_specified}
use Rattle.report_lines.specs.declared.head.Tally.{Tally}
use Rattle.report_lines.specs.declared.head.Outcome.{Outcome}
use Rattle.report_lines.specs.declared.head.Outcome.TheVariants.{Accepted, Rejected, Undecided}
use Rattle.proof_report.specs.Events.{outcome_of}
use Rattle.check_run.specs.Reports.{status_of}
use Rattle.report_verifier.specs.declared.refused.VerifyRefused.{VerifyRefused}
use Rattle.report_verifier.specs.declared.refused.VerifyRefused.TheVariants as refused
use Rattle.report_verifier.specs.Verified.{IsVerified, IsOnAll}
use Rattle.cise_program.specs.declared.words.Task.{Task}
use Rattle.cise_program.specs.declared.words.Task.TheVariants.{Check, Verify, Upgrade, Replay, Simulate, Suggest, Spell}
use Rattle.cise_program.specs.declared.words.Job.{Job}
use Rattle.cise_program.specs.declared.words.Job.TheVariants.{OfSpec, Sample}
use Rattle.cise_program.specs.Words.{is_job, job_of}
use Rattle.cise_program.specs.commands.Verify.{status_said, text_said, IsVerdict}
use Rattle.cise_program.specs.commands.Upgrade.{IsUpgraded}
use Rattle.cise_program.specs.Answer.{IsOutcome, IsAnswerOf, IsAnswer, AgreeOf, Agree}
use Rattle.cise_program.proofs.Laws.{TypesWell}
use Rattle.report_upgrader.proofs.Accepted.{one_upgraded}
use Rattle.cise_program.proofs.Reports.{is_specification-read}
use Rattle.cise_program.proofs.Upgrades.{as_verdict}
use Rattle.cise_program.proofs.Jobs.{is_job-job_of}
use Rattle.cise_program.proofs.Samples.{OfSamples, samples_agree}

-- two statuses with texts that are one answer
one_of_two : (s t : ℕ) (x y : List ℕ) (n : ℕ) (z : List ℕ) → s ≡ n → x ≡ z → t ≡ n → y ≡ z → IsOne s x t y
one_of_two s t x y n z a b c d = (c ∙ sym a, d ∙ sym b)

-- the same answer agrees with itself
agree_one : (task : Task) (s t : ℕ) (x y : List ℕ) → IsOne s x t y → AgreeOf task s x t y
agree_one (Check budget) s t x y one = inl one
agree_one Verify s t x y one = one
agree_one Upgrade s t x y one = one
agree_one Replay s t x y one = one
agree_one Simulate s t x y one = one
agree_one Suggest s t x y one = inl one
agree_one Spell s t x y one = one

-- where a specification is refused, every answer refuses it so
pub refused_for_all : (task : Task) (bytes more : List ℕ) (why : Refusal) (status : ℕ) (text : List ℕ)
    → IsRefusal bytes why → IsAnswerOf task bytes more status text → IsOne 3 (refusal_text why) status text
refused_for_all task bytes more why status text r (inl (other, is, one)) =
    (one.0, one.1 ∙ ap refusal_text (refusal_is_unique bytes other why is r))
refused_for_all task bytes more why status text r (inr (tree, d, read, done)) = absurd (refused_or_specified bytes d why (tree, read) r)

-- ---- verified reports

-- what the verifier says of some bytes is one
abbrev pub SaysOne : Type 0
SaysOne = (d : Specification) (bytes : List ℕ) (x y : Result Tally VerifyRefused) → is_specification d ≡ true → IsOnAll x → IsOnAll y → IsVerified d bytes x → IsVerified d bytes y → x ≡ y

too_long : (n m : ℕ) → n ≤ m → m < n → ⊥
too_long n m a b = omega (arith, a, b)

-- two answers to the same bytes that have texts
same_said : (d : Specification) (bytes : List ℕ) (x y : Result Tally VerifyRefused) (a b : List ℕ) → SaysOne → is_specification d ≡ true
    → IsVerified d bytes x → IsVerified d bytes y → text_said x ≡ Some a → text_said y ≡ Some b → x ≡ y
same_said d bytes (Ok p) (Ok q) a b one is v w e f = one d bytes (Ok p) (Ok q) is tt tt v w
same_said d bytes (Ok p) (Err refused.Long) a b one is v w e f = absurd (too_long _ _ v.0 w)
same_said d bytes (Ok p) (Err (refused.Line n k)) a b one is v w e f = one d bytes (Ok p) (Err (refused.Line n k)) is tt tt v w
same_said d bytes (Ok p) (Err refused.Fault) a b one is v w e f = absurd cc
same_said d bytes (Ok p) (Err refused.Memory) a b one is v w e f = absurd cc
same_said d bytes (Err refused.Long) (Ok q) a b one is v w e f = absurd (too_long _ _ w.0 v)
same_said d bytes (Err refused.Long) (Err refused.Long) a b one is v w e f = refl
same_said d bytes (Err refused.Long) (Err (refused.Line n k)) a b one is v w e f = absurd (too_long _ _ w.0 v)
same_said d bytes (Err refused.Long) (Err refused.Fault) a b one is v w e f = absurd cc
same_said d bytes (Err refused.Long) (Err refused.Memory) a b one is v w e f = absurd cc
same_said d bytes (Err (refused.Line n k)) (Ok q) a b one is v w e f = one d bytes (Err (refused.Line n k)) (Ok q) is tt tt v w
same_said d bytes (Err (refused.Line n k)) (Err refused.Long) a b one is v w e f = absurd (too_long _ _ v.0 w)
same_said d bytes (Err (refused.Line n k)) (Err (refused.Line m j)) a b one is v w e f = one d bytes (Err (refused.Line n k)) (Err (refused.Line m j)) is tt tt v w
same_said d bytes (Err (refused.Line n k)) (Err refused.Fault) a b one is v w e f = absurd cc
same_said d bytes (Err (refused.Line n k)) (Err refused.Memory) a b one is v w e f = absurd cc
same_said d bytes (Err refused.Fault) y a b one is v w e f = absurd cc
same_said d bytes (Err refused.Memory) y a b one is v w e f = absurd cc

-- two verdicts on the same bytes
pub verdicts_agree : (d : Specification) (bytes : List ℕ) (s t : ℕ) (a b : List ℕ) → SaysOne → is_specification d ≡ true → IsVerdict d bytes s a → IsVerdict d bytes t b → IsOne s a t b
verdicts_agree d bytes s t a b one is x y = (y.status_is ∙ sym (ap status_said same) ∙ sym x.status_is, one_text b a (sym y.text_is ∙ sym (ap text_said same) ∙ x.text_is))
  where
    same : x.said ≡ y.said
    same = same_said d bytes x.said y.said a b one is x.verified y.verified x.text_is y.text_is

    one_text : (b a : List ℕ) → Some b ≡ Some a → b ≡ a
    one_text b a e = cc e

-- ---- upgraded reports

pub no_four : (o : Outcome) → status_of o ≡ 4 → ⊥
no_four Accepted e = omega (arith, e)
no_four Rejected e = omega (arith, e)
no_four Undecided e = omega (arith, e)

-- two answers to an upgrade of the same bytes
upgrades_agree : (d : Specification) (bytes : List ℕ) (s t : ℕ) (a b : List ℕ) → SaysOne → is_specification d ≡ true → IsUpgraded d bytes s a → IsUpgraded d bytes t b → IsOne s a t b
upgrades_agree d bytes s t a b one is (inl u) (inl v) =
    let x = as_verdict d bytes s a (inl u) in
    let y = as_verdict d bytes t b (inl v) in
    ((verdicts_agree d bytes s t x.0 y.0 one is x.1 y.1).0, sym (one_upgraded d bytes u.tally a v.tally b is u.upgraded v.upgraded))
upgrades_agree d bytes s t a b one is (inl u) (inr (four, v)) =
    let x = as_verdict d bytes s a (inl u) in
    absurd (no_four (outcome_of u.tally) (sym u.status_is ∙ sym (verdicts_agree d bytes s t x.0 b one is x.1 v).0 ∙ four))
upgrades_agree d bytes s t a b one is (inr (four, v)) (inl u) =
    let x = as_verdict d bytes t b (inl u) in
    absurd (no_four (outcome_of u.tally) (sym u.status_is ∙ (verdicts_agree d bytes s t a x.0 one is v x.1).0 ∙ four))
upgrades_agree d bytes s t a b one is (inr (four, v)) (inr (other, w)) = verdicts_agree d bytes s t a b one is v w

-- ---- tasks and jobs

-- two outcomes of a task for one specification and its tree
outcomes_agree : (task : Task) (tree : TreeForm) (d : Specification) (more : List ℕ) (s t : ℕ) (x y : List ℕ) → SaysOne → is_specification d ≡ true
    → IsOutcome task tree d more s x → IsOutcome task tree d more t y → AgreeOf task s x t y
outcomes_agree (Check budget) tree d more s t x y one is a b = inr (d, a, b)
outcomes_agree Verify tree d more s t x y one is a b = verdicts_agree d more s t x y one is a b
outcomes_agree Upgrade tree d more s t x y one is a b = upgrades_agree d more s t x y one is a b
outcomes_agree Simulate tree d more s t x y one is a b = one_of_two s t x y _ _ a.status_is a.text_is b.status_is b.text_is
outcomes_agree Suggest tree d more s t x y one is a b = inr (d, a, b)
outcomes_agree Replay tree d more s t x y one is a b = one_of_two s t x y _ _ a.status_is a.text_is b.status_is b.text_is
outcomes_agree Spell tree d more s t x y one is a b = one_of_two s t x y _ _ a.status_is a.text_is b.status_is b.text_is

-- two answers to a task for the same bytes
tasks_agree : (task : Task) (bytes more : List ℕ) (s t : ℕ) (x y : List ℕ) → TypesWell → SaysOne
    → IsAnswerOf task bytes more s x → IsAnswerOf task bytes more t y → AgreeOf task s x t y
tasks_agree task bytes more s t x y well only (inl (why, is, one)) b =
    let other = refused_for_all task bytes more why t y is b in
    agree_one task s t x y (one_of_two s t x y _ _ one.0 one.1 other.0 other.1)
tasks_agree task bytes more s t x y well only (inr (tree, d, read, done)) (inl (why, is, one)) =
    absurd (refused_or_specified bytes d why (tree, read) is)
tasks_agree task bytes more s t x y well only (inr (tree, d, read, done)) (inr (other, e, also, then)) =
    let same_tree = tree_unique bytes other tree also.is_tree read.is_tree in
    let same = specification_unique bytes e d (other, also) (tree, read) in
    let at_tree : IsOutcome task tree e more t y = subst (λ (u : TreeForm). IsOutcome task u e more t y) same_tree then in
    outcomes_agree task tree d more s t x y only (is_specification-read bytes tree d well read) done (subst (λ (f : Specification). IsOutcome task tree f more t y) same at_tree)

-- two answers to a job
told_agree : (job : Option Job) (spec extra : List ℕ) (s t : ℕ) (x y : List ℕ) → TypesWell → SaysOne → OfSamples → IfSome job (λ j. is_job j ≡ true)
    → IsAnswer job (Some spec) (Some extra) s x → IsAnswer job (Some spec) (Some extra) t y → Agree job s x t y
told_agree None spec extra s t x y well only samples j a b = one_of_two s t x y _ _ a.0 a.1 b.0 b.1
told_agree (Some (Sample n)) spec extra s t x y well only samples j a b = (a, b, samples_agree n s t x y samples j a b)
told_agree (Some (OfSpec task)) spec extra s t x y well only samples j (bytes, more, told, also, a) (others, rest, as_well, too, b) =
    let A = subst (λ bs. IsAnswerOf task bs more s x) (sym told) a in
    let B = subst (λ bs. IsAnswerOf task bs rest t y) (sym as_well) b in
    tasks_agree task spec extra s t x y well only (subst (λ bs. IsAnswerOf task spec bs s x) (sym also) A) (subst (λ bs. IsAnswerOf task spec bs t y) (sym too) B)

pub answers_to_one_agree : (words : List (List ℕ)) (spec extra : List ℕ) (status other_status : ℕ) (text other_text : List ℕ) → TypesWell → SaysOne → OfSamples
    → IsAnswer (job_of words) (Some spec) (Some extra) status text → IsAnswer (job_of words) (Some spec) (Some extra) other_status other_text
    → Agree (job_of words) status text other_status other_text
answers_to_one_agree words spec extra status other_status text other_text well only samples a b =
    told_agree (job_of words) spec extra status other_status text other_text well only samples (is_job-job_of words) a b
