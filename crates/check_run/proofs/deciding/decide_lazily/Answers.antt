use Rattle.std.proofs.Common.{◌≡◌, length, Result, Ok, Err, IfOk, sym, subst}
use Rattle.ground_numbers.specs.Problem.{problem_of}
use Rattle.report_bytes.specs.Showing.{shown_verdict}
use Rattle.check_run.specs.Good.{IsGood}
use Rattle.check_run.specs.Decided.{IsDecided}
use Rattle.check_run.proofs.deciding.decide_lazily.Goals as goal

-- what is true of a value is true of what is answered, where that is the value
of_value : {A E : Type 0} (P : A → Type 0) (x : A) (r : Result A E) → IfOk r (λ v. v ≡ x) → P x → IfOk r P
of_value P x (Ok v) e p = subst P (sym e) p
of_value P x (Err w) e p = tt

pub returns-in_ok-refute_by-in-Ok-Broken-clause-good : goal.returns-in_ok-refute_by-in-Ok-Broken-clause-good
returns-in_ok-refute_by-in-Ok-Broken-clause-good c =
    let asked = c.args.question.now in
    of_value (λ v. IsGood asked.spec.now asked.budget asked.ob.now (shown_verdict asked.spec.now v)) c.in_ok-refute_by-in-Ok-Broken.field-0 c.numbered-in-Ok-Broken.result c.numbered-in-Ok-Broken.ensures.same (c.in_ok-refute_by-in-Ok-Broken.ensures.good asked.budget)

pub returns-in_ok-refute_by-in-Ok-Broken-clause-decided : goal.returns-in_ok-refute_by-in-Ok-Broken-clause-decided
returns-in_ok-refute_by-in-Ok-Broken-clause-decided c = λ f.
    let asked = c.args.question.now in
    let atoms = length (problem_of asked.spec.now asked.ob.now).atoms in
    of_value (λ v. IsDecided atoms asked.budget v) c.in_ok-refute_by-in-Ok-Broken.field-0 c.numbered-in-Ok-Broken.result c.numbered-in-Ok-Broken.ensures.same (c.in_ok-refute_by-in-Ok-Broken.ensures.decided atoms asked.budget)
