-- A report of good verdicts has no fault, and both count its verdicts alike.
use Rattle.std.proofs.Common.{◌≡◌, ℕ, suc, ◌+◌, true, ◌&&◌, List, [], ◌∷◌, length, get_or, Option, None, refl, ◌∙◌, ap, subst, arith}
use Rattle.std.specs.Prelude.{nat_lt}
use Rattle.std.specs.List.{fold}
use Rattle.std.proofs.lemmas.Bool.{and_parts}
use Rattle.spec_core.specs.Specification.{Specification}
use Rattle.obligation_list.specs.declared.obligation.Obligation.{Obligation}
use Rattle.obligation_list.specs.declared.obligation.Obligation.TheVariants.{Init}
use Rattle.obligation_list.specs.Obligations.{obligations_of}
use Rattle.report_lines.specs.Heads.{title_format, budget_format}
use Rattle.report_lines.specs.declared.head.Tally.{Tally}
use Rattle.proof_report.specs.declared.kind.Fault.{Fault}
use Rattle.proof_report.specs.declared.verdict.Verdict.{Verdict}
use Rattle.proof_report.specs.Verdicts.{VerdictForm, is_verdict, are_verdicts, obligation_at, obligation_count, is_report}
use Rattle.proof_report.specs.Events.{with_verdict, verdict_lines}
use Rattle.report_bytes.specs.Reading.{blocks_behind}
use Rattle.report_bytes.specs.Showing.{shown_verdict, counted, report_on}
use Rattle.check_run.specs.Good.{IsGood, AreGood}
use Rattle.check_run.specs.Reports.{forms_of, written_version}
use Rattle.report_verifier.specs.Rules.{or_else, rule_fault, blocks_fault, verdict_fault}

pub same_count : (t : Tally) (vs : List VerdictForm) → counted t vs ≡ fold (λ t v. with_verdict v t) t vs
same_count t [] = refl
same_count t (v ∷ vs) = same_count (with_verdict v t) vs

-- these obligations are those from a place on
abbrev AreFrom : Specification → ℕ → List Obligation → Type 0
AreFrom d i obs = (n j : ℕ) → n ≡ i + j → get_or obs j (Init 0) ≡ obligation_at d n

module _ (d : Specification) (budget : ℕ) (sound : (line : ℕ) (ob : Obligation) (v : Verdict) → is_verdict d written_version ob (shown_verdict d v) ≡ true → IsGood d budget ob (shown_verdict d v) → rule_fault d budget line ob (shown_verdict d v) ≡ None) where
  no_blocks_fault : (n i : ℕ) (obs : List Obligation) (vs : List Verdict) → AreFrom d i obs → AreGood d budget obs (forms_of d vs) → are_verdicts d written_version i (forms_of d vs) ≡ true → blocks_fault d budget i (blocks_behind n (forms_of d vs)) ≡ None
  no_blocks_fault n i [] [] from g f = refl
  no_blocks_fault n i [] (v ∷ vs) from g f = absurd g
  no_blocks_fault n i (ob ∷ obs) [] from g f = absurd g
  no_blocks_fault n i (ob ∷ obs) (v ∷ vs) from g f =
      let x : VerdictForm = shown_verdict d v in
      let a = and_parts (nat_lt i (obligation_count d)) (is_verdict d written_version (obligation_at d i) x && are_verdicts d written_version (suc i) (forms_of d vs)) f in
      let b = and_parts (is_verdict d written_version (obligation_at d i) x) (are_verdicts d written_version (suc i) (forms_of d vs)) a.1 in
      let here : ob ≡ obligation_at d i = from i 0 (let z : i ≡ i + 0 = omega arith in z) in
      let good : IsGood d budget (obligation_at d i) x = subst (λ (o : Obligation). IsGood d budget o (shown_verdict d v)) here g.0 in
      let m : ℕ = n + 1 + length (verdict_lines x []) in
      ap (λ (o : Option Fault). or_else o (blocks_fault d budget (suc i) (blocks_behind m (forms_of d vs)))) (sound (n + 2) (obligation_at d i) v b.0 good)
      ∙ no_blocks_fault m (suc i) obs vs (λ k j e. from k (suc j) (let z : k ≡ i + suc j = omega (arith, e) in z)) g.1 b.1

  -- a report of good verdicts on all obligations has no fault
  pub no_fault : (vs : List Verdict) → AreGood d budget (obligations_of d) (forms_of d vs) → is_report d (report_on d written_version budget vs) ≡ true → verdict_fault d (report_on d written_version budget vs) ≡ None
  no_fault vs g ok =
      let a = and_parts (title_format.fits written_version) (budget_format.fits budget && are_verdicts d written_version 0 (forms_of d vs)) ok in
      let b = and_parts (budget_format.fits budget) (are_verdicts d written_version 0 (forms_of d vs)) a.1 in
      no_blocks_fault 3 0 (obligations_of d) vs (λ n j e. ap (obligation_at d) (let z : j ≡ n = omega (arith, e) in z)) g b.1
