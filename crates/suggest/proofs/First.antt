-- The first of some obligations and those behind it, and what they come to by its verdict.
use Rattle.std.proofs.Common.{◌≡◌, ℕ, suc, ◌≤◌, ◌-◌, inl, inr, List, [], ◌∷◌, ◌++◌, length, take, drop, get_or, Result, Ok, Err, refl, sym, ◌∙◌, ap, subst, arith}
use Rattle.std.specs.Prelude.{IfOk}
use Rattle.std.specs.List.{Contains}
use Rattle.std.proofs.Math.Seq.{take-length}
use Rattle.std.proofs.lemmas.List.Elements.{Contains-append_cases}
use Rattle.spec_core.specs.Specification.{Specification}
use Rattle.obligation_list.specs.declared.obligation.Obligation.{Obligation}
use Rattle.obligation_list.specs.declared.obligation.Obligation.TheVariants.{Init}
use Rattle.obligation_list.specs.declared.witness.Witness.{Witness}
use Rattle.obligation_list.proofs.Members.{here, there}
use Rattle.proof_lines.specs.declared.line.Line.{Line}
use Rattle.proof_report.specs.declared.verdict.Cause.{Cause}
use Rattle.proof_report.specs.declared.verdict.Verdict.{Verdict}
use Rattle.proof_report.specs.declared.verdict.Verdict.TheVariants as verdicts
use Rattle.proof_report.specs.Texts.{WitnessFits}
use Rattle.report_bytes.specs.Showing.{shown_verdict, shown_cause, IsFit}
use Rattle.check_run.specs.Good.{IsGood}
use Rattle.check_run.specs.Reports.{written_version}
use Rattle.suggest.specs.Answers.{HasLog, HaveLogs, HasProof, IsFound}
use Rattle.suggest.specs.declared.answer.Found.{Found}
use Rattle.suggest.specs.declared.answer.Found.TheVariants as found
use Rattle.suggest.proofs.Cons.{nowhere, cons_cases}
use Rattle.suggest.proofs.Findings.{behind_proved, at_refuted}

abbrev pub first : List Obligation → Obligation
first obs = get_or obs 0 (Init 0)

abbrev pub others : List Obligation → List Obligation
others obs = take (length obs - 1) (drop 1 obs)

split : (obs : List Obligation) → 1 ≤ length obs → obs ≡ first obs ∷ others obs
split [] h = absurd (let e : ⊥ = omega (arith, h) in e)
split (o ∷ os) h = let e : suc (length os) - 1 ≡ length os = omega arith in ap (λ t. o ∷ t) (sym (ap (λ n. take n os) e ∙ take-length os))

pub first_member : (obs : List Obligation) → 1 ≤ length obs → Contains obs (first obs)
first_member obs h = subst (λ os. Contains os (first obs)) (sym (split obs h)) (here (first obs) (others obs) (first obs) refl)

pub others_members : (P : Obligation → Type 0) (obs : List Obligation) → 1 ≤ length obs → ((x : Obligation) → Contains obs x → P x) → (x : Obligation) → Contains (others obs) x → P x
others_members P obs h all x m = all x (subst (λ os. Contains os x) (sym (split obs h)) (there (first obs) (others obs) x m))

pub witness_fits : (d : Specification) (ob : Obligation) (v : Verdict) (w : Witness) → v ≡ verdicts.Refuted w → IsFit d written_version ob v → WitnessFits d w
witness_fits d ob v w is f = let fit = subst (λ (x : Verdict). IsFit d written_version ob x) is f in fit.fits

-- a proved one and those behind it
pub first_proved : {E : Type 0} (d : Specification) (budget : ℕ) (obs : List Obligation) → 1 ≤ length obs → HasProof d budget (first obs) → (r : Result Found E) → IfOk r (λ f. IsFound d budget (others obs) f)
    → IfOk r (λ f. IsFound d budget obs f)
first_proved d budget obs h g (Ok f) rest = subst (λ os. IsFound d budget os f) (sym (split obs h)) (behind_proved d budget (first obs) (others obs) f g rest)
first_proved d budget obs h g (Err e) rest = tt

-- one that a log proves
pub first_log : (d : Specification) (budget : ℕ) (ob : Obligation) (v : Verdict) (log : List Line) → v ≡ verdicts.Proved log → IsGood d budget ob (shown_verdict d v) → HasLog d budget ob
first_log d budget ob v log is good = (log, subst (λ (x : Verdict). IsGood d budget ob (shown_verdict d x)) is good)

-- one more that a log proves
pub one_log_more : (d : Specification) (budget : ℕ) (obs : List Obligation) (ob : Obligation) → HaveLogs d budget obs → HasLog d budget ob → HaveLogs d budget (obs ++ ob ∷ [])
one_log_more d budget obs ob all g x m = elim (Contains-append_cases obs (ob ∷ []) x m) [
  | inl l ↦ all x l
  | inr r ↦ elim (cons_cases ob [] x r) [ inl e ↦ subst (HasLog d budget) e g | inr n ↦ absurd (nowhere x n) ]
]

-- none at all
pub no_logs : (d : Specification) (budget : ℕ) → HaveLogs d budget []
no_logs d budget x m = absurd (nowhere x m)

module _ (d : Specification) (budget : ℕ) (obs : List Obligation) (h : 1 ≤ length obs) (v : Verdict) (good : IsGood d budget (first obs) (shown_verdict d v)) where
  good_of : (x : Verdict) → v ≡ x → IsGood d budget (first obs) (shown_verdict d x)
  good_of x is = subst (λ (y : Verdict). IsGood d budget (first obs) (shown_verdict d y)) is good

  at_all : (f : Found) → IsFound d budget (first obs ∷ others obs) f → IsFound d budget obs f
  at_all f g = subst (λ (os : List Obligation). IsFound d budget os f) (sym (split obs h)) g

  pub first_refuted : (w : Witness) → v ≡ verdicts.Refuted w → IsFound d budget obs (found.Refuted (first obs) w)
  first_refuted w is = at_all (found.Refuted (first obs) w) (at_refuted d budget (first obs) w (others obs) (good_of (verdicts.Refuted w) is))

  pub first_undecided : (cause : Cause) → v ≡ verdicts.Undecided cause → (f g : Found)
      → ((e : Specification) (most : ℕ) (os : List Obligation) → IsGood e most (first obs) (shown_cause cause) → IsFound e most os f → IsFound e most (first obs ∷ os) g)
      → IsFound d budget (others obs) f → IsFound d budget obs g
  first_undecided cause is f g more rest = at_all g (more d budget (others obs) (good_of (verdicts.Undecided cause) is) rest)
