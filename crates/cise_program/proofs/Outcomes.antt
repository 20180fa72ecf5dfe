-- The statuses that verdicts come to.
use Rattle.std.proofs.Common.{◌≡◌, ℕ, zero, suc, ◌<◌, true, List, [], ◌∷◌, get_or, Some, refl, subst, arith}
use Rattle.std.specs.Prelude.{slice_get}
use Rattle.std.proofs.lemmas.Bool.Decides.{nat_tests}
use Rattle.spec_core.specs.Specification.{Specification}
use Rattle.obligation_list.specs.declared.obligation.Obligation.{Obligation}
use Rattle.obligation_list.specs.declared.obligation.Obligation.TheVariants.{Init}
use Rattle.report_lines.specs.declared.head.Outcome.{Outcome}
use Rattle.report_lines.specs.declared.head.Outcome.TheVariants.{Accepted, Rejected, Undecided}
use Rattle.proof_report.specs.Verdicts.{VerdictForm}
use Rattle.check_run.specs.Good.{IsGood, AreGood, AreGoodSoFar}
use Rattle.check_run.specs.Reports.{status_of}
use Rattle.cise_program.specs.Headline.{is_outcome}

-- status 0 is that of an accepted report alone
pub accepted_zero : (o : Outcome) → 0 ≡ status_of o → o ≡ Accepted
accepted_zero Accepted e = refl
accepted_zero Rejected e = absurd (omega (arith, e))
accepted_zero Undecided e = absurd (omega (arith, e))

-- and status 1 that of a rejected one
pub rejected_one : (o : Outcome) → 1 ≡ status_of o → o ≡ Rejected
rejected_one Accepted e = absurd (omega (arith, e))
rejected_one Rejected e = refl
rejected_one Undecided e = absurd (omega (arith, e))

-- the status of an outcome is one
pub is_outcome-status_of : (o : Outcome) → is_outcome (status_of o) ≡ true
is_outcome-status_of Accepted = refl
is_outcome-status_of Rejected = refl
is_outcome-status_of Undecided = refl

pub is_outcome-low : (n : ℕ) → is_outcome n ≡ true → n < 6
is_outcome-low n e = grind (arith, nat_tests)

-- each of good verdicts is good for its obligation
pub good_at : (d : Specification) (budget : ℕ) (obs : List Obligation) (vs : List VerdictForm) (i : ℕ) (v : VerdictForm)
    → AreGood d budget obs vs → slice_get vs i ≡ Some v → IsGood d budget (get_or obs i (Init 0)) v
good_at d budget [] [] zero v g e = absurd cc
good_at d budget [] [] (suc i) v g e = absurd cc
good_at d budget [] (w ∷ vs) i v g e = absurd g
good_at d budget (ob ∷ obs) [] i v g e = absurd g
good_at d budget (ob ∷ obs) (w ∷ vs) zero v g e = let same : w ≡ v = cc in subst (IsGood d budget ob) same g.0
good_at d budget (ob ∷ obs) (w ∷ vs) (suc i) v g e = good_at d budget obs vs i v g.1 e

-- so is each on the first ones
pub good_so_far_at : (d : Specification) (budget : ℕ) (obs : List Obligation) (vs : List VerdictForm) (i : ℕ) (v : VerdictForm)
    → AreGoodSoFar d budget obs vs → slice_get vs i ≡ Some v → IsGood d budget (get_or obs i (Init 0)) v
good_so_far_at d budget [] [] zero v g e = absurd cc
good_so_far_at d budget [] [] (suc i) v g e = absurd cc
good_so_far_at d budget [] (w ∷ vs) i v g e = absurd g
good_so_far_at d budget (ob ∷ obs) [] zero v g e = absurd cc
good_so_far_at d budget (ob ∷ obs) [] (suc i) v g e = absurd cc
good_so_far_at d budget (ob ∷ obs) (w ∷ vs) zero v g e = let same : w ≡ v = cc in subst (IsGood d budget ob) same g.0
good_so_far_at d budget (ob ∷ obs) (w ∷ vs) (suc i) v g e = good_so_far_at d budget obs vs i v g.1 e
