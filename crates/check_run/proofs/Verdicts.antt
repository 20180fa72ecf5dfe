-- Good verdicts that are all proved mean that each obligation holds.
use Rattle.std.proofs.Common.{◌≡◌, ℕ, zero, suc, ◌<◌, Bool, true, false, ◌⊎◌, inl, inr, List, [], ◌∷◌, length, slice_index_or, refl, ap, subst, arith}
use Rattle.std.specs.Prelude.{nat_lt, if◌then◌else◌}
use Rattle.std.specs.List.{list_all, Contains}
use Rattle.std.proofs.lemmas.Bool.Decides.{nat_tests}
use Rattle.spec_core.specs.Specification.{Specification}
use Rattle.obligation_list.specs.declared.obligation.Obligation.{Obligation}
use Rattle.obligation_list.specs.Breaking.{Holds}
use Rattle.proof_lines.specs.Problems.{HasNoInterpretation, fits, has_good_row}
use Rattle.proof_lines.specs.declared.line.Line.{Line}
use Rattle.proof_kernel.proofs.Runs.{run-refutes}
use Rattle.ground_numbers.specs.Problem.{problem_of}
use Rattle.report_lines.specs.declared.head.Tally.{Tally}
use Rattle.report_lines.specs.declared.head.Outcome.{Outcome}
use Rattle.report_lines.specs.declared.head.Outcome.TheVariants as outcome
use Rattle.proof_report.specs.Verdicts.{VerdictForm, proved, refuted, instances, lines, rows, range}
use Rattle.proof_report.specs.Events.{with_verdict, outcome_of}
use Rattle.report_bytes.specs.Showing.{counted}
use Rattle.check_run.specs.Good.{Refutes, IsGood, AreGood}

-- a log that refutes a problem shows that it has no interpretation
pub Refutes-none : (d : Specification) (ob : Obligation) (log : List Line) → fits (problem_of d ob) ≡ true → list_all has_good_row (problem_of d ob).atoms ≡ true → Refutes (problem_of d ob) log → HasNoInterpretation (problem_of d ob)
Refutes-none d ob log f g r = run-refutes (problem_of d ob) log r.state f g r.runs r.empty

-- ---- tallies

-- no verdict so far is refuted or undecided
pub record IsClean (t : Tally) : Type 0 where
  pub refuted : t.refuted ≡ 0
  pub undecided : t.undecided ≡ 0

abbrev is_accepted : Outcome → Bool
is_accepted outcome.Accepted = true
is_accepted outcome.Rejected = false
is_accepted outcome.Undecided = false

false_true : false ≡ true → ⊥
false_true e = absurd cc

pub IsClean-accepted : (t : Tally) → outcome_of t ≡ outcome.Accepted → IsClean t
IsClean-accepted t e = by_tests (nat_lt 0 t.refuted) (nat_lt 0 t.undecided) refl refl e
  where
    none : (n : ℕ) → nat_lt 0 n ≡ false → n ≡ 0
    none n h = grind (arith, nat_tests)

    by_tests : (b c : Bool) → nat_lt 0 t.refuted ≡ b → nat_lt 0 t.undecided ≡ c → (if b then outcome.Rejected else (if c then outcome.Undecided else outcome.Accepted)) ≡ outcome.Accepted → IsClean t
    by_tests false false x y h = record { refuted = none t.refuted x; undecided = none t.undecided y }
    by_tests false true x y h = absurd (false_true (ap is_accepted h))
    by_tests true c x y h = absurd (false_true (ap is_accepted h))

not_zero : (n : ℕ) → suc n ≡ 0 → ⊥
not_zero n e = omega (arith, e)

before_verdict : (v : VerdictForm) (t : Tally) → IsClean (with_verdict v t) → IsClean t
before_verdict (proved log) t c = record { refuted = c.refuted; undecided = c.undecided }
before_verdict (refuted p es) t c = absurd (not_zero t.refuted c.refuted)
before_verdict instances t c = absurd (not_zero t.undecided c.undecided)
before_verdict (lines log) t c = absurd (not_zero t.undecided c.undecided)
before_verdict (rows log r) t c = absurd (not_zero t.undecided c.undecided)
before_verdict (range log r) t c = absurd (not_zero t.undecided c.undecided)

clean_before : (vs : List VerdictForm) (t : Tally) → IsClean (counted t vs) → IsClean t
clean_before [] t c = c
clean_before (v ∷ vs) t c = before_verdict v t (clean_before vs (with_verdict v t) c)

-- ---- obligations

nowhere : (ob : Obligation) → Contains [] ob → ⊥
nowhere ob m = let lt = m.1 in omega arith

cons_cases : (x : Obligation) (xs : List Obligation) (y : Obligation) → Contains (x ∷ xs) y → (x ≡ y) ⊎ Contains xs y
cons_cases x xs y m = at m.0 m.1 m.2
  where
    at : (k : ℕ) → k < suc (length xs) → slice_index_or (x ∷ xs) k y ≡ y → (x ≡ y) ⊎ Contains xs y
    at zero lt e = inl e
    at (suc k) lt e = inr (k, (let less : k < length xs = omega arith in less), e)

module _ (d : Specification) (budget : ℕ) (sound : (ob : Obligation) (log : List Line) → IsGood d budget ob (proved log) → Holds d ob) where
  holds_proved : (ob : Obligation) (v : VerdictForm) (t : Tally) → IsGood d budget ob v → IsClean (with_verdict v t) → Holds d ob
  holds_proved ob (proved log) t g c = sound ob log g
  holds_proved ob (refuted p es) t g c = absurd (not_zero t.refuted c.refuted)
  holds_proved ob instances t g c = absurd (not_zero t.undecided c.undecided)
  holds_proved ob (lines log) t g c = absurd (not_zero t.undecided c.undecided)
  holds_proved ob (rows log r) t g c = absurd (not_zero t.undecided c.undecided)
  holds_proved ob (range log r) t g c = absurd (not_zero t.undecided c.undecided)

  -- each of these obligations holds
  pub all_hold : (obs : List Obligation) (vs : List VerdictForm) (t : Tally) → AreGood d budget obs vs → IsClean (counted t vs) → (ob : Obligation) → Contains obs ob → Holds d ob
  all_hold [] vs t g c ob m = absurd (nowhere ob m)
  all_hold (x ∷ obs) [] t g c ob m = absurd g
  all_hold (x ∷ obs) (v ∷ vs) t g c ob m = elim (cons_cases x obs ob m) [
    | inl e ↦ subst (λ z. Holds d z) e (holds_proved x v t g.0 (clean_before vs (with_verdict v t) c))
    | inr r ↦ all_hold obs vs (with_verdict v t) g.1 c ob r
  ]
