-- Where all verdicts of an accepted report are proved, each obligation holds.
use Rattle.std.proofs.Common.{◌≡◌, ℕ, zero, suc, ◌+◌, ◌<◌, Bool, true, false, List, [], ◌∷◌, length, refl, ap, ◌∙◌, subst, arith}
use Rattle.std.specs.Prelude.{nat_lt, if◌then◌else◌}
use Rattle.std.specs.List.{fold, Contains}
use Rattle.std.proofs.lemmas.Bool.{false≢true, ltb-false}
use Rattle.std.proofs.lemmas.List.{get_or_default}
use Rattle.spec_core.specs.Specification.{Specification}
use Rattle.obligation_list.specs.declared.obligation.Obligation.{Obligation}
use Rattle.obligation_list.specs.declared.obligation.Obligation.TheVariants as obligation
use Rattle.obligation_list.specs.Obligations.{obligations_of}
use Rattle.obligation_list.specs.Breaking.{Holds}
use Rattle.proof_lines.specs.declared.line.Line.{Line}
use Rattle.report_lines.specs.declared.head.Tally.{Tally}
use Rattle.report_lines.specs.declared.head.Outcome.{Outcome}
use Rattle.report_lines.specs.declared.head.Outcome.TheVariants as outcome
use Rattle.proof_report.specs.Verdicts.{VerdictForm, proved, refuted, instances, lines, rows, range, obligation_at, obligation_count}
use Rattle.proof_report.specs.Events.{no_verdicts, with_verdict, outcome_of}
use Rattle.report_verifier.specs.Valid.{IsProof, IsValid, AreValid}

-- no verdict so far is refuted or undecided
pub record IsClean (t : Tally) : Type 0 where
  pub refuted : t.refuted ≡ 0
  pub undecided : t.undecided ≡ 0

abbrev is_accepted : Outcome → Bool
is_accepted outcome.Accepted = true
is_accepted outcome.Rejected = false
is_accepted outcome.Undecided = false

none : (n : ℕ) → nat_lt 0 n ≡ false → n ≡ 0
none n h = let l = ltb-false 0 n h in omega (arith, l)

pub IsClean-accepted : (t : Tally) → outcome_of t ≡ outcome.Accepted → IsClean t
IsClean-accepted t e = by_tests (nat_lt 0 t.refuted) (nat_lt 0 t.undecided) refl refl e
  where
    by_tests : (b c : Bool) → nat_lt 0 t.refuted ≡ b → nat_lt 0 t.undecided ≡ c → (if b then outcome.Rejected else (if c then outcome.Undecided else outcome.Accepted)) ≡ outcome.Accepted → IsClean t
    by_tests false false x y h = record { refuted = none t.refuted x; undecided = none t.undecided y }
    by_tests false true x y h = absurd (false≢true (ap is_accepted h))
    by_tests true c x y h = absurd (false≢true (ap is_accepted h))

not_zero : (n : ℕ) → suc n ≡ 0 → ⊥
not_zero n e = omega (arith, e)

before_verdict : (v : VerdictForm) (t : Tally) → IsClean (with_verdict v t) → IsClean t
before_verdict (proved log) t c = record { refuted = c.refuted; undecided = c.undecided }
before_verdict (refuted p es) t c = absurd (not_zero t.refuted c.refuted)
before_verdict instances t c = absurd (not_zero t.undecided c.undecided)
before_verdict (lines log) t c = absurd (not_zero t.undecided c.undecided)
before_verdict (rows log r) t c = absurd (not_zero t.undecided c.undecided)
before_verdict (range log r) t c = absurd (not_zero t.undecided c.undecided)

clean_before : (vs : List VerdictForm) (t : Tally) → IsClean (fold (λ t v. with_verdict v t) t vs) → IsClean t
clean_before [] t c = c
clean_before (v ∷ vs) t c = before_verdict v t (clean_before vs (with_verdict v t) c)

module _ (d : Specification) (budget : ℕ) (proves : (ob : Obligation) (log : List Line) → IsProof d ob log → Holds d ob) where
  holds_proved : (ob : Obligation) (v : VerdictForm) (t : Tally) → IsValid d budget ob v → IsClean (with_verdict v t) → Holds d ob
  holds_proved ob (proved log) t g c = proves ob log g
  holds_proved ob (refuted p es) t g c = absurd (not_zero t.refuted c.refuted)
  holds_proved ob instances t g c = absurd (not_zero t.undecided c.undecided)
  holds_proved ob (lines log) t g c = absurd (not_zero t.undecided c.undecided)
  holds_proved ob (rows log r) t g c = absurd (not_zero t.undecided c.undecided)
  holds_proved ob (range log r) t g c = absurd (not_zero t.undecided c.undecided)

  -- the obligations from a place on hold, where there are verdicts on them
  holds_from : (i : ℕ) (vs : List VerdictForm) (t : Tally) → AreValid d budget i vs → IsClean (fold (λ t v. with_verdict v t) t vs) → (j : ℕ) → j < length vs → Holds d (obligation_at d (i + j))
  holds_from i [] t g c j lt = absurd (omega arith)
  holds_from i (v ∷ vs) t g c zero lt =
      let place : i ≡ i + 0 = omega arith in
      subst (λ (m : ℕ). Holds d (obligation_at d m)) place (holds_proved (obligation_at d i) v t g.0 (clean_before vs (with_verdict v t) c))
  holds_from i (v ∷ vs) t g c (suc j) lt =
      let place : suc i + j ≡ i + suc j = omega arith in
      subst (λ (m : ℕ). Holds d (obligation_at d m)) place (holds_from (suc i) vs (with_verdict v t) g.1 c j (omega arith))

  -- so each obligation does
  pub all_hold : (vs : List VerdictForm) → length vs ≡ obligation_count d → AreValid d budget 0 vs → IsClean (fold (λ t v. with_verdict v t) no_verdicts vs) → (ob : Obligation) → Contains (obligations_of d) ob → Holds d ob
  all_hold vs many g c ob m =
      let lt = m.1 in
      let place : 0 + m.0 ≡ m.0 = omega arith in
      let h : Holds d (obligation_at d m.0) = subst (λ (k : ℕ). Holds d (obligation_at d k)) place (holds_from 0 vs no_verdicts g c m.0 (omega (arith, lt, many))) in
      let same : obligation_at d m.0 ≡ ob = get_or_default (obligations_of d) m.0 (obligation.Init 0) ob m.1 ∙ m.2 in
      subst (λ (x : Obligation). Holds d x) same h
