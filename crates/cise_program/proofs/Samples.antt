-- Two counts of good verdicts on one specification agree where none of them is undecided.
use Rattle.std.proofs.Common.{◌≡◌, ◌⊎◌, ℕ, zero, suc, ◌≤◌, ◌<◌, true, List, [], ◌∷◌, refl, sym, ◌∙◌, ap, subst, inl, inr, arith}
use Rattle.std.specs.Prelude.{nat_le}
use Rattle.std.proofs.lemmas.Bool.{and_parts}
use Rattle.std.proofs.lemmas.Bool.Decides.{nat_tests}
use Rattle.byte_ports.specs.Ending.{IsOne}
use Rattle.spec_core.specs.Specification.{Specification}
use Rattle.spec_core.specs.Typed.{is_specification}
use Rattle.obligation_list.specs.declared.obligation.Obligation.{Obligation}
use Rattle.obligation_list.specs.Obligations.{obligations_of}
use Rattle.obligation_list.specs.Breaking.{Breaks, Holds}
use Rattle.proof_lines.specs.declared.line.Line.{Line}
use Rattle.report_lines.specs.declared.head.Tally.{Tally}
use Rattle.proof_report.specs.declared.place.PartialWitness.{PartialWitness}
use Rattle.proof_report.specs.Verdicts.{VerdictForm, proved, refuted, instances, lines, rows, range}
use Rattle.proof_report.specs.Events.{no_verdicts, with_proved, with_refuted, with_verdict, outcome_of}
use Rattle.report_bytes.specs.Showing.{counted}
use Rattle.check_run.specs.Shown.{listing_of}
use Rattle.check_run.specs.Good.{IsGood, AreGood}
use Rattle.check_run.specs.Reports.{status_of}
use Rattle.sample_specs.specs.Sample.{sample}
use Rattle.cise_program.specs.Words.{default_budget, most_sample, is_within}
use Rattle.cise_program.specs.commands.Sample.{sample_text, IsSampled}
use Rattle.cise_program.specs.Answer.{CountsUndecided}

-- what the layers below promise of generated specifications, and of good verdicts
pub record OfSamples : Type 0 where
  pub well_formed : (n : ℕ) → 1 ≤ n → n ≤ 12 → is_specification (sample n) ≡ true
  pub holds : (d : Specification) (budget : ℕ) (ob : Obligation) (log : List Line) → is_specification d ≡ true → IsGood d budget ob (proved log) → Holds d ob
  pub breaks : (d : Specification) (budget : ℕ) (ob : Obligation) (p : PartialWitness) (es : List ℕ) → IsGood d budget ob (refuted p es) → Breaks d ob p.world (listing_of d p) p.calls es

not_zero : (n : ℕ) → suc n ≡ 0 → ⊥
not_zero n e = omega (arith, e)

-- where no verdict is undecided at the end, none was before
none_before : (v : VerdictForm) (t : Tally) → (with_verdict v t).undecided ≡ 0 → t.undecided ≡ 0
none_before (proved log) t e = e
none_before (refuted p es) t e = e
none_before instances t e = absurd (not_zero t.undecided e)
none_before (lines log) t e = absurd (not_zero t.undecided e)
none_before (rows log r) t e = absurd (not_zero t.undecided e)
none_before (range log r) t e = absurd (not_zero t.undecided e)

none_at_first : (vs : List VerdictForm) (t : Tally) → (counted t vs).undecided ≡ 0 → t.undecided ≡ 0
none_at_first [] t e = e
none_at_first (v ∷ vs) t e = none_before v t (none_at_first vs (with_verdict v t) e)

module _ (d : Specification) (budget : ℕ) (typed : is_specification d ≡ true) (laws : OfSamples) where
  -- A verdict says that its obligation holds, or that it doesn't.
  abbrev Says : Obligation → VerdictForm → Tally → Type 0
  Says ob v t = ((with_verdict v t ≡ with_proved t) × Holds d ob) ⊎ ((with_verdict v t ≡ with_refuted t) × (Holds d ob → ⊥))

  says : (ob : Obligation) (v : VerdictForm) (t : Tally) → IsGood d budget ob v → (with_verdict v t).undecided ≡ 0 → Says ob v t
  says ob (proved log) t g e = inl (refl, laws.holds d budget ob log typed g)
  says ob (refuted p es) t g e = inr (refl, λ holds. holds p.world (listing_of d p) p.calls es (laws.breaks d budget ob p es g))
  says ob instances t g e = absurd (not_zero t.undecided e)
  says ob (lines log) t g e = absurd (not_zero t.undecided e)
  says ob (rows log r) t g e = absurd (not_zero t.undecided e)
  says ob (range log r) t g e = absurd (not_zero t.undecided e)

  same_step : (ob : Obligation) (v u : VerdictForm) (t : Tally) → Says ob v t → Says ob u t → with_verdict v t ≡ with_verdict u t
  same_step ob v u t (inl (a, holds)) (inl (b, also)) = a ∙ sym b
  same_step ob v u t (inl (a, holds)) (inr (b, breaks)) = absurd (breaks holds)
  same_step ob v u t (inr (a, breaks)) (inl (b, holds)) = absurd (breaks holds)
  same_step ob v u t (inr (a, breaks)) (inr (b, also)) = a ∙ sym b

  same_counts : (obs : List Obligation) (vs us : List VerdictForm) (t : Tally) → AreGood d budget obs vs → AreGood d budget obs us → (counted t vs).undecided ≡ 0 → (counted t us).undecided ≡ 0
      → counted t vs ≡ counted t us
  same_counts [] [] [] t g h e f = refl
  same_counts [] [] (u ∷ us) t g h e f = absurd h
  same_counts [] (v ∷ vs) us t g h e f = absurd g
  same_counts (ob ∷ obs) [] us t g h e f = absurd g
  same_counts (ob ∷ obs) (v ∷ vs) [] t g h e f = absurd h
  same_counts (ob ∷ obs) (v ∷ vs) (u ∷ us) t g h e f =
      let same : with_verdict v t ≡ with_verdict u t = same_step ob v u t (says ob v t g.0 (none_at_first vs (with_verdict v t) e)) (says ob u t h.0 (none_at_first us (with_verdict u t) f)) in
      let there : (counted (with_verdict v t) us).undecided ≡ 0 = subst (λ (x : Tally). (counted x us).undecided ≡ 0) (sym same) f in
      same_counts obs vs us (with_verdict v t) g.1 h.1 e there ∙ ap (λ (x : Tally). counted x us) same

some_or_none : (n : ℕ) → (n ≡ 0) ⊎ (0 < n)
some_or_none zero = inl refl
some_or_none (suc n) = inr (omega arith)

within_sample : (n : ℕ) → is_within most_sample n ≡ true → (1 ≤ n) × (n ≤ 12)
within_sample n h = let parts = and_parts (nat_le 1 n) (nat_le n most_sample) h in (least n parts.0, most n parts.1)
  where
    least : (n : ℕ) → nat_le 1 n ≡ true → 1 ≤ n
    least n h = grind (arith, nat_tests)

    most : (n : ℕ) → nat_le n most_sample ≡ true → n ≤ 12
    most n h = grind (arith, nat_tests)

-- two samples of one number are the same, or one of them counts an undecided verdict
pub samples_agree : (n s t : ℕ) (x y : List ℕ) → OfSamples → is_within most_sample n ≡ true → IsSampled n s x → IsSampled n t y → IsOne s x t y ⊎ (CountsUndecided n x ⊎ CountsUndecided n y)
samples_agree n s t x y laws within a b = by_counts (some_or_none a.tally.undecided) (some_or_none b.tally.undecided)
  where
    by_counts : (a.tally.undecided ≡ 0) ⊎ (0 < a.tally.undecided) → (b.tally.undecided ≡ 0) ⊎ (0 < b.tally.undecided) → IsOne s x t y ⊎ (CountsUndecided n x ⊎ CountsUndecided n y)
    by_counts (inr some) q = inr (inl (a.tally, some, a.text_is))
    by_counts (inl none) (inr some) = inr (inr (b.tally, some, b.text_is))
    by_counts (inl none) (inl neither) =
        let limits = within_sample n within in
        let vs = a.decided.verdicts in let us = b.decided.verdicts in
        let first : (counted no_verdicts vs).undecided ≡ 0 = subst (λ (k : Tally). k.undecided ≡ 0) a.decided.tally_is none in
        let second : (counted no_verdicts us).undecided ≡ 0 = subst (λ (k : Tally). k.undecided ≡ 0) b.decided.tally_is neither in
        let counts = same_counts (sample n) default_budget (laws.well_formed n limits.0 limits.1) laws (obligations_of (sample n)) vs us no_verdicts a.decided.good b.decided.good first second in
        let same : b.tally ≡ a.tally = b.decided.tally_is ∙ sym counts ∙ sym a.decided.tally_is in
        inl (b.status_is ∙ ap (λ k. status_of (outcome_of k)) same ∙ sym a.status_is, b.text_is ∙ ap (sample_text n) same ∙ sym a.text_is)
