-- Where one check, verification or upgrade ends with 0, no other one of the same specification ends with 1.
use Rattle.std.proofs.Common.{◌≡◌, ℕ, zero, suc, ◌+◌, ◌<◌, Bool, true, false, ◌&&◌, List, [], ◌∷◌, length, get_or, Some, refl, sym, ◌∙◌, ap, subst, inl, inr, arith}
use Rattle.std.specs.Prelude.{nat_lt, slice_get, if◌then◌else◌}
use Rattle.std.specs.List.{Contains}
use Rattle.std.proofs.lemmas.Bool.{and_parts}
use Rattle.std.proofs.lemmas.Bool.Decides.{nat_tests}
use Rattle.std.proofs.lemmas.List.{get_or_default}
use Rattle.spec_core.specs.declared.world.World.{World}
use Rattle.spec_core.specs.declared.world.Call.{Call}
use Rattle.spec_core.specs.Specification.{Specification}
use Rattle.spec_core.specs.State.{Listing}
use Rattle.spec_core.specs.Typed.{is_specification}
use Rattle.spec_trees.specs.Form.{TreeForm}
use Rattle.obligation_list.specs.declared.obligation.Obligation.{Obligation}
use Rattle.obligation_list.specs.declared.obligation.Obligation.TheVariants.{Init}
use Rattle.obligation_list.specs.Obligations.{obligations_of, IsObligation}
use Rattle.obligation_list.specs.Breaking.{Breaks, Safe}
use Rattle.report_lines.specs.declared.head.Tally.{Tally}
use Rattle.report_lines.specs.declared.head.Outcome.{Outcome}
use Rattle.report_lines.specs.declared.head.Outcome.TheVariants.{Accepted, Rejected, Undecided}
use Rattle.proof_report.specs.declared.place.PartialWitness.{PartialWitness}
use Rattle.proof_report.specs.Verdicts.{VerdictForm, proved, refuted, instances, lines, rows, range, is_verdict, are_verdicts, is_report, obligation_at, obligation_count}
use Rattle.proof_report.specs.Events.{no_verdicts, with_verdict, outcome_of}
use Rattle.report_lines.specs.Heads.{title_format, budget_format}
use Rattle.report_bytes.specs.Showing.{counted}
use Rattle.check_run.specs.Shown.{listing_of}
use Rattle.check_run.specs.Good.{AreGood}
use Rattle.check_run.specs.Reports.{forms_of}
use Rattle.report_verifier.specs.Verified.{IsAccepted}
use Rattle.spec_from_bytes.proofs.Reasons.{specification_unique}
use Rattle.cise_program.specs.declared.words.Task.{Task}
use Rattle.cise_program.specs.declared.words.Task.TheVariants.{Check, Verify, Upgrade, Replay, Simulate, Suggest, Spell}
use Rattle.cise_program.specs.Words.{is_judging}
use Rattle.cise_program.specs.commands.Check.{IsReport}
use Rattle.cise_program.specs.commands.Verify.{IsVerdict}
use Rattle.cise_program.specs.Answer.{IsOutcome, IsAnswerOf}
use Rattle.cise_program.proofs.Laws.{TypesWell, OfChecks, OfReports}
use Rattle.cise_program.proofs.Outcomes.{rejected_one, good_at}
use Rattle.cise_program.proofs.Reports.{is_specification-read, accepted_as}
use Rattle.cise_program.proofs.Upgrades.{as_verdict}
use Rattle.cise_program.proofs.CheckedReports.{same_count}
use Rattle.cise_program.proofs.Headline.{safe_outcome}

-- ---- a refutation among verdicts

pub record HasRefuted (vs : List VerdictForm) : Type 0 where
  pub place : ℕ
  pub witness : PartialWitness
  pub elements : List ℕ
  pub at : slice_get vs place ≡ Some (refuted witness elements)

behind : (v : VerdictForm) (vs : List VerdictForm) → HasRefuted vs → HasRefuted (v ∷ vs)
behind v vs h = record { place = suc h.place; witness = h.witness; elements = h.elements; at = h.at }

refuted_among : (vs : List VerdictForm) (t : Tally) → t.refuted ≡ 0 → 0 < (counted t vs).refuted → HasRefuted vs
refuted_among [] t none some = absurd (omega (arith, none, some))
refuted_among (proved log ∷ vs) t none some = behind (proved log) vs (refuted_among vs (with_verdict (proved log) t) none some)
refuted_among (refuted p es ∷ vs) t none some = record { place = 0; witness = p; elements = es; at = refl }
refuted_among (instances ∷ vs) t none some = behind instances vs (refuted_among vs (with_verdict instances t) none some)
refuted_among (lines log ∷ vs) t none some = behind (lines log) vs (refuted_among vs (with_verdict (lines log) t) none some)
refuted_among (rows log r ∷ vs) t none some = behind (rows log r) vs (refuted_among vs (with_verdict (rows log r) t) none some)
refuted_among (range log r ∷ vs) t none some = behind (range log r) vs (refuted_among vs (with_verdict (range log r) t) none some)

abbrev is_rejected : Outcome → Bool
is_rejected Accepted = false
is_rejected Rejected = true
is_rejected Undecided = false

false_true : false ≡ true → ⊥
false_true e = absurd cc

some_refuted : (t : Tally) → outcome_of t ≡ Rejected → 0 < t.refuted
some_refuted t e = by_tests (nat_lt 0 t.refuted) (nat_lt 0 t.undecided) refl e
  where
    by_tests : (b c : Bool) → nat_lt 0 t.refuted ≡ b → (if b then Rejected else (if c then Undecided else Accepted)) ≡ Rejected → 0 < t.refuted
    by_tests true c h e = grind (arith, nat_tests)
    by_tests false true h e = absurd (false_true (ap is_rejected e))
    by_tests false false h e = absurd (false_true (ap is_rejected e))

-- where verdicts come to status 1, one is a refutation
pub refuted_of : (vs : List VerdictForm) (t : Tally) → t ≡ counted no_verdicts vs → outcome_of t ≡ Rejected → HasRefuted vs
refuted_of vs t is e = refuted_among vs no_verdicts refl (subst (λ (u : Tally). 0 < u.refuted) is (some_refuted t e))

-- ---- its obligation

good_within : (d : Specification) (budget : ℕ) (obs : List Obligation) (vs : List VerdictForm) (i : ℕ) (v : VerdictForm) → AreGood d budget obs vs → slice_get vs i ≡ Some v → i < length obs
good_within d budget [] [] zero v g e = absurd cc
good_within d budget [] [] (suc i) v g e = absurd cc
good_within d budget [] (w ∷ vs) i v g e = absurd g
good_within d budget (ob ∷ obs) [] i v g e = absurd g
good_within d budget (ob ∷ obs) (w ∷ vs) zero v g e = omega arith
good_within d budget (ob ∷ obs) (w ∷ vs) (suc i) v g e = let less = good_within d budget obs vs i v g.1 e in omega (arith, less)

below : (n m : ℕ) → nat_lt n m ≡ true → n < m
below n m h = grind (arith, nat_tests)

verdicts_within : (d : Specification) (version k : ℕ) (vs : List VerdictForm) (i : ℕ) (v : VerdictForm) → are_verdicts d version k vs ≡ true → slice_get vs i ≡ Some v → k + i < obligation_count d
verdicts_within d version k [] zero v a e = absurd cc
verdicts_within d version k [] (suc i) v a e = absurd cc
verdicts_within d version k (w ∷ vs) zero v a e =
    let parts = and_parts (nat_lt k (obligation_count d)) (is_verdict d version (obligation_at d k) w && are_verdicts d version (suc k) vs) a in
    let less = below k (obligation_count d) parts.0 in omega (arith, less)
verdicts_within d version k (w ∷ vs) (suc i) v a e =
    let parts = and_parts (nat_lt k (obligation_count d)) (is_verdict d version (obligation_at d k) w && are_verdicts d version (suc k) vs) a in
    let rest = and_parts (is_verdict d version (obligation_at d k) w) (are_verdicts d version (suc k) vs) parts.1 in
    let less = verdicts_within d version (suc k) vs i v rest.1 e in omega (arith, less)

-- the members of the list are obligations
abbrev pub ListsObligations : Type 0
ListsObligations = (d : Specification) (ob : Obligation) → Contains (obligations_of d) ob → IsObligation d ob

listed_at : (d : Specification) (i : ℕ) → ListsObligations → i < obligation_count d → IsObligation d (obligation_at d i)
listed_at d i lists less = lists d (obligation_at d i) (i, less, sym (get_or_default (obligations_of d) i (Init 0) (obligation_at d i) less))

-- ---- broken specifications

-- One of the obligations of a specification is broken.
pub record IsBroken (d : Specification) : Type 0 where
  pub obligation : Obligation
  pub is : IsObligation d obligation
  pub world : World
  pub state : Listing
  pub calls : List Call
  pub elements : List ℕ
  pub breaks : Breaks d obligation world state calls elements

unsafe : (d : Specification) → Safe d → IsBroken d → ⊥
unsafe d safe b = safe b.obligation b.is b.world b.state b.calls b.elements b.breaks

broken_checked : (d : Specification) (budget : ℕ) (text : List ℕ) → OfChecks → ListsObligations → IsReport budget d 1 text → IsBroken d
broken_checked d budget text laws lists r =
    let vs = forms_of d r.checked.verdicts in
    let h = refuted_of vs r.tally r.checked.tally_is (rejected_one (outcome_of r.tally) r.status_is) in
    let good = good_at d budget (obligations_of d) vs h.place (refuted h.witness h.elements) r.checked.good h.at in
    record {
      obligation = obligation_at d h.place;
      is = listed_at d h.place lists (good_within d budget (obligations_of d) vs h.place (refuted h.witness h.elements) r.checked.good h.at);
      world = h.witness.world;
      state = listing_of d h.witness;
      calls = h.witness.calls;
      elements = h.elements;
      breaks = laws.breaks d budget (obligation_at d h.place) h.witness h.elements good;
    }

broken_accepted : (d : Specification) (bytes : List ℕ) (tally : Tally) → OfReports → ListsObligations → IsAccepted d bytes tally → outcome_of tally ≡ Rejected → IsBroken d
broken_accepted d bytes tally laws lists a e =
    let r = a.report in
    let h = refuted_of r.verdicts tally (a.counts ∙ sym (same_count no_verdicts r.verdicts)) e in
    let broken = laws.breaks d r h.place h.witness h.elements a.bytes_of.can_stand a.sound h.at in
    let title = and_parts (title_format.fits r.version) (budget_format.fits r.budget && are_verdicts d r.version 0 r.verdicts) a.bytes_of.can_stand in
    let fits = and_parts (budget_format.fits r.budget) (are_verdicts d r.version 0 r.verdicts) title.1 in
    let within = verdicts_within d r.version 0 r.verdicts h.place (refuted h.witness h.elements) fits.1 h.at in
    let less : h.place < obligation_count d = omega (arith, within) in
    record {
      obligation = obligation_at d h.place;
      is = listed_at d h.place lists less;
      world = h.witness.world;
      state = broken.0;
      calls = h.witness.calls;
      elements = h.elements;
      breaks = broken.2;
    }

broken_verified : (d : Specification) (bytes text : List ℕ) → OfReports → ListsObligations → IsVerdict d bytes 1 text → IsBroken d
broken_verified d bytes text laws lists v =
    let a = accepted_as d bytes 1 v.said refl v.verified v.status_is in broken_accepted d bytes a.tally laws lists a.accepted (rejected_one (outcome_of a.tally) a.status_is)

-- status 1 of a task that judges shows that the specification is broken
broken_outcome : (task : Task) (tree : TreeForm) (d : Specification) (more text : List ℕ) → OfChecks → OfReports → ListsObligations → is_judging task ≡ true → IsOutcome task tree d more 1 text → IsBroken d
broken_outcome (Check budget) tree d more text checks reports lists j r = broken_checked d budget text checks lists r
broken_outcome Verify tree d more text checks reports lists j v = broken_verified d more text reports lists v
broken_outcome Upgrade tree d more text checks reports lists j v = let said = as_verdict d more 1 text v in broken_verified d more said.0 reports lists said.1
broken_outcome Replay tree d more text checks reports lists j v = absurd cc
broken_outcome Simulate tree d more text checks reports lists j v = absurd cc
broken_outcome Suggest tree d more text checks reports lists j v = absurd cc
broken_outcome Spell tree d more text checks reports lists j v = absurd cc

pub never_contradict : (task other : Task) (bytes more other_more text other_text : List ℕ) → TypesWell → OfChecks → OfReports → ListsObligations → is_judging task ≡ true → is_judging other ≡ true
    → IsAnswerOf task bytes more 0 text → IsAnswerOf other bytes other_more 1 other_text → ⊥
never_contradict task other bytes more other_more text other_text well checks reports lists j k (inl (why, is, one)) b = omega (arith, one.0)
never_contradict task other bytes more other_more text other_text well checks reports lists j k (inr (tree, d, read, done)) (inl (why, is, one)) = omega (arith, one.0)
never_contradict task other bytes more other_more text other_text well checks reports lists j k (inr (tree, d, read, done)) (inr (again, e, also, ended)) =
    let same = specification_unique bytes e d (again, also) (tree, read) in
    let safe = safe_outcome task tree d more text checks reports j (is_specification-read bytes tree d well read) done in
    unsafe d safe (subst IsBroken same (broken_outcome other again e other_more other_text checks reports lists k ended))
