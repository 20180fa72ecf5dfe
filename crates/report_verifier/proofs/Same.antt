-- What the test of a witness says of what a report shows; and a report has a verdict on each obligation.
use Rattle.std.proofs.Common.{◌≡◌, ℕ, suc, ◌+◌, Bool, true, false, ◌&&◌, List, [], ◌∷◌, length, refl, sym, ap, ◌∙◌, arith}
use Rattle.std.specs.Prelude.{nat_lt, IsTrue, ◌↔◌}
use Rattle.std.proofs.lemmas.Bool.{and_parts, eqb-true}
use Rattle.spec_core.specs.declared.world.World.{World}
use Rattle.spec_core.specs.Specification.{Specification}
use Rattle.spec_core.specs.State.{reads}
use Rattle.spec_core.specs.Fits.{fits_places, world_fits, is_state}
use Rattle.obligation_list.specs.declared.obligation.Obligation.{Obligation}
use Rattle.obligation_list.specs.declared.witness.Witness.{Witness}
use Rattle.obligation_list.specs.Breaking.{elements_of}
use Rattle.obligation_list.specs.Refuting.{IsRefutation, refutes_in}
use Rattle.obligation_list.proofs.Refuted.{refuted as refutes-refutes, refuting as refutation-refutes}
use Rattle.report_lines.specs.Heads.{title_format, budget_format}
use Rattle.proof_report.specs.declared.place.PartialWitness.{PartialWitness}
use Rattle.proof_report.specs.Verdicts.{VerdictForm, obligation_at, obligation_count, is_verdict, are_verdicts, ReportForm, is_report}
use Rattle.report_reader.specs.Reader.{IsShownBy}
use Rattle.report_verifier.specs.Rules.{refutes_shown}
use Rattle.report_verifier.specs.Taking.{witness_refutes}

-- ---- one verdict

and_true : (b : Bool) → (b && true) ≡ b
and_true true = refl
and_true false = refl

pub refutes_same : (d : Specification) (ob : Obligation) (p : PartialWitness) (es : List ℕ) (w : Witness) → IsShownBy d p es w → witness_refutes d ob w ≡ refutes_shown d ob p es
refutes_same d ob p es w s =
    let fit : is_state d w.world w.state ≡ true = ap (λ (x : World). is_state d x w.state) s.world ∙ s.fits in
    let rest : Bool = refutes_in d ob w.world (reads w.state) w.calls w.elements in
    ap (λ (b : Bool). ((world_fits d w.world && b) && fits_places w.world (elements_of d ob) w.elements) && rest) fit
    ∙ ap (λ (b : Bool). (b && fits_places w.world (elements_of d ob) w.elements) && rest) (and_true (world_fits d w.world))
    ∙ (λ i. (world_fits d (s.world i) && fits_places (s.world i) (elements_of d ob) (s.elements i)) && refutes_in d ob (s.world i) (s.state i) (s.calls i) (s.elements i))

same_test : (a b : Bool) → (a ≡ true → b ≡ true) → (b ≡ true → a ≡ true) → a ≡ b
same_test true b h k = sym (h refl)
same_test false true h k = k refl
same_test false false h k = refl

-- what the test of a witness says
pub refutes_tested : (d : Specification) (ob : Obligation) (w : Witness) (b : Bool) → (IsTrue b ↔ IsRefutation d ob w.world w.state w.calls w.elements) → b ≡ witness_refutes d ob w
refutes_tested d ob w b h =
    same_test b (witness_refutes d ob w) (λ t. refutation-refutes d ob w.world w.state w.elements w.calls (h.0 t)) (λ t. h.1 (refutes-refutes d ob w.world w.state w.elements w.calls t))

-- ---- how many

verdicts_many : (d : Specification) (version i : ℕ) (vs : List VerdictForm) → are_verdicts d version i vs ≡ true → i + length vs ≡ obligation_count d
verdicts_many d version i [] h = let e = eqb-true i (obligation_count d) h in omega (arith, e)
verdicts_many d version i (v ∷ vs) h =
    let a = and_parts (nat_lt i (obligation_count d)) _ h in
    let b = and_parts (is_verdict d version (obligation_at d i) v) (are_verdicts d version (suc i) vs) a.1 in
    let e = verdicts_many d version (suc i) vs b.1 in
    omega (arith, e)

pub report_verdicts : (d : Specification) (r : ReportForm) → is_report d r ≡ true → are_verdicts d r.version 0 r.verdicts ≡ true
report_verdicts d r h = (and_parts (budget_format.fits r.budget) _ (and_parts (title_format.fits r.version) _ h).1).1

-- a report has a verdict on each obligation
pub all_verdicts : (d : Specification) (r : ReportForm) → is_report d r ≡ true → length r.verdicts ≡ obligation_count d
all_verdicts d r h = let e = verdicts_many d r.version 0 r.verdicts (report_verdicts d r h) in omega (arith, e)
