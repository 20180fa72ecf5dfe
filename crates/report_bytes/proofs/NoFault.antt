-- The bytes of a report have no fault, and what is written of verdicts that fit is such.
use Rattle.std.proofs.Common.{◌≡◌, ℕ, suc, true, List, [], ◌∷◌, map, None, Result, Ok, Err, refl, ap, ◌∙◌, lt-ltb}
use Rattle.std.proofs.lemmas.Bool.{and_from, eq-eqb}
use Rattle.spec_core.specs.Specification.{Specification}
use Rattle.spec_core.specs.Typed.{is_specification}
use Rattle.report_lines.specs.Words.{parts}
use Rattle.report_lines.specs.Heads.{title_format, budget_format}
use Rattle.proof_report.specs.declared.event.Event.{Event}
use Rattle.proof_report.specs.declared.kind.ReportKind.{ReportKind}
use Rattle.proof_report.specs.declared.place.State.{State}
use Rattle.proof_report.specs.declared.verdict.Verdict.{Verdict}
use Rattle.proof_report.specs.declared.verdict.Verdict.TheVariants as verdicts
use Rattle.proof_report.specs.Verdicts.{ReportForm, is_report, is_verdict, are_verdicts, obligation_at, obligation_count}
use Rattle.obligation_list.specs.declared.obligation.Obligation.{Obligation}
use Rattle.proof_report.specs.Feeding
use Rattle.proof_report.specs.Feeding.{fed, fed_all, is_over}
use Rattle.report_reader.specs.Reader.{budget_of, stated, ReaderForm, read_on, read_behind, first_reader, end_fault}
use Rattle.proof_report.specs.Texts.{CanStand}
use Rattle.report_bytes.specs.Bytes.{lines_of, report_bytes}
use Rattle.report_bytes.specs.Reading.{read_lines, fault_behind, first_fault}
use Rattle.report_bytes.specs.Showing.{shown_verdict, report_on, written_text, AllStand, IsFit, AllFit}
use Rattle.report_bytes.proofs.BytesOfReports.{text_bytes_are_fed}
use Rattle.report_bytes.proofs.WrittenBytes.{written_is_report}
use Rattle.report_bytes.proofs.ShownFits.{shown_fits}

not_ok : {A : Type 0} (k : ReportKind) (y : A) → ◌≡◌ {A = Result A ReportKind} (Err k) (Ok y) → ⊥
not_ok k y e = cc

abbrev good : {A : Type 0} → A → Result A ReportKind
good x = Ok x

good_is : {A : Type 0} (x y : A) → good x ≡ good y → x ≡ y
good_is x y e = cc

bind_ok : {A B : Type 0} (r : Result A ReportKind) (f : A → Result B ReportKind) (y : B) → (Feeding.◌>>=◌ r f) ≡ Ok y → (x : A) × (r ≡ Ok x) × (f x ≡ Ok y)
bind_ok (Ok x) f y e = (x, refl, e)
bind_ok (Err k) f y e = absurd (not_ok k y e)

-- lines that are fed are read
reads_on : (lines : List (List ℕ)) (r : ReaderForm) (es : List Event) (u : State) → r.fault ≡ None → fed_all r.spec r.state (map parts lines) ≡ Ok (es, u)
    → (q : ReaderForm) × (read_lines r lines ≡ Ok q) × (q.state ≡ u) × (q.fault ≡ None)
unfolding read_lines fed_all
reads_on [] r es u none h = (r, refl, ap (λ (x : List Event × State). x.1) (good_is ([], r.state) (es, u) h), none)
reads_on (line ∷ lines) r es u none h =
    let b = bind_ok (fed r.spec r.state (parts line)) (λ (x : Event × State). Feeding.◌>>=◌ (fed_all r.spec x.1 (map parts lines)) (λ y. Ok (x.0 ∷ y.0, y.1))) (es, u) h in
    let c = bind_ok (fed_all r.spec b.0.1 (map parts lines)) (λ (y : List Event × State). Ok (b.0.0 ∷ y.0, y.1)) (es, u) b.2 in
    let p : (b.0.0 ∷ c.0.0, c.0.1) ≡ (es, u) = good_is (b.0.0 ∷ c.0.0, c.0.1) (es, u) c.2 in
    let next : ReaderForm = record { spec = r.spec; state = b.0.1; number = suc r.number; budget = stated (budget_of b.0.0) r.budget; fault = None } in
    let rest = reads_on lines next c.0.0 c.0.1 refl c.1 in
    let one : read_behind r (parts line) r.fault ≡ Ok (b.0.0, next) = ap (read_behind r (parts line)) none ∙ ap (read_on r) b.1 in
    let all : read_lines r (line ∷ lines) ≡ Ok rest.0 = rw one rest.1 in
    (rest.0, all, rest.2 ∙ ap (λ (x : List Event × State). x.1) p, rest.3)

pub report_has_no_fault : (d : Specification) (r : ReportForm) → is_specification d ≡ true → is_report d r ≡ true → first_fault d (report_bytes d r) ≡ None
report_has_no_fault d r ok v =
    let t = text_bytes_are_fed d r ok v in
    let q = reads_on (lines_of (report_bytes d r)) (first_reader d) _ t.1.0 refl t.1.1 in
    let over : is_over q.0.state.place ≡ true = ap (λ (s : State). is_over s.place) q.2 ∙ t.1.2 in
    (λ i. fault_behind (q.1 i) (t.0 i)) ∙ (λ i. end_fault q.0 (over i) (q.3 i))

-- ---- what is written

fits_one : (d : Specification) (version : ℕ) (ob : Obligation) (v : Verdict) → IsFit d version ob v → is_verdict d version ob (shown_verdict d v) ≡ true
fits_one d version ob (verdicts.Proved log) h = h
fits_one d version ob (verdicts.Refuted w) h = shown_fits d ob w h
fits_one d version ob (verdicts.Undecided c) h = h

fits_all : (d : Specification) (version i : ℕ) (vs : List Verdict) → AllFit d version i vs → are_verdicts d version i (map (shown_verdict d) vs) ≡ true
fits_all d version i [] h = eq-eqb i (obligation_count d) h
fits_all d version i (v ∷ vs) h = and_from _ _ (lt-ltb i (obligation_count d) h.0) (and_from _ _ (fits_one d version (obligation_at d i) v h.1) (fits_all d version (suc i) vs h.2))

stands_one : (d : Specification) (version : ℕ) (ob : Obligation) (v : Verdict) → IsFit d version ob v → CanStand d v
stands_one d version ob (verdicts.Proved log) h = tt
stands_one d version ob (verdicts.Refuted w) h = h.fits
stands_one d version ob (verdicts.Undecided c) h = tt

stand_all : (d : Specification) (version i : ℕ) (vs : List Verdict) → AllFit d version i vs → AllStand d vs
stand_all d version i [] h = tt
stand_all d version i (v ∷ vs) h = (stands_one d version (obligation_at d i) v h.1, stand_all d version (suc i) vs h.2)

pub written_is_read : (d : Specification) (version budget : ℕ) (vs : List Verdict) → is_specification d ≡ true → title_format.fits version ≡ true → budget_format.fits budget ≡ true → AllFit d version 0 vs
    → (is_report d (report_on d version budget vs) ≡ true) × (written_text d version budget vs ≡ report_bytes d (report_on d version budget vs)) × (first_fault d (written_text d version budget vs) ≡ None)
written_is_read d version budget vs ok t b h =
    let r = report_on d version budget vs in
    let fits : is_report d r ≡ true = and_from _ _ t (and_from _ _ b (fits_all d version 0 vs h)) in
    let w = written_is_report d version budget vs (stand_all d version 0 vs h) in
    (fits, w, ap (first_fault d) w ∙ report_has_no_fault d r ok fits)
