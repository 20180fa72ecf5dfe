-- Lines are fed to the end exactly where they are the text of a report, and of one alone.
use Rattle.std.proofs.Common.{◌≡◌, ℕ, suc, ◌≤◌, true, List, [], ◌∷◌, ◌++◌, map, Option, Some, None, Result, Ok, Err, inl, inr, refl, sym, ap, subst, ◌∙◌, arith}
use Rattle.std.proofs.lemmas.Bool.{and_parts, and_from}
use Rattle.std.proofs.lemmas.List.{append-nil}
use Rattle.spec_core.specs.declared.world.Call.{Call}
use Rattle.spec_core.specs.Specification.{Specification}
use Rattle.spec_core.specs.Typed.{is_specification}
use Rattle.proof_lines.specs.declared.line.Line.{Line}
use Rattle.report_lines.specs.declared.head.Tally.{Tally}
use Rattle.report_lines.specs.declared.witness.Fact.{Fact}
use Rattle.report_lines.specs.declared.witness.Reading.{Reading}
use Rattle.report_lines.specs.declared.witness.Shown.TheVariants as shown
use Rattle.report_lines.specs.Fields.{most_count}
use Rattle.report_lines.specs.Formats.{read}
use Rattle.report_lines.proofs.Exact.{chosen}
use Rattle.proof_report.specs.declared.event.Event.{Event}
use Rattle.proof_report.specs.declared.event.Event.TheVariants as events
use Rattle.proof_report.specs.declared.place.PartialWitness.{PartialWitness}
use Rattle.proof_report.specs.declared.place.State.{State}
use Rattle.proof_report.specs.declared.kind.ReportKind.{ReportKind}
use Rattle.proof_report.specs.Verdicts.{VerdictForm, proved, refuted, instances, lines, rows, range, obligation_count, ReportForm, is_report}
use Rattle.proof_report.specs.Events.{no_verdicts, with_verdict, log_lines, size_lines, const_lines, fact_lines, reading_lines, call_lines, witness_lines, verdict_lines, block_lines, report_lines, words, text}
use Rattle.proof_report.specs.Feeding.{◌>>=◌, line_at, says, judged, after, fed, fed_all, start, is_over, goes, admits, IsFed}
use Rattle.proof_report.specs.Gathering.{Gathered, with_event, gather, report_of}
use Rattle.obligation_list.proofs.Counting.{few_obligations}
use Rattle.proof_report.proofs.Sound.{admitted_is_report}
use Rattle.proof_report.proofs.Complete.{report_is_admitted}
use Rattle.proof_report.proofs.Lines.{line_ok, line_again}

-- ---- one line

bind_ok : {A B : Type 0} (r : Result A ReportKind) (f : A → Result B ReportKind) (y : B) → (r >>= f) ≡ Ok y → (x : A) × (r ≡ Ok x) × (f x ≡ Ok y)
bind_ok (Ok x) f y e = (x, refl, e)
bind_ok (Err k) f y e = absurd cc

abbrev done : {A : Type 0} → A → Result A ReportKind
done x = Ok x

done_is : {A : Type 0} (x y : A) → done x ≡ done y → x ≡ y
done_is x y e = cc

not_done : {A : Type 0} (k : ReportKind) (y : A) → ◌≡◌ {A = Result A ReportKind} (Err k) (Ok y) → ⊥
not_done k y e = cc

judged_ok : (d : Specification) (s : State) (o : Option Event) (x : Event × State) → judged d s o ≡ Ok x → (o ≡ Some x.0) × (says d s x.0 ≡ true) × (x.1 ≡ after d s x.0)
judged_ok d s None x h = absurd (not_done _ x h)
judged_ok d s (Some e) x h =
    elim (chosen (says d s e) _ _ _ h) [
      | inl k ↦
          let p : (e, after d s e) ≡ x = done_is (e, after d s e) x k.1 in
          subst (λ (x : Event × State). (Some e ≡ Some x.0) × (says d s x.0 ≡ true) × (x.1 ≡ after d s x.0)) p (refl, k.0, refl)
      | inr k ↦ absurd (not_done _ x k.1)
    ]

fed_ok : (d : Specification) (s : State) (ws : List (List ℕ)) (x : Event × State) → is_specification d ≡ true → fed d s ws ≡ Ok x → (ws ≡ words d x.0) × (goes d s x.0 ≡ true) × (x.1 ≡ after d s x.0)
fed_ok d s ws x ok h =
    let j = judged_ok d s (read (line_at d s) ws) x h in
    let l = line_ok d s ws x.0 ok j.0 in
    (l.0, and_from _ _ l.1 j.1, j.2)

fed_again : (d : Specification) (s : State) (e : Event) → is_specification d ≡ true → goes d s e ≡ true → fed d s (words d e) ≡ Ok (e, after d s e)
fed_again d s e ok g =
    let p = and_parts ((line_at d s).fits e) (says d s e) g in
    let r = line_again d s e ok p.0 in
    let t = p.1 in
    rw r (rw t refl)

-- ---- all lines

pub all_ok : (d : Specification) (s : State) (texts : List (List (List ℕ))) (es : List Event) (u : State) → is_specification d ≡ true → fed_all d s texts ≡ Ok (es, u) → is_over u.place ≡ true → (texts ≡ map (words d) es) × (admits d s es ≡ true)
unfolding fed_all admits
all_ok d s [] es u ok h over =
    let p : ([], s) ≡ (es, u) = done_is ([], s) (es, u) h in
    let q : (map (words d) es ≡ []) × (admits d u es ≡ true) = subst (λ (x : List Event × State). (map (words d) x.0 ≡ []) × (admits d u x.0 ≡ true)) p (refl, over) in
    (sym q.0, subst (λ (x : List Event × State). admits d x.1 es ≡ true) (sym p) q.1)
all_ok d s (line ∷ more) es u ok h over =
    let b = bind_ok (fed d s line) (λ (x : Event × State). fed_all d x.1 more >>= λ y. Ok (x.0 ∷ y.0, y.1)) (es, u) h in
    let c = bind_ok (fed_all d b.0.1 more) (λ (y : List Event × State). Ok (b.0.0 ∷ y.0, y.1)) (es, u) b.2 in
    let p : (b.0.0 ∷ c.0.0, c.0.1) ≡ (es, u) = done_is (b.0.0 ∷ c.0.0, c.0.1) (es, u) c.2 in
    let f = fed_ok d s line b.0 ok b.1 in
    let over_c : is_over c.0.1.place ≡ true = subst (λ (x : List Event × State). is_over x.1.place ≡ true) (sym p) over in
    let r = all_ok d b.0.1 more c.0.0 c.0.1 ok c.1 over_c in
    let goal : (line ∷ more ≡ map (words d) (b.0.0 ∷ c.0.0)) × (admits d s (b.0.0 ∷ c.0.0) ≡ true) =
    ((λ i. f.0 i ∷ r.0 i), and_from _ _ f.1 (subst (λ (v : State). admits d v c.0.0 ≡ true) f.2 r.1)) in
    subst (λ (x : List Event × State). (line ∷ more ≡ map (words d) x.0) × (admits d s x.0 ≡ true)) p goal

pub all_again : (d : Specification) (s : State) (es : List Event) → is_specification d ≡ true → admits d s es ≡ true → (u : State) × (fed_all d s (map (words d) es) ≡ Ok (es, u)) × (is_over u.place ≡ true)
unfolding fed_all admits
all_again d s [] ok h = (s, refl, h)
all_again d s (e ∷ es) ok h =
    let p = and_parts (goes d s e) (admits d (after d s e) es) h in
    let f = fed_again d s e ok p.0 in
    let r = all_again d (after d s e) es ok p.1 in
    let k = r.1 in
    (r.0, rw f (rw k refl), r.2)

-- ---- what is gathered from the lines of a report

log_gathered : (log : List Line) (es : List Event) → gather (log_lines log es) ≡ record (gather es) { log = log ++ (gather es).log }
log_gathered [] es = refl
log_gathered (l ∷ ls) es = ap (with_event (events.Log l)) (log_gathered ls es)

sizes_gathered : (i : ℕ) (ns : List ℕ) (es : List Event) → gather (size_lines i ns es) ≡ record (gather es) { sizes = ns ++ (gather es).sizes }
sizes_gathered i [] es = refl
sizes_gathered i (n ∷ ns) es = ap (with_event (events.Size i n)) (sizes_gathered (suc i) ns es)

consts_gathered : (j : ℕ) (xs : List ℕ) (es : List Event) → gather (const_lines j xs es) ≡ record (gather es) { consts = xs ++ (gather es).consts }
consts_gathered j [] es = refl
consts_gathered j (x ∷ xs) es = ap (with_event (events.Const j x)) (consts_gathered (suc j) xs es)

facts_gathered : (fs : List Fact) (es : List Event) → gather (fact_lines fs es) ≡ record (gather es) { facts = fs ++ (gather es).facts }
facts_gathered [] es = refl
facts_gathered (f ∷ fs) es = ap (with_event (events.Shown (shown.Fact f))) (facts_gathered fs es)

readings_gathered : (rs : List Reading) (es : List Event) → gather (reading_lines rs es) ≡ record (gather es) { readings = rs ++ (gather es).readings }
readings_gathered [] es = refl
readings_gathered (r ∷ rs) es = ap (with_event (events.Shown (shown.Reading r))) (readings_gathered rs es)

calls_gathered : (cs : List Call) (es : List Event) → gather (call_lines cs es) ≡ record (gather es) { calls = cs ++ (gather es).calls }
calls_gathered [] es = refl
calls_gathered (c ∷ cs) es = ap (with_event (events.Shown (shown.Call c))) (calls_gathered cs es)

-- the fields of a witness in front of what is gathered
abbrev with_witness : PartialWitness → List ℕ → Gathered → Gathered
with_witness p xs g = record g { sizes = p.world.sizes; consts = p.world.consts; facts = p.facts; readings = p.readings; calls = p.calls; elements = xs }

witness_gathered : (p : PartialWitness) (xs : List ℕ) (es : List Event) → gather (witness_lines p xs es) ≡ with_witness p xs (gather es)
witness_gathered p xs es =
    let end = events.Shown (shown.At xs) ∷ es in
    let calls = call_lines p.calls end in
    let readings = reading_lines p.readings calls in
    let facts = fact_lines p.facts readings in
    let consts = const_lines 0 p.world.consts facts in
    sizes_gathered 0 p.world.sizes consts
    ∙ ap (λ (g : Gathered). record g { sizes = p.world.sizes ++ g.sizes }) (consts_gathered 0 p.world.consts facts
    ∙ ap (λ (g : Gathered). record g { consts = p.world.consts ++ g.consts }) (facts_gathered p.facts readings
    ∙ ap (λ (g : Gathered). record g { facts = p.facts ++ g.facts }) (readings_gathered p.readings calls
    ∙ ap (λ (g : Gathered). record g { readings = p.readings ++ g.readings }) (calls_gathered p.calls end))))
    ∙ (λ i. record (gather es) { sizes = append-nil p.world.sizes i; consts = append-nil p.world.consts i; facts = append-nil p.facts i; readings = append-nil p.readings i; calls = append-nil p.calls i; elements = xs })

-- what is gathered from a verdict: it stands before the others, and no log is left
abbrev IsGathered : VerdictForm → Gathered → Gathered → Type 0
IsGathered v h g = (h.verdicts ≡ v ∷ g.verdicts) × (h.log ≡ [])

abbrev unlogged : (log : List Line) (g : Gathered) → g.log ≡ [] → log ++ g.log ≡ log
unlogged log g n = ap (λ (x : List Line). log ++ x) n ∙ append-nil log

verdict_gathered : (v : VerdictForm) (es : List Event) → (gather es).log ≡ [] → IsGathered v (gather (verdict_lines v es)) (gather es)
verdict_gathered (proved log) es n =
    let h = log_gathered log es in
    let l = unlogged log (gather es) n in
    ((λ i. proved ((h i).log) ∷ (h i).verdicts) ∙ (λ i. proved (l i) ∷ (gather es).verdicts), refl)
verdict_gathered (refuted p xs) es n =
    let h = witness_gathered p xs es in
    ((λ i. refuted (record { world = record { sizes = (h i).sizes; consts = (h i).consts }; facts = (h i).facts; readings = (h i).readings; calls = (h i).calls }) (h i).elements ∷ (h i).verdicts), refl)
verdict_gathered instances es n = (refl, refl)
verdict_gathered (lines log) es n =
    let h = log_gathered log es in
    let l = unlogged log (gather es) n in
    ((λ i. lines ((h i).log) ∷ (h i).verdicts) ∙ (λ i. lines (l i) ∷ (gather es).verdicts), refl)
verdict_gathered (rows log r) es n =
    let h = log_gathered log (events.Rows r ∷ es) in
    let l = append-nil log in
    ((λ i. rows ((h i).log) ((h i).rows_line) ∷ (h i).verdicts) ∙ (λ i. rows (l i) r ∷ (gather es).verdicts), refl)
verdict_gathered (range log r) es n =
    let h = log_gathered log (events.Range r ∷ es) in
    let l = append-nil log in
    ((λ i. range ((h i).log) ((h i).range_line) ∷ (h i).verdicts) ∙ (λ i. range (l i) r ∷ (gather es).verdicts), refl)

blocks_gathered : (t : Tally) (vs : List VerdictForm) → ((gather (block_lines t vs)).verdicts ≡ vs) × ((gather (block_lines t vs)).log ≡ [])
blocks_gathered t [] = (refl, refl)
blocks_gathered t (v ∷ vs) =
    let h = blocks_gathered (with_verdict v t) vs in
    let k = verdict_gathered v (block_lines (with_verdict v t) vs) h.1 in
    (k.0 ∙ ap (λ (x : List VerdictForm). v ∷ x) h.0, k.1)

-- what the lines of a report say is that report
pub report_gathered : (d : Specification) (r : ReportForm) → report_of (report_lines d r) ≡ r
report_gathered d r = let b = blocks_gathered no_verdicts r.verdicts in λ i. record { version = r.version; budget = r.budget; verdicts = b.0 i }

-- ---- the laws

pub fed_is_text : (d : Specification) (texts : List (List (List ℕ))) (es : List Event) → is_specification d ≡ true → IsFed d texts es → (texts ≡ text d (report_of es)) × (is_report d (report_of es) ≡ true)
fed_is_text d texts es ok h =
    let a = all_ok d start texts es h.0 ok h.1 h.2 in
    let x = admitted_is_report d es a.1 in
    (a.0 ∙ ap (map (words d)) x.0, x.1)

pub text_is_fed : (d : Specification) (r : ReportForm) → is_specification d ≡ true → obligation_count d ≤ most_count → is_report d r ≡ true → IsFed d (text d r) (report_lines d r)
text_is_fed d r ok small v = all_again d start (report_lines d r) ok (report_is_admitted d r small v)

pub one_report : (d : Specification) (r q : ReportForm) → is_specification d ≡ true → obligation_count d ≤ most_count → is_report d r ≡ true → is_report d q ≡ true → text d r ≡ text d q → r ≡ q
one_report d r q ok small v w e =
    let p = text_is_fed d r ok small v in
    let k = text_is_fed d q ok small w in
    let same : (report_lines d r, p.0) ≡ (report_lines d q, k.0) = done_is (report_lines d r, p.0) (report_lines d q, k.0) (sym p.1 ∙ ap (fed_all d start) e ∙ k.1) in
    sym (report_gathered d r) ∙ ap (λ (x : List Event × State). report_of x.0) same ∙ report_gathered d q

-- ---- the same of well-formed specifications, which have few obligations

small : (d : Specification) → is_specification d ≡ true → obligation_count d ≤ most_count
small d ok = let f = few_obligations d ok in omega (arith, f)

pub report_text_is_fed : (d : Specification) (r : ReportForm) → is_specification d ≡ true → is_report d r ≡ true → IsFed d (text d r) (report_lines d r)
report_text_is_fed d r ok v = text_is_fed d r ok (small d ok) v

pub report_is_one : (d : Specification) (r q : ReportForm) → is_specification d ≡ true → is_report d r ≡ true → is_report d q ≡ true → text d r ≡ text d q → r ≡ q
report_is_one d r q ok v w e = one_report d r q ok (small d ok) v w e
