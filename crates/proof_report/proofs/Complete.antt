-- The lines of a report are fed to the end.
use Rattle.std.proofs.Common.{◌≡◌, ℕ, suc, ◌≤◌, ◌<◌, Bool, true, false, ◌&&◌, cond, eqb, ltb, leb, List, [], ◌∷◌, ◌++◌, length, get_or, Option, Some, None, refl, sym, subst, arith, append_assoc, le-leb}
use Rattle.std.proofs.lemmas.Bool.{eq-eqb, eqb-true, ne_eqb, and_parts, and_from, ltb-true}
use Rattle.std.proofs.lemmas.List.{append-nil}
use Rattle.std.specs.List.{list_all}
use Rattle.spec_core.specs.declared.world.World.{World}
use Rattle.spec_core.specs.declared.world.Call.{Call}
use Rattle.spec_core.specs.Specification.{Specification}
use Rattle.spec_core.specs.World.{size_of}
use Rattle.proof_lines.specs.declared.line.Line.{Line}
use Rattle.report_lines.specs.declared.head.Tally.{Tally}
use Rattle.report_lines.specs.declared.head.Outcome.{Outcome}
use Rattle.report_lines.specs.declared.head.Outcome.TheVariants as outcomes
use Rattle.report_lines.specs.declared.witness.Fact.{Fact}
use Rattle.report_lines.specs.declared.witness.Reading.{Reading}
use Rattle.report_lines.specs.declared.witness.Shown.TheVariants as shown
use Rattle.report_lines.specs.Fields.{most_count}
use Rattle.report_lines.specs.Heads.{title_format, budget_format, outcome_format}
use Rattle.report_lines.specs.Logs.{log_format}
use Rattle.report_lines.specs.Evidence.{rows_format, range_format}
use Rattle.report_lines.specs.Witnesses.{size_format, const_format, fact_format, reading_format, call_format}
use Rattle.proof_report.specs.declared.event.Event.{Event}
use Rattle.proof_report.specs.declared.event.Event.TheVariants as events
use Rattle.proof_report.specs.declared.place.PartialWitness.{PartialWitness}
use Rattle.proof_report.specs.declared.place.LogOf.{LogOf}
use Rattle.proof_report.specs.declared.place.LogOf.TheVariants as log_of
use Rattle.proof_report.specs.declared.place.Place.{Place}
use Rattle.proof_report.specs.declared.place.Place.TheVariants as places
use Rattle.proof_report.specs.declared.place.Stage.TheVariants as stages
use Rattle.proof_report.specs.Verdicts.{VerdictForm, proved, refuted, instances, lines, rows, range, obligation_at, obligation_count, call_count, const_at, are_sizes, are_consts, are_facts, are_readings, are_calls, are_elements, fact_behind, reading_behind, relation_due, counter_due, is_log, may_drop, is_verdict, are_verdicts, ReportForm, is_report}
use Rattle.proof_report.specs.Events.{told, no_verdicts, with_refuted, with_verdict, outcome_of, log_lines, size_lines, const_lines, fact_lines, reading_lines, call_lines, witness_lines, verdict_lines, block_lines, report_lines}
use Rattle.proof_report.specs.Feeding.{last_of, drops_in, same_outcome, log_ended, log_left, no_witness, no_world, at_consts, at_sizes, with_size, with_const, with_fact, with_reading, with_call, closed, goes, admits, start}
use Rattle.proof_report.proofs.Sound.{at, last_of-end, one_more, one_told}

-- lines that are fed to the end from a place on
abbrev Admits : Specification → ℕ → Tally → Place → List Event → Type 0
Admits d ver t p es = admits d (at ver t p) es ≡ true

logs_go : (d : Specification) (ver : ℕ) (t : Tally) (k : LogOf) (log : List Line) (es : List Event) → list_all (log_format (drops_in ver k)).fits log ≡ true → admits d (log_ended k ver t) es ≡ true → admits d (log_left k (length log) ver t) (log_lines log es) ≡ true
unfolding admits
logs_go d ver t k [] es fit h = h
logs_go d ver t k (l ∷ ls) es fit h =
    let c = and_parts ((log_format (drops_in ver k)).fits l) (list_all (log_format (drops_in ver k)).fits ls) fit in
    and_from _ _ (and_from _ _ c.0 refl) (logs_go d ver t k ls es c.1 h)

-- ---- what a witness shows

-- the calls of a witness and its elements, behind so many calls
abbrev Ends : Specification → Tally → ℕ → List Call → List ℕ → Type 0
Ends d t n cs xs = (are_calls d (obligation_at d (told t)) n cs ≡ true) × (are_elements d (obligation_at d (told t)) xs ≡ true)

abbrev end_lines : List Call → List ℕ → List Event → List Event
end_lines cs xs es = call_lines cs (events.Shown (shown.At xs) ∷ es)

calls_go : (d : Specification) (ver : ℕ) (t : Tally) (p : PartialWitness) (cs : List Call) (xs : List ℕ) (es : List Event) → Ends d t (length p.calls) cs xs → Admits d ver (with_refuted t) places.Due es → Admits d ver t (places.Showing stages.Calls p) (end_lines cs xs es)
unfolding admits
calls_go d ver t p [] xs es fit h = and_from _ _ (and_from _ _ fit.1 fit.0) h
calls_go d ver t p (c ∷ cs) xs es fit h =
    let n = length p.calls in
    let k = and_parts ((call_format d).fits c && ltb n (call_count (obligation_at d (told t)))) (are_calls d (obligation_at d (told t)) (suc n) cs) fit.0 in
    let more : are_calls d (obligation_at d (told t)) (length (p.calls ++ c ∷ [])) cs ≡ true = subst (λ (m : ℕ). are_calls d (obligation_at d (told t)) m cs ≡ true) (sym (one_more p.calls c)) k.1 in
    and_from _ _ k.0 (calls_go d ver t (with_call c p) cs xs es (more, fit.1) h)

calls_go_behind : (d : Specification) (ver : ℕ) (t : Tally) (p : PartialWitness) (cs : List Call) (xs : List ℕ) (es : List Event) → Ends d t (length p.calls) cs xs → Admits d ver (with_refuted t) places.Due es
    → Admits d ver t (places.Showing stages.Facts p) (end_lines cs xs es) × Admits d ver t (places.Showing stages.Readings p) (end_lines cs xs es)
unfolding admits
calls_go_behind d ver t p [] xs es fit h = (and_from _ _ (and_from _ _ fit.1 fit.0) h, and_from _ _ (and_from _ _ fit.1 fit.0) h)
calls_go_behind d ver t p (c ∷ cs) xs es fit h =
    let n = length p.calls in
    let k = and_parts ((call_format d).fits c && ltb n (call_count (obligation_at d (told t)))) (are_calls d (obligation_at d (told t)) (suc n) cs) fit.0 in
    let more : are_calls d (obligation_at d (told t)) (length (p.calls ++ c ∷ [])) cs ≡ true = subst (λ (m : ℕ). are_calls d (obligation_at d (told t)) m cs ≡ true) (sym (one_more p.calls c)) k.1 in
    let rest = calls_go d ver t (with_call c p) cs xs es (more, fit.1) h in
    (and_from _ _ k.0 rest, and_from _ _ k.0 rest)

readings_go : (d : Specification) (ver : ℕ) (t : Tally) (p : PartialWitness) (rs : List Reading) (cs : List Call) (xs : List ℕ) (es : List Event) → are_readings d p.world (last_of p.readings) rs ≡ true → Ends d t (length p.calls) cs xs
    → Admits d ver (with_refuted t) places.Due es → Admits d ver t (places.Showing stages.Readings p) (reading_lines rs (end_lines cs xs es))
unfolding admits
readings_go d ver t p [] cs xs es fit ends h = (calls_go_behind d ver t p cs xs es ends h).1
readings_go d ver t p (r ∷ rs) cs xs es fit ends h =
    let k = and_parts ((reading_format d p.world (counter_due (last_of p.readings))).fits r && reading_behind (last_of p.readings) r) (are_readings d p.world (Some r) rs) fit in
    let more : are_readings d p.world (last_of (p.readings ++ r ∷ [])) rs ≡ true = subst (λ (o : Option Reading). are_readings d p.world o rs ≡ true) (sym (last_of-end p.readings r)) k.1 in
    and_from _ _ k.0 (readings_go d ver t (with_reading r p) rs cs xs es more ends h)

readings_go_behind : (d : Specification) (ver : ℕ) (t : Tally) (p : PartialWitness) (rs : List Reading) (cs : List Call) (xs : List ℕ) (es : List Event) → are_readings d p.world (last_of p.readings) rs ≡ true → Ends d t (length p.calls) cs xs
    → Admits d ver (with_refuted t) places.Due es → Admits d ver t (places.Showing stages.Facts p) (reading_lines rs (end_lines cs xs es))
unfolding admits
readings_go_behind d ver t p [] cs xs es fit ends h = (calls_go_behind d ver t p cs xs es ends h).0
readings_go_behind d ver t p (r ∷ rs) cs xs es fit ends h =
    let k = and_parts ((reading_format d p.world (counter_due (last_of p.readings))).fits r && reading_behind (last_of p.readings) r) (are_readings d p.world (Some r) rs) fit in
    let more : are_readings d p.world (last_of (p.readings ++ r ∷ [])) rs ≡ true = subst (λ (o : Option Reading). are_readings d p.world o rs ≡ true) (sym (last_of-end p.readings r)) k.1 in
    and_from _ _ k.0 (readings_go d ver t (with_reading r p) rs cs xs es more ends h)

facts_go : (d : Specification) (ver : ℕ) (t : Tally) (p : PartialWitness) (fs : List Fact) (rs : List Reading) (cs : List Call) (xs : List ℕ) (es : List Event) → are_facts d p.world (last_of p.facts) fs ≡ true → are_readings d p.world (last_of p.readings) rs ≡ true
    → Ends d t (length p.calls) cs xs → Admits d ver (with_refuted t) places.Due es → Admits d ver t (places.Showing stages.Facts p) (fact_lines fs (reading_lines rs (end_lines cs xs es)))
unfolding admits
facts_go d ver t p [] rs cs xs es fit more ends h = readings_go_behind d ver t p rs cs xs es more ends h
facts_go d ver t p (f ∷ fs) rs cs xs es fit more ends h =
    let k = and_parts ((fact_format d p.world (relation_due (last_of p.facts))).fits f && fact_behind (last_of p.facts) f) (are_facts d p.world (Some f) fs) fit in
    let rest : are_facts d p.world (last_of (p.facts ++ f ∷ [])) fs ≡ true = subst (λ (o : Option Fact). are_facts d p.world o fs ≡ true) (sym (last_of-end p.facts f)) k.1 in
    and_from _ _ k.0 (facts_go d ver t (with_fact f p) fs rs cs xs es rest more ends h)

-- ---- worlds

in_order : (a b : ℕ) → a < b → eqb a b ≡ false
in_order a b h = ne_eqb a b (λ e. let k : a < b = h in omega arith)

const_goes : (d : Specification) (ver : ℕ) (t : Tally) (w : World) (x : ℕ) → (const_format (const_at d (length w.consts)).name (size_of w (const_at d (length w.consts)).sort)).fits x ≡ true → ltb (length w.consts) (length d.consts) ≡ true
    → goes d (at ver t (places.Consts w)) (events.Const (length w.consts) x) ≡ true
const_goes d ver t w x fit lt = let same : eqb (length w.consts) (length w.consts) ≡ true = eq-eqb _ _ refl in rw same (and_from _ _ fit lt)

consts_go : (d : Specification) (ver : ℕ) (t : Tally) (w : World) (xs : List ℕ) (es : List Event) → are_consts d (record { sizes = w.sizes; consts = w.consts ++ xs }) (length w.consts) xs ≡ true
    → Admits d ver t (places.Showing stages.Facts (no_witness (record { sizes = w.sizes; consts = w.consts ++ xs }))) es → Admits d ver t (at_consts d w) (const_lines (length w.consts) xs es)
unfolding admits
consts_go d ver t w [] es fit h =
    let k : Admits d ver t (places.Showing stages.Facts (no_witness w)) es = subst (λ (ys : List ℕ). Admits d ver t (places.Showing stages.Facts (no_witness (record { sizes = w.sizes; consts = ys }))) es) (append-nil w.consts) h in
    let all : eqb (length w.consts) (length d.consts) ≡ true = fit in
    subst (λ (b : Bool). Admits d ver t (cond b (places.Showing stages.Facts (no_witness w)) (places.Consts w)) es) (sym all) k
consts_go d ver t w (x ∷ xs) es fit h =
    let a = and_parts (ltb (length w.consts) (length d.consts)) ((const_format (const_at d (length w.consts)).name (size_of w (const_at d (length w.consts)).sort)).fits x && are_consts d (record { sizes = w.sizes; consts = w.consts ++ (x ∷ xs) }) (suc (length w.consts)) xs) fit in
    let b = and_parts ((const_format (const_at d (length w.consts)).name (size_of w (const_at d (length w.consts)).sort)).fits x) (are_consts d (record { sizes = w.sizes; consts = w.consts ++ (x ∷ xs) }) (suc (length w.consts)) xs) a.1 in
    let many : length (w.consts ++ x ∷ []) ≡ suc (length w.consts) = one_more w.consts x in
    let all : (w.consts ++ x ∷ []) ++ xs ≡ w.consts ++ (x ∷ xs) = append_assoc w.consts (x ∷ []) xs in
    let fits_on : are_consts d (record { sizes = w.sizes; consts = (w.consts ++ x ∷ []) ++ xs }) (length (w.consts ++ x ∷ [])) xs ≡ true =
    subst (λ (ys : List ℕ). are_consts d (record { sizes = w.sizes; consts = ys }) (length (w.consts ++ x ∷ [])) xs ≡ true) (sym all) (subst (λ (m : ℕ). are_consts d (record { sizes = w.sizes; consts = w.consts ++ (x ∷ xs) }) m xs ≡ true) (sym many) b.1) in
    let rest = consts_go d ver t (with_const x w) xs es fits_on (subst (λ (ys : List ℕ). Admits d ver t (places.Showing stages.Facts (no_witness (record { sizes = w.sizes; consts = ys }))) es) (sym all) h) in
    let less : eqb (length w.consts) (length d.consts) ≡ false = in_order _ _ (ltb-true _ _ a.0) in
    let rest_at : Admits d ver t (at_consts d (with_const x w)) (const_lines (suc (length w.consts)) xs es) = subst (λ (m : ℕ). Admits d ver t (at_consts d (with_const x w)) (const_lines m xs es)) many rest in
    subst (λ (b : Bool). Admits d ver t (cond b (places.Showing stages.Facts (no_witness w)) (places.Consts w)) (const_lines (length w.consts) (x ∷ xs) es)) (sym less) (and_from _ _ (const_goes d ver t w x b.0 a.0) rest_at)

size_goes : (d : Specification) (ver : ℕ) (t : Tally) (w : World) (x : ℕ) → (size_format (get_or d.sorts (length w.sizes) [])).fits x ≡ true → ltb (length w.sizes) (length d.sorts) ≡ true
    → goes d (at ver t (places.Sizes w)) (events.Size (length w.sizes) x) ≡ true
size_goes d ver t w x fit lt = let same : eqb (length w.sizes) (length w.sizes) ≡ true = eq-eqb _ _ refl in rw same (and_from _ _ fit lt)

sizes_go : (d : Specification) (ver : ℕ) (t : Tally) (w : World) (xs : List ℕ) (es : List Event) → are_sizes d (length w.sizes) xs ≡ true
    → Admits d ver t (at_consts d (record { sizes = w.sizes ++ xs; consts = w.consts })) es → Admits d ver t (at_sizes d w) (size_lines (length w.sizes) xs es)
unfolding admits
sizes_go d ver t w [] es fit h =
    let k : Admits d ver t (at_consts d w) es = subst (λ (ys : List ℕ). Admits d ver t (at_consts d (record { sizes = ys; consts = w.consts })) es) (append-nil w.sizes) h in
    let all : eqb (length w.sizes) (length d.sorts) ≡ true = fit in
    subst (λ (b : Bool). Admits d ver t (cond b (at_consts d w) (places.Sizes w)) es) (sym all) k
sizes_go d ver t w (x ∷ xs) es fit h =
    let a = and_parts (ltb (length w.sizes) (length d.sorts)) ((size_format (get_or d.sorts (length w.sizes) [])).fits x && are_sizes d (suc (length w.sizes)) xs) fit in
    let b = and_parts ((size_format (get_or d.sorts (length w.sizes) [])).fits x) (are_sizes d (suc (length w.sizes)) xs) a.1 in
    let many : length (w.sizes ++ x ∷ []) ≡ suc (length w.sizes) = one_more w.sizes x in
    let all : (w.sizes ++ x ∷ []) ++ xs ≡ w.sizes ++ (x ∷ xs) = append_assoc w.sizes (x ∷ []) xs in
    let rest = sizes_go d ver t (with_size x w) xs es (subst (λ (m : ℕ). are_sizes d m xs ≡ true) (sym many) b.1) (subst (λ (ys : List ℕ). Admits d ver t (at_consts d (record { sizes = ys; consts = w.consts })) es) (sym all) h) in
    let less : eqb (length w.sizes) (length d.sorts) ≡ false = in_order _ _ (ltb-true _ _ a.0) in
    let rest_at : Admits d ver t (at_sizes d (with_size x w)) (size_lines (suc (length w.sizes)) xs es) = subst (λ (m : ℕ). Admits d ver t (at_sizes d (with_size x w)) (size_lines m xs es)) many rest in
    subst (λ (b : Bool). Admits d ver t (cond b (at_consts d w) (places.Sizes w)) (size_lines (length w.sizes) (x ∷ xs) es)) (sym less) (and_from _ _ (size_goes d ver t w x b.0 a.0) rest_at)

witness_goes : (d : Specification) (ver : ℕ) (t : Tally) (p : PartialWitness) (xs : List ℕ) (es : List Event) → is_verdict d ver (obligation_at d (told t)) (refuted p xs) ≡ true → Admits d ver (with_refuted t) places.Due es
    → Admits d ver t (at_sizes d no_world) (witness_lines p xs es)
witness_goes d ver t p xs es fit h =
    let a = and_parts (are_sizes d 0 p.world.sizes) _ fit in
    let b = and_parts (are_consts d p.world 0 p.world.consts) _ a.1 in
    let c = and_parts (are_facts d p.world None p.facts) _ b.1 in
    let e = and_parts (are_readings d p.world None p.readings) _ c.1 in
    let f = and_parts (are_calls d (obligation_at d (told t)) 0 p.calls) _ e.1 in
    sizes_go d ver t no_world p.world.sizes _ a.0 (consts_go d ver t (record { sizes = p.world.sizes; consts = [] }) p.world.consts _ b.0
    (facts_go d ver t (no_witness p.world) p.facts p.readings p.calls xs es c.0 e.0 f h))

-- ---- blocks

verdict_goes : (d : Specification) (ver : ℕ) (t : Tally) (v : VerdictForm) (es : List Event) → is_verdict d ver (obligation_at d (told t)) v ≡ true → Admits d ver (with_verdict v t) places.Due es → Admits d ver t places.Opened (verdict_lines v es)
unfolding admits
verdict_goes d ver t (proved log) es fit h =
    let p = and_parts (leb (length log) most_count) (list_all (log_format (may_drop ver)).fits log) fit in
    and_from _ _ (and_from _ _ p.0 refl) (logs_go d ver t log_of.Proved log es p.1 h)
verdict_goes d ver t (refuted p xs) es fit h = and_from _ _ refl (witness_goes d ver t p xs es fit h)
verdict_goes d ver t instances es fit h = and_from _ _ refl h
verdict_goes d ver t (lines log) es fit h =
    let p = and_parts (leb (length log) most_count) (list_all (log_format false).fits log) fit in
    and_from _ _ (and_from _ _ p.0 refl) (logs_go d ver t log_of.Lines log es p.1 h)
verdict_goes d ver t (rows log r) es fit h =
    let p = and_parts (is_log false log) (rows_format.fits r) fit in
    let q = and_parts (leb (length log) most_count) (list_all (log_format false).fits log) p.0 in
    and_from _ _ (and_from _ _ q.0 refl) (logs_go d ver t log_of.Rows log (events.Rows r ∷ es) q.1 (and_from _ _ (and_from _ _ p.1 refl) h))
verdict_goes d ver t (range log r) es fit h =
    let p = and_parts (is_log false log) (range_format.fits r) fit in
    let q = and_parts (leb (length log) most_count) (list_all (log_format false).fits log) p.0 in
    and_from _ _ (and_from _ _ q.0 refl) (logs_go d ver t log_of.Range log (events.Range r ∷ es) q.1 (and_from _ _ (and_from _ _ p.1 refl) h))

summary_goes : (d : Specification) (ver : ℕ) (t : Tally) → told t ≡ obligation_count d → obligation_count d ≤ most_count → goes d (closed ver t) (events.Summary t) ≡ true
summary_goes d ver t e small =
    let all : eqb (told t) (obligation_count d) ≡ true = eq-eqb _ _ e in
    let a : leb t.proved most_count ≡ true = le-leb _ _ (omega arith) in
    let b : leb t.refuted most_count ≡ true = le-leb _ _ (omega arith) in
    let c : leb t.undecided most_count ≡ true = le-leb _ _ (omega arith) in
    let x : eqb t.proved t.proved ≡ true = eq-eqb _ _ refl in
    let y : eqb t.refuted t.refuted ≡ true = eq-eqb _ _ refl in
    let z : eqb t.undecided t.undecided ≡ true = eq-eqb _ _ refl in
    rw all (and_from _ _ (and_from _ _ a (and_from _ _ b c)) (and_from _ _ x (and_from _ _ y z)))

last_goes : (o : Outcome) → (outcome_format.fits o && same_outcome o o) ≡ true
last_goes outcomes.Accepted = refl
last_goes outcomes.Rejected = refl
last_goes outcomes.Undecided = refl

name_goes : (d : Specification) (ver : ℕ) (t : Tally) → told t < obligation_count d → goes d (closed ver t) (events.Opened (told t)) ≡ true
name_goes d ver t e =
    let more : eqb (told t) (obligation_count d) ≡ false = in_order _ _ e in
    let same : eqb (told t) (told t) ≡ true = eq-eqb _ _ refl in
    rw more (rw same refl)

one_told_of : (v : VerdictForm) (t : Tally) → told (with_verdict v t) ≡ suc (told t)
one_told_of (proved log) t = (one_told t).0
one_told_of (refuted p xs) t = (one_told t).1
one_told_of instances t = (one_told t).2
one_told_of (lines log) t = (one_told t).2
one_told_of (rows log r) t = (one_told t).2
one_told_of (range log r) t = (one_told t).2

blocks_go : (d : Specification) (ver : ℕ) (t : Tally) (vs : List VerdictForm) → are_verdicts d ver (told t) vs ≡ true → obligation_count d ≤ most_count → Admits d ver t places.Due (block_lines t vs)
unfolding admits
blocks_go d ver t [] fit small = and_from _ _ (summary_goes d ver t (eqb-true _ _ fit) small) (and_from _ _ (last_goes (outcome_of t)) refl)
blocks_go d ver t (v ∷ vs) fit small =
    let p = and_parts (ltb (told t) (obligation_count d)) (is_verdict d ver (obligation_at d (told t)) v && are_verdicts d ver (suc (told t)) vs) fit in
    let q = and_parts (is_verdict d ver (obligation_at d (told t)) v) (are_verdicts d ver (suc (told t)) vs) p.1 in
    let rest : are_verdicts d ver (told (with_verdict v t)) vs ≡ true = subst (λ (n : ℕ). are_verdicts d ver n vs ≡ true) (sym (one_told_of v t)) q.1 in
    and_from _ _ (name_goes d ver t (ltb-true _ _ p.0)) (verdict_goes d ver t v _ q.0 (blocks_go d ver (with_verdict v t) vs rest small))

-- the lines of a report are fed to the end
pub report_is_admitted : (d : Specification) (r : ReportForm) → obligation_count d ≤ most_count → is_report d r ≡ true → admits d start (report_lines d r) ≡ true
unfolding admits
report_is_admitted d r small fit =
    let a = and_parts (title_format.fits r.version) _ fit in
    let b = and_parts (budget_format.fits r.budget) _ a.1 in
    let few : leb (obligation_count d) most_count ≡ true = le-leb _ _ small in
    let same : eqb (obligation_count d) (obligation_count d) ≡ true = eq-eqb _ _ refl in
    and_from _ _ (and_from _ _ a.0 refl) (and_from _ _ (and_from _ _ b.0 refl) (and_from _ _ (and_from _ _ few same) (blocks_go d r.version no_verdicts r.verdicts b.1 small)))
