-- What is kept of the lines of a report is the first fault of its verdicts, and how many of each kind there are.
use Rattle.std.proofs.Common.{◌≡◌, ℕ, suc, ◌+◌, ◌<◌, Bool, true, false, cond, ◌&&◌, eqb, ltb, List, [], ◌∷◌, ◌++◌, length, get_or, Option, Some, None, Result, Ok, Err, refl, sym, ap, subst, ◌∙◌, append_assoc, arith}
use Rattle.std.specs.Prelude.{◌==◌}
use Rattle.std.specs.List.{fold}
use Rattle.std.proofs.lemmas.Bool.{and_parts, ne_eqb, ltb-true}
use Rattle.std.proofs.lemmas.List.{append-nil}
use Rattle.spec_core.specs.declared.world.World.{World}
use Rattle.spec_core.specs.declared.world.Call.{Call}
use Rattle.spec_core.specs.Specification.{Specification}
use Rattle.spec_core.specs.World.{size_of}
use Rattle.proof_lines.specs.declared.line.Line.{Line}
use Rattle.proof_lines.specs.declared.line.Why.{Why}
use Rattle.proof_kernel.specs.Rules.{State as Standing, start as start_of, next, run, run_from}
use Rattle.proof_kernel.specs.Evidence.{is_fresh, rows_hold, range_holds}
use Rattle.ground_numbers.specs.Problem.{problem_of}
use Rattle.obligation_list.specs.declared.obligation.Obligation.{Obligation}
use Rattle.report_lines.specs.declared.head.Tally.{Tally}
use Rattle.report_lines.specs.declared.verdict.VerdictWord.{VerdictWord}
use Rattle.report_lines.specs.declared.verdict.VerdictWord.TheVariants as word
use Rattle.report_lines.specs.declared.witness.Fact.{Fact}
use Rattle.report_lines.specs.declared.witness.Reading.{Reading}
use Rattle.report_lines.specs.declared.witness.Shown.TheVariants as shown
use Rattle.report_lines.specs.Heads.{title_format, budget_format}
use Rattle.report_lines.specs.Witnesses.{size_format, const_format}
use Rattle.proof_report.specs.declared.event.Event.{Event}
use Rattle.proof_report.specs.declared.event.Event.TheVariants as events
use Rattle.proof_report.specs.declared.kind.Fault.{Fault}
use Rattle.proof_report.specs.declared.kind.ReportKind.TheVariants as kinds
use Rattle.proof_report.specs.declared.place.PartialWitness.{PartialWitness}
use Rattle.proof_report.specs.declared.place.LogOf.{LogOf}
use Rattle.proof_report.specs.declared.place.LogOf.TheVariants as log_of
use Rattle.proof_report.specs.declared.place.Place.TheVariants as places
use Rattle.proof_report.specs.declared.place.Stage.{Stage}
use Rattle.proof_report.specs.declared.place.Stage.TheVariants as stages
use Rattle.proof_report.specs.declared.place.State.{State}
use Rattle.proof_report.specs.Verdicts.{VerdictForm, proved, refuted, instances, lines, rows, range, obligation_at, obligation_count, const_at, are_sizes, are_consts, is_verdict, are_verdicts, ReportForm, is_report}
use Rattle.proof_report.specs.Events.{told, no_verdicts, with_refuted, with_verdict, log_lines, size_lines, const_lines, fact_lines, reading_lines, call_lines, witness_lines, verdict_lines, block_lines, report_lines}
use Rattle.proof_report.specs.Feeding.{log_ended, no_witness, no_world, at_consts, at_sizes, with_size, with_const, with_fact, with_reading, with_call, closed, start}
use Rattle.report_reader.specs.Reader.{EndForm, end_proved, end_refuted, end_instances, end_lines, end_rows, end_range, log_end}
use Rattle.proof_report.proofs.Sound.{at, one_more, one_told}
use Rattle.report_bytes.specs.Reading.{blocks_behind}
use Rattle.report_bytes.specs.Collecting.{budget_in}
use Rattle.report_verifier.specs.declared.judgement.Judgement.{Judgement}
use Rattle.report_verifier.specs.Rules.{fault_at, unless, or_else, kind_of, has_many, refutes_shown, log_fault, problem_fault, many_fault, rule_fault, blocks_fault, verdict_fault}
use Rattle.report_verifier.specs.Verified.{tally_of}
use Rattle.report_verifier.specs.Verifier.{no_judgement, obligation_due, has_log, posed, begun_in, begun_behind, begun, after_line, logged_in, logged, log_all, kernel_fault, unrefuted, end_fault, ended, judge_all}

-- ---- numbers of lines

abbrev past : {A : Type 0} → List A → ℕ → ℕ
past [] n = n
past (x ∷ xs) n = past xs (suc n)

abbrev verdict_past : ℕ → VerdictForm → ℕ
verdict_past n (proved log) = past log (suc n)
verdict_past n (refuted p xs) = suc (past p.calls (past p.readings (past p.facts (past p.world.consts (past p.world.sizes (suc n))))))
verdict_past n instances = suc n
verdict_past n (lines log) = past log (suc n)
verdict_past n (rows log r) = suc (past log (suc n))
verdict_past n (range log r) = suc (past log (suc n))

log_past : (log : List Line) (n : ℕ) (es : List Event) → n + length (log_lines log es) ≡ past log n + length es
log_past [] n es = refl
log_past (l ∷ ls) n es = let h = log_past ls (suc n) es in omega (arith, h)

size_past : (xs : List ℕ) (i n : ℕ) (es : List Event) → n + length (size_lines i xs es) ≡ past xs n + length es
size_past [] i n es = refl
size_past (x ∷ xs) i n es = let h = size_past xs (suc i) (suc n) es in omega (arith, h)

const_past : (xs : List ℕ) (i n : ℕ) (es : List Event) → n + length (const_lines i xs es) ≡ past xs n + length es
const_past [] i n es = refl
const_past (x ∷ xs) i n es = let h = const_past xs (suc i) (suc n) es in omega (arith, h)

fact_past : (xs : List Fact) (n : ℕ) (es : List Event) → n + length (fact_lines xs es) ≡ past xs n + length es
fact_past [] n es = refl
fact_past (x ∷ xs) n es = let h = fact_past xs (suc n) es in omega (arith, h)

reading_past : (xs : List Reading) (n : ℕ) (es : List Event) → n + length (reading_lines xs es) ≡ past xs n + length es
reading_past [] n es = refl
reading_past (x ∷ xs) n es = let h = reading_past xs (suc n) es in omega (arith, h)

call_past : (xs : List Call) (n : ℕ) (es : List Event) → n + length (call_lines xs es) ≡ past xs n + length es
call_past [] n es = refl
call_past (x ∷ xs) n es = let h = call_past xs (suc n) es in omega (arith, h)

behind : (v : VerdictForm) (n : ℕ) → n + length (verdict_lines v []) ≡ verdict_past n v
behind (proved log) n = let h = log_past log (suc n) [] in omega (arith, h)
behind (refuted p xs) n =
    let end = events.Shown (shown.At xs) ∷ [] in
    let cs = call_lines p.calls end in
    let rs = reading_lines p.readings cs in
    let fs = fact_lines p.facts rs in
    let ks = const_lines 0 p.world.consts fs in
    let a = size_past p.world.sizes 0 (suc n) ks in
    let b = const_past p.world.consts 0 (past p.world.sizes (suc n)) fs in
    let c = fact_past p.facts (past p.world.consts (past p.world.sizes (suc n))) rs in
    let e = reading_past p.readings (past p.facts (past p.world.consts (past p.world.sizes (suc n)))) cs in
    let f = call_past p.calls (past p.readings (past p.facts (past p.world.consts (past p.world.sizes (suc n))))) end in
    omega (arith, a, b, c, e, f)
behind instances n = omega arith
behind (lines log) n = let h = log_past log (suc n) [] in omega (arith, h)
behind (rows log r) n = let h = log_past log (suc n) (events.Rows r ∷ []) in omega (arith, h)
behind (range log r) n = let h = log_past log (suc n) (events.Range r ∷ []) in omega (arith, h)

-- ---- logs

no_end : (k : LogOf) (n : ℕ) → log_end k (suc (suc n)) ≡ None
no_end log_of.Proved n = refl
no_end log_of.Lines n = refl
no_end log_of.Rows n = refl
no_end log_of.Range n = refl

-- a log with a line
log_judged : (d : Specification) (o : Option ℕ) (n ver : ℕ) (t : Tally) (k : LogOf) (l : Line) (ls : List Line) (es : List Event) (x : Judgement)
    → judge_all d o n (at ver t (places.Log k (suc (length ls)))) x (log_lines (l ∷ ls) es) ≡ judge_all d o (past ls (suc n)) (log_ended k ver t) (ended d (budget_in o) (log_end k 1) (log_all (suc n) (l ∷ ls) x)) es
unfolding judge_all
log_judged d o n ver t k l [] es x = refl
log_judged d o n ver t k l (m ∷ ms) es x =
    let y = logged (suc n) (Some l) x in
    ap (λ (e : Option EndForm). judge_all d o (suc n) (at ver t (places.Log k (suc (length ms)))) (ended d (budget_in o) e y) (log_lines (m ∷ ms) es)) (no_end k (length ms))
    ∙ log_judged d o (suc n) ver t k m ms es y

-- ---- what a witness shows

abbrev with_calls : PartialWitness → List Call → PartialWitness
with_calls p cs = record { world = p.world; facts = p.facts; readings = p.readings; calls = cs }

abbrev refuting : Specification → Option ℕ → ℕ → ℕ → Tally → PartialWitness → List ℕ → List Event → Judgement → State × Judgement
refuting d o n ver t p xs es x = judge_all d o (suc n) (closed ver (with_refuted t)) (ended d (budget_in o) (Some (end_refuted p xs)) x) es

calls_judged : (d : Specification) (o : Option ℕ) (n ver : ℕ) (t : Tally) (g : Stage) (p : PartialWitness) (cs : List Call) (xs : List ℕ) (es : List Event) (x : Judgement)
    → judge_all d o n (at ver t (places.Showing g p)) x (call_lines cs (events.Shown (shown.At xs) ∷ es)) ≡ refuting d o (past cs n) ver t (with_calls p (p.calls ++ cs)) xs es x
unfolding judge_all
calls_judged d o n ver t g p [] xs es x = ap (λ (cs : List Call). refuting d o n ver t (with_calls p cs) xs es x) (sym (append-nil p.calls))
calls_judged d o n ver t g p (c ∷ cs) xs es x =
    calls_judged d o (suc n) ver t stages.Calls (with_call c p) cs xs es x
    ∙ ap (λ (all : List Call). refuting d o (past cs (suc n)) ver t (with_calls p all) xs es x) (append_assoc p.calls (c ∷ []) cs)

abbrev with_shown_readings : PartialWitness → List Reading → List Call → PartialWitness
with_shown_readings p rs cs = record { world = p.world; facts = p.facts; readings = rs; calls = cs }

abbrev end_on : List Call → List ℕ → List Event → List Event
end_on cs xs es = call_lines cs (events.Shown (shown.At xs) ∷ es)

readings_judged : (d : Specification) (o : Option ℕ) (n ver : ℕ) (t : Tally) (p : PartialWitness) (rs : List Reading) (cs : List Call) (xs : List ℕ) (es : List Event) (x : Judgement)
    → judge_all d o n (at ver t (places.Showing stages.Readings p)) x (reading_lines rs (end_on cs xs es)) ≡ refuting d o (past cs (past rs n)) ver t (with_shown_readings p (p.readings ++ rs) (p.calls ++ cs)) xs es x
unfolding judge_all
readings_judged d o n ver t p [] cs xs es x =
    calls_judged d o n ver t stages.Readings p cs xs es x ∙ ap (λ (rs : List Reading). refuting d o (past cs n) ver t (with_shown_readings p rs (p.calls ++ cs)) xs es x) (sym (append-nil p.readings))
readings_judged d o n ver t p (r ∷ rs) cs xs es x =
    readings_judged d o (suc n) ver t (with_reading r p) rs cs xs es x
    ∙ ap (λ (all : List Reading). refuting d o (past cs (past rs (suc n))) ver t (with_shown_readings p all (p.calls ++ cs)) xs es x) (append_assoc p.readings (r ∷ []) rs)

first_readings_judged : (d : Specification) (o : Option ℕ) (n ver : ℕ) (t : Tally) (p : PartialWitness) (rs : List Reading) (cs : List Call) (xs : List ℕ) (es : List Event) (x : Judgement)
    → judge_all d o n (at ver t (places.Showing stages.Facts p)) x (reading_lines rs (end_on cs xs es)) ≡ refuting d o (past cs (past rs n)) ver t (with_shown_readings p (p.readings ++ rs) (p.calls ++ cs)) xs es x
unfolding judge_all
first_readings_judged d o n ver t p [] cs xs es x =
    calls_judged d o n ver t stages.Facts p cs xs es x ∙ ap (λ (rs : List Reading). refuting d o (past cs n) ver t (with_shown_readings p rs (p.calls ++ cs)) xs es x) (sym (append-nil p.readings))
first_readings_judged d o n ver t p (r ∷ rs) cs xs es x =
    readings_judged d o (suc n) ver t (with_reading r p) rs cs xs es x
    ∙ ap (λ (all : List Reading). refuting d o (past cs (past rs (suc n))) ver t (with_shown_readings p all (p.calls ++ cs)) xs es x) (append_assoc p.readings (r ∷ []) rs)

abbrev with_all : PartialWitness → List Fact → List Reading → List Call → PartialWitness
with_all p fs rs cs = record { world = p.world; facts = fs; readings = rs; calls = cs }

facts_judged : (d : Specification) (o : Option ℕ) (n ver : ℕ) (t : Tally) (p : PartialWitness) (fs : List Fact) (rs : List Reading) (cs : List Call) (xs : List ℕ) (es : List Event) (x : Judgement)
    → judge_all d o n (at ver t (places.Showing stages.Facts p)) x (fact_lines fs (reading_lines rs (end_on cs xs es))) ≡ refuting d o (past cs (past rs (past fs n))) ver t (with_all p (p.facts ++ fs) (p.readings ++ rs) (p.calls ++ cs)) xs es x
unfolding judge_all
facts_judged d o n ver t p [] rs cs xs es x =
    first_readings_judged d o n ver t p rs cs xs es x ∙ ap (λ (fs : List Fact). refuting d o (past cs (past rs n)) ver t (with_all p fs (p.readings ++ rs) (p.calls ++ cs)) xs es x) (sym (append-nil p.facts))
facts_judged d o n ver t p (f ∷ fs) rs cs xs es x =
    facts_judged d o (suc n) ver t (with_fact f p) fs rs cs xs es x
    ∙ ap (λ (all : List Fact). refuting d o (past cs (past rs (past fs (suc n)))) ver t (with_all p all (p.readings ++ rs) (p.calls ++ cs)) xs es x) (append_assoc p.facts (f ∷ []) fs)

-- ---- worlds

in_order : (a b : ℕ) → a < b → eqb a b ≡ false
in_order a b h = ne_eqb a b (λ e. let k : a < b = h in omega arith)

abbrev of_consts : World → List ℕ → World
of_consts w xs = record { sizes = w.sizes; consts = xs }

consts_judged : (d : Specification) (o : Option ℕ) (n ver : ℕ) (t : Tally) (w v : World) (xs : List ℕ) (es : List Event) (x : Judgement) → are_consts d v (length w.consts) xs ≡ true
    → judge_all d o n (at ver t (at_consts d w)) x (const_lines (length w.consts) xs es) ≡ judge_all d o (past xs n) (at ver t (places.Showing stages.Facts (no_witness (of_consts w (w.consts ++ xs))))) x es
unfolding judge_all
consts_judged d o n ver t w v [] es x fit =
    let all : eqb (length w.consts) (length d.consts) ≡ true = fit in
    ap (λ (b : Bool). judge_all d o n (at ver t (cond b (places.Showing stages.Facts (no_witness w)) (places.Consts w))) x es) all
    ∙ ap (λ (ys : List ℕ). judge_all d o n (at ver t (places.Showing stages.Facts (no_witness (of_consts w ys)))) x es) (sym (append-nil w.consts))
consts_judged d o n ver t w v (y ∷ ys) es x fit =
    let a = and_parts (ltb (length w.consts) (length d.consts)) _ fit in
    let b = and_parts ((const_format (const_at d (length w.consts)).name (size_of v (const_at d (length w.consts)).sort)).fits y) (are_consts d v (suc (length w.consts)) ys) a.1 in
    let many : length (w.consts ++ y ∷ []) ≡ suc (length w.consts) = one_more w.consts y in
    let less : eqb (length w.consts) (length d.consts) ≡ false = in_order _ _ (ltb-true _ _ a.0) in
    let on : are_consts d v (length (w.consts ++ y ∷ [])) ys ≡ true = subst (λ (m : ℕ). are_consts d v m ys ≡ true) (sym many) b.1 in
    ap (λ (b : Bool). judge_all d o n (at ver t (cond b (places.Showing stages.Facts (no_witness w)) (places.Consts w))) x (const_lines (length w.consts) (y ∷ ys) es)) less
    ∙ ap (λ (m : ℕ). judge_all d o (suc n) (at ver t (at_consts d (with_const y w))) x (const_lines m ys es)) (sym many)
    ∙ consts_judged d o (suc n) ver t (with_const y w) v ys es x on
    ∙ ap (λ (zs : List ℕ). judge_all d o (past ys (suc n)) (at ver t (places.Showing stages.Facts (no_witness (of_consts w zs)))) x es) (append_assoc w.consts (y ∷ []) ys)

abbrev of_sizes : World → List ℕ → World
of_sizes w xs = record { sizes = xs; consts = w.consts }

sizes_judged : (d : Specification) (o : Option ℕ) (n ver : ℕ) (t : Tally) (w : World) (xs : List ℕ) (es : List Event) (x : Judgement) → are_sizes d (length w.sizes) xs ≡ true
    → judge_all d o n (at ver t (at_sizes d w)) x (size_lines (length w.sizes) xs es) ≡ judge_all d o (past xs n) (at ver t (at_consts d (of_sizes w (w.sizes ++ xs)))) x es
unfolding judge_all
sizes_judged d o n ver t w [] es x fit =
    let all : eqb (length w.sizes) (length d.sorts) ≡ true = fit in
    ap (λ (b : Bool). judge_all d o n (at ver t (cond b (at_consts d w) (places.Sizes w))) x es) all
    ∙ ap (λ (ys : List ℕ). judge_all d o n (at ver t (at_consts d (of_sizes w ys))) x es) (sym (append-nil w.sizes))
sizes_judged d o n ver t w (y ∷ ys) es x fit =
    let a = and_parts (ltb (length w.sizes) (length d.sorts)) _ fit in
    let b = and_parts ((size_format (get_or d.sorts (length w.sizes) [])).fits y) (are_sizes d (suc (length w.sizes)) ys) a.1 in
    let many : length (w.sizes ++ y ∷ []) ≡ suc (length w.sizes) = one_more w.sizes y in
    let less : eqb (length w.sizes) (length d.sorts) ≡ false = in_order _ _ (ltb-true _ _ a.0) in
    let on : are_sizes d (length (w.sizes ++ y ∷ [])) ys ≡ true = subst (λ (m : ℕ). are_sizes d m ys ≡ true) (sym many) b.1 in
    ap (λ (b : Bool). judge_all d o n (at ver t (cond b (at_consts d w) (places.Sizes w))) x (size_lines (length w.sizes) (y ∷ ys) es)) less
    ∙ ap (λ (m : ℕ). judge_all d o (suc n) (at ver t (at_sizes d (with_size y w))) x (size_lines m ys es)) (sym many)
    ∙ sizes_judged d o (suc n) ver t (with_size y w) ys es x on
    ∙ ap (λ (zs : List ℕ). judge_all d o (past ys (suc n)) (at ver t (at_consts d (of_sizes w zs))) x es) (append_assoc w.sizes (y ∷ []) ys)

witness_judged : (d : Specification) (o : Option ℕ) (n ver : ℕ) (t : Tally) (p : PartialWitness) (xs : List ℕ) (es : List Event) (x : Judgement) → are_sizes d 0 p.world.sizes ≡ true → are_consts d p.world 0 p.world.consts ≡ true
    → judge_all d o n (at ver t (at_sizes d no_world)) x (witness_lines p xs es) ≡ refuting d o (past p.calls (past p.readings (past p.facts (past p.world.consts (past p.world.sizes n))))) ver t p xs es x
witness_judged d o n ver t p xs es x a b =
    let fs = fact_lines p.facts (reading_lines p.readings (end_on p.calls xs es)) in
    sizes_judged d o n ver t no_world p.world.sizes (const_lines 0 p.world.consts fs) x a
    ∙ consts_judged d o (past p.world.sizes n) ver t (of_sizes no_world p.world.sizes) p.world p.world.consts fs x b
    ∙ facts_judged d o (past p.world.consts (past p.world.sizes n)) ver t (no_witness p.world) p.facts p.readings p.calls xs es x

-- ---- blocks

abbrev word_of : VerdictForm → VerdictWord
word_of (proved log) = word.Proved (length log)
word_of (refuted p es) = word.Refuted
word_of instances = word.Instances
word_of (lines log) = word.Lines (length log)
word_of (rows log r) = word.Rows (length log)
word_of (range log r) = word.Range (length log)

abbrev log_in : VerdictForm → List Line
log_in (proved log) = log
log_in (refuted p es) = []
log_in instances = []
log_in (lines log) = log
log_in (rows log r) = log
log_in (range log r) = log

abbrev end_of : VerdictForm → EndForm
end_of (proved log) = end_proved
end_of (refuted p es) = end_refuted p es
end_of instances = end_instances
end_of (lines log) = end_lines
end_of (rows log r) = end_rows r
end_of (range log r) = end_range r

-- what is kept behind a verdict that begins at a line
abbrev behind_verdict : Specification → ℕ → ℕ → VerdictForm → Judgement → Judgement
behind_verdict d budget line v j = ended d budget (Some (end_of v)) (log_all (suc line) (log_in v) (begun d line (Some (word_of v)) j))

verdict_judged : (d : Specification) (o : Option ℕ) (n ver : ℕ) (t : Tally) (v : VerdictForm) (es : List Event) (j : Judgement) (ob : Obligation) → is_verdict d ver ob v ≡ true
    → judge_all d o n (at ver t places.Opened) j (verdict_lines v es) ≡ judge_all d o (verdict_past n v) (closed ver (with_verdict v t)) (behind_verdict d (budget_in o) (suc n) v j) es
unfolding judge_all
verdict_judged d o n ver t (proved []) es j ob fit = refl
verdict_judged d o n ver t (proved (m ∷ ms)) es j ob fit = log_judged d o (suc n) ver t log_of.Proved m ms es (begun d (suc n) (Some (word.Proved (suc (length ms)))) j)
verdict_judged d o n ver t (refuted p xs) es j ob fit =
    let c = and_parts (are_sizes d 0 p.world.sizes) _ fit in
    let e = and_parts (are_consts d p.world 0 p.world.consts) _ c.1 in
    witness_judged d o (suc n) ver t p xs es (begun d (suc n) (Some word.Refuted) j) c.0 e.0
verdict_judged d o n ver t instances es j ob fit = refl
verdict_judged d o n ver t (lines []) es j ob fit = refl
verdict_judged d o n ver t (lines (m ∷ ms)) es j ob fit = log_judged d o (suc n) ver t log_of.Lines m ms es (begun d (suc n) (Some (word.Lines (suc (length ms)))) j)
verdict_judged d o n ver t (rows [] r) es j ob fit = refl
verdict_judged d o n ver t (rows (m ∷ ms) r) es j ob fit = log_judged d o (suc n) ver t log_of.Rows m ms (events.Rows r ∷ es) (begun d (suc n) (Some (word.Rows (suc (length ms)))) j)
verdict_judged d o n ver t (range [] r) es j ob fit = refl
verdict_judged d o n ver t (range (m ∷ ms) r) es j ob fit = log_judged d o (suc n) ver t log_of.Range m ms (events.Range r ∷ es) (begun d (suc n) (Some (word.Range (suc (length ms)))) j)

-- ---- what that says

-- behind a log without a kernel only its lines are counted
abbrev counted : ℕ → Judgement → Judgement
counted n j = record { tally = j.tally; line = j.line; many = j.many; kernel = j.kernel; log = j.log + n; fault = j.fault }

plus_none : (j : Judgement) → counted 0 j ≡ j
plus_none j = let e : j.log + 0 ≡ j.log = omega arith in λ i. record { tally = j.tally; line = j.line; many = j.many; kernel = j.kernel; log = e i; fault = j.fault }

abbrev pub left_by : Judgement → ℕ → Option Standing → Option Fault → Judgement
left_by j n kernel fault = record { tally = j.tally; line = j.line; many = j.many; kernel = kernel; log = j.log + n; fault = fault }

more : (j : Judgement) (n : ℕ) (kernel : Option Standing) (fault : Option Fault) (i : Judgement) → i.tally ≡ j.tally → i.line ≡ j.line → i.many ≡ j.many → i.log ≡ suc j.log → left_by i n kernel fault ≡ left_by j (suc n) kernel fault
more j n kernel fault i t l m g = let e : i.log + n ≡ j.log + suc n = omega (arith, g) in λ k. record { tally = t k; line = l k; many = m k; kernel = kernel; log = e k; fault = fault }

unposed : (n : ℕ) (ls : List Line) (j : Judgement) → j.kernel ≡ None → log_all n ls j ≡ left_by j (length ls) None j.fault
unposed n [] j e = let z : j.log ≡ j.log + 0 = omega arith in λ i. record { tally = j.tally; line = j.line; many = j.many; kernel = e i; log = z i; fault = j.fault }
unposed n (l ∷ ls) j e =
    ap (λ (k : Option Standing). log_all (suc n) ls (logged_in n l j k)) e
    ∙ unposed (suc n) ls (logged_in n l j None) refl
    ∙ more j (length ls) None j.fault (logged_in n l j None) refl refl refl refl

-- what is kept behind a log that ran
abbrev pub ran : ℕ → Judgement → ℕ → Result Standing (ℕ × Why) → Judgement
ran line j n (Ok s) = left_by j n (Some s) j.fault
ran line j n (Err e) = left_by j n None (or_else j.fault (fault_at (line + 1 + e.0) (kind_of e.1)))

ran-more : (line : ℕ) (j : Judgement) (n : ℕ) (r : Result Standing (ℕ × Why)) (i : Judgement) → i.tally ≡ j.tally → i.line ≡ j.line → i.many ≡ j.many → i.log ≡ suc j.log → i.fault ≡ j.fault → ran line i n r ≡ ran line j (suc n) r
ran-more line j n (Ok s) i t l m g f = more j n (Some s) i.fault i t l m g ∙ ap (left_by j (suc n) (Some s)) f
ran-more line j n (Err e) i t l m g f = more j n None _ i t l m g ∙ ap (λ (x : Option Fault). left_by j (suc n) None (or_else x (fault_at (line + 1 + e.0) (kind_of e.1)))) f

-- what stands after the next line and those that follow
abbrev after_next : ℕ → List Line → Result Standing Why → Result Standing (ℕ × Why)
after_next k ls (Ok s) = run_from (k + 1) s ls
after_next k ls (Err w) = Err (k, w)

pub posed_log : (line k : ℕ) (ls : List Line) (j : Judgement) (s : Standing) → j.kernel ≡ Some s → log_all (line + 1 + k) ls j ≡ ran line j (length ls) (run_from k s ls)
posed_log line k [] j s e = let z : j.log ≡ j.log + 0 = omega arith in λ i. record { tally = j.tally; line = j.line; many = j.many; kernel = e i; log = z i; fault = j.fault }
posed_log line k (l ∷ ls) j s e =
    ap (λ (x : Option Standing). log_all (suc (line + 1 + k)) ls (logged_in (line + 1 + k) l j x)) e ∙ by_line (λ t i h. posed_log line (k + 1) ls i t h) (next s l)
  where
    here : suc (line + 1 + k) ≡ line + 1 + (k + 1)
    here = omega arith

    by_line : ((t : Standing) (i : Judgement) → i.kernel ≡ Some t → log_all (line + 1 + (k + 1)) ls i ≡ ran line i (length ls) (run_from (k + 1) t ls)) → (r : Result Standing Why)
        → log_all (suc (line + 1 + k)) ls (after_line (line + 1 + k) j r) ≡ ran line j (suc (length ls)) (after_next k ls r)
    by_line more_of (Ok t) =
        let i : Judgement = after_line (line + 1 + k) j (Ok t) in
        ap (λ (n : ℕ). log_all n ls i) here ∙ more_of t i refl ∙ ran-more line j (length ls) (run_from (k + 1) t ls) i refl refl refl refl refl
    by_line more_of (Err w) =
        let i : Judgement = after_line (line + 1 + k) j (Err w) in
        unposed (suc (line + 1 + k)) ls i refl ∙ more j (length ls) None i.fault i refl refl refl refl

-- the first fault, and how many verdicts of each kind there are, behind one more
record IsBehind (d : Specification) (budget line : ℕ) (ob : Obligation) (v : VerdictForm) (j i : Judgement) : Type 0 where
  tally : i.tally ≡ with_verdict v j.tally
  fault : i.fault ≡ or_else j.fault (rule_fault d budget line ob v)

keeps_fault : (n : ℕ) (ls : List Line) (j : Judgement) (f : Fault) → j.kernel ≡ None → j.fault ≡ Some f → (log_all n ls j).tally ≡ j.tally
keeps_fault n ls j f e h = ap (λ (i : Judgement). i.tally) (unposed n ls j e)

ended_tally : (d : Specification) (budget : ℕ) (v : VerdictForm) (j : Judgement) → (ended d budget (Some (end_of v)) j).tally ≡ with_verdict v j.tally
ended_tally d budget (proved log) j = refl
ended_tally d budget (refuted p es) j = refl
ended_tally d budget instances j = refl
ended_tally d budget (lines log) j = refl
ended_tally d budget (rows log r) j = refl
ended_tally d budget (range log r) j = refl

else_some : (o : Option Fault) (f : Fault) (p q : Option Fault) → o ≡ Some f → or_else o p ≡ or_else o q
else_some None f p q e = absurd cc
else_some (Some g) f p q e = refl

else_none : (o p : Option Fault) → o ≡ None → or_else o p ≡ p
else_none None p e = refl
else_none (Some g) p e = absurd cc

-- behind a fault nothing more is found
behind_fault : (d : Specification) (budget line : ℕ) (ob : Obligation) (v : VerdictForm) (j : Judgement) (f : Fault) → j.fault ≡ Some f → IsBehind d budget line ob v j (behind_verdict d budget line v j)
behind_fault d budget line ob v j f e =
    let b : Judgement = begun_behind d line (word_of v) j (Some f) in
    let begins : begun d line (Some (word_of v)) j ≡ b = ap (begun_behind d line (word_of v) j) e in
    let i : Judgement = log_all (suc line) (log_in v) b in
    let left : i ≡ left_by b (length (log_in v)) None b.fault = unposed (suc line) (log_in v) b refl in
    let x : Judgement = left_by b (length (log_in v)) None b.fault in
    let all : behind_verdict d budget line v j ≡ ended d budget (Some (end_of v)) x = ap (λ (k : Judgement). ended d budget (Some (end_of v)) (log_all (suc line) (log_in v) k)) begins ∙ ap (ended d budget (Some (end_of v))) left in
    record {
      tally = ap (λ (k : Judgement). k.tally) all ∙ ended_tally d budget v x;
      fault = ap (λ (k : Judgement). k.fault) all ∙ else_some j.fault f (end_fault d budget x (end_of v)) (rule_fault d budget line ob v) e;
    }

-- where the formulas are too many, no kernel stands
many_ended : (d : Specification) (budget line : ℕ) (v : VerdictForm) (x : Judgement) → x.many ≡ true → x.kernel ≡ None → x.line ≡ line → end_fault d budget x (end_of v) ≡ many_fault d line (obligation_due d x) v
many_ended d budget line (proved log) x m k l = (λ i. kernel_fault (l i) (λ s. unless s.empty (fault_at (l i) kinds.NoEmpty)) (k i))
many_ended d budget line (refuted p es) x m k l = λ i. unless (refutes_shown d (obligation_due d x) p es) (fault_at (l i) (unrefuted (m i)))
many_ended d budget line instances x m k l = λ i. unless (m i) (fault_at (l i) kinds.Evidence)
many_ended d budget line (lines log) x m k l = λ i. kernel_fault (l i) (λ s. unless ((x.log == budget) && is_fresh s) (fault_at (l i) kinds.Evidence)) (k i)
many_ended d budget line (rows log r) x m k l = λ i. kernel_fault (l i) (λ s. unless (is_fresh s && rows_hold s r.used r.steps) (fault_at (l i) kinds.Evidence)) (k i)
many_ended d budget line (range log r) x m k l = λ i. kernel_fault (l i) (λ s. unless (is_fresh s && range_holds s r.used r.steps r.what) (fault_at (l i) kinds.Evidence)) (k i)

behind_many : (d : Specification) (budget line : ℕ) (v : VerdictForm) (j : Judgement) → j.fault ≡ None → has_many d (obligation_due d j) ≡ true → IsBehind d budget line (obligation_due d j) v j (behind_verdict d budget line v j)
behind_many d budget line v j e m =
    let ob = obligation_due d j in
    let b : Judgement = begun_in d ob line (has_log (word_of v)) j in
    let begins : begun d line (Some (word_of v)) j ≡ b = ap (begun_behind d line (word_of v) j) e in
    let none : b.kernel ≡ None = unposed_many (has_log (word_of v)) in
    let left : log_all (suc line) (log_in v) b ≡ left_by b (length (log_in v)) None b.fault = unposed (suc line) (log_in v) b none in
    let x : Judgement = left_by b (length (log_in v)) None b.fault in
    let all : behind_verdict d budget line v j ≡ ended d budget (Some (end_of v)) x = ap (λ (k : Judgement). ended d budget (Some (end_of v)) (log_all (suc line) (log_in v) k)) begins ∙ ap (ended d budget (Some (end_of v))) left in
    let rule : many_fault d line ob v ≡ rule_fault d budget line ob v = ap (λ (t : Bool). cond t (many_fault d line ob v) (problem_fault d budget (problem_of d ob) line ob v)) (sym m) in
    record {
      tally = ap (λ (k : Judgement). k.tally) all ∙ ended_tally d budget v x;
      fault = ap (λ (k : Judgement). k.fault) all ∙ ap (or_else j.fault) (many_ended d budget line v x m refl refl ∙ rule);
    }
  where
    unposed_many : (logs : Bool) → posed d (obligation_due d j) logs ≡ None
    unposed_many true = ap (λ (t : Bool). cond t None (Some (start_of (problem_of d (obligation_due d j))))) m
    unposed_many false = refl

else_twice : (o : Option Fault) (f : Fault) (q : Option Fault) → or_else (or_else o (Some f)) q ≡ or_else o (Some f)
else_twice None f q = refl
else_twice (Some g) f q = refl

-- where they aren't, the log is run
module _ (d : Specification) (budget line : ℕ) (j : Judgement) (none : j.fault ≡ None) (few : has_many d (obligation_due d j) ≡ false) where
  abbrev due : Obligation
  due = obligation_due d j

  problem_first : (v : VerdictForm) → problem_fault d budget (problem_of d due) line due v ≡ rule_fault d budget line due v
  problem_first v = ap (λ (t : Bool). cond t (many_fault d line due v) (problem_fault d budget (problem_of d due) line due v)) (sym few)

  abbrev first : (logs : Bool) → Judgement
  first logs = begun_in d due line logs j

  begins : (v : VerdictForm) → begun d line (Some (word_of v)) j ≡ first (has_log (word_of v))
  begins v = ap (begun_behind d line (word_of v) j) none

  posed_few : posed d due true ≡ Some (start_of (problem_of d due))
  posed_few = ap (λ (t : Bool). cond t None (Some (start_of (problem_of d due)))) few

  number : suc line ≡ line + 1 + 0
  number = omega arith

  -- behind the log of a verdict
  log_ran : (log : List Line) → log_all (suc line) log (first true) ≡ ran line (first true) (length log) (run (problem_of d due) log)
  log_ran log = ap (λ (n : ℕ). log_all n log (first true)) number ∙ posed_log line 0 log (first true) (start_of (problem_of d due)) posed_few

  -- what is said at the end of one that ran
  ran_fault : (e : EndForm) (log : List Line) (behind : Standing → Option Fault) (r : Result Standing (ℕ × Why))
      → ((s : Standing) → end_fault d budget (left_by (first true) (length log) (Some s) j.fault) e ≡ behind s)
      → (ended d budget (Some e) (ran line (first true) (length log) r)).fault ≡ or_else j.fault (log_fault line behind r)
  ran_fault e log behind (Ok s) h = ap (or_else j.fault) (h s)
  ran_fault e log behind (Err x) h = else_twice j.fault (record { number = line + 1 + x.0; kind = kind_of x.1 }) _

  ran_tally : (n : ℕ) (r : Result Standing (ℕ × Why)) → (ran line (first true) n r).tally ≡ j.tally
  ran_tally n (Ok s) = refl
  ran_tally n (Err e) = refl

  with_log : (v : VerdictForm) (log : List Line) (behind : Standing → Option Fault) → log_in v ≡ log → has_log (word_of v) ≡ true
      → ((s : Standing) → end_fault d budget (left_by (first true) (length log) (Some s) j.fault) (end_of v) ≡ behind s)
      → log_fault line behind (run (problem_of d due) log) ≡ problem_fault d budget (problem_of d due) line due v
      → IsBehind d budget line due v j (behind_verdict d budget line v j)
  with_log v log behind l g h p =
      let x : Judgement = ran line (first true) (length log) (run (problem_of d due) log) in
      let all : behind_verdict d budget line v j ≡ ended d budget (Some (end_of v)) x =
      ap (λ (k : Judgement). ended d budget (Some (end_of v)) (log_all (suc line) (log_in v) k)) (begins v ∙ ap first g)
      ∙ ap (λ (ls : List Line). ended d budget (Some (end_of v)) (log_all (suc line) ls (first true))) l
      ∙ ap (ended d budget (Some (end_of v))) (log_ran log) in
      record {
        tally = ap (λ (k : Judgement). k.tally) all ∙ ended_tally d budget v x ∙ ap (with_verdict v) (ran_tally (length log) (run (problem_of d due) log));
        fault = ap (λ (k : Judgement). k.fault) all ∙ ran_fault (end_of v) log behind (run (problem_of d due) log) h ∙ ap (or_else j.fault) (p ∙ problem_first v);
      }

  none_before : (log : List Line) → 0 + length log ≡ length log
  none_before log = omega arith

  behind_few : (v : VerdictForm) → IsBehind d budget line due v j (behind_verdict d budget line v j)
  behind_few (proved log) = with_log (proved log) log (λ s. unless s.empty (fault_at line kinds.NoEmpty)) refl refl (λ s. refl) refl
  behind_few (refuted p es) = record {
    tally = ap (λ (k : Judgement). (ended d budget (Some (end_refuted p es)) k).tally) (begins (refuted p es));
    fault = ap (λ (k : Judgement). (ended d budget (Some (end_refuted p es)) k).fault) (begins (refuted p es))
        ∙ ap (λ (t : Bool). or_else j.fault (unless (refutes_shown d due p es) (fault_at line (unrefuted t)))) few ∙ ap (or_else j.fault) (problem_first (refuted p es));
  }
  behind_few instances = record {
    tally = ap (λ (k : Judgement). (ended d budget (Some end_instances) k).tally) (begins instances);
    fault = ap (λ (k : Judgement). (ended d budget (Some end_instances) k).fault) (begins instances)
        ∙ ap (λ (t : Bool). or_else j.fault (unless t (fault_at line kinds.Evidence))) few ∙ ap (or_else j.fault) (problem_first instances);
  }
  behind_few (lines log) = with_log (lines log) log (λ s. unless ((length log == budget) && is_fresh s) (fault_at line kinds.Evidence)) refl refl (λ s. ap (λ (n : ℕ). unless ((n == budget) && is_fresh s) (fault_at line kinds.Evidence)) (none_before log)) refl
  behind_few (rows log r) = with_log (rows log r) log (λ s. unless (is_fresh s && rows_hold s r.used r.steps) (fault_at line kinds.Evidence)) refl refl (λ s. refl) refl
  behind_few (range log r) = with_log (range log r) log (λ s. unless (is_fresh s && range_holds s r.used r.steps r.what) (fault_at line kinds.Evidence)) refl refl (λ s. refl) refl

is_behind : (d : Specification) (budget line : ℕ) (v : VerdictForm) (j : Judgement) → IsBehind d budget line (obligation_due d j) v j (behind_verdict d budget line v j)
is_behind d budget line v j = by_fault j.fault refl
  where
    by_many : j.fault ≡ None → (b : Bool) → has_many d (obligation_due d j) ≡ b → IsBehind d budget line (obligation_due d j) v j (behind_verdict d budget line v j)
    by_many e true m = behind_many d budget line v j e m
    by_many e false m = behind_few d budget line j e m v

    by_fault : (o : Option Fault) → j.fault ≡ o → IsBehind d budget line (obligation_due d j) v j (behind_verdict d budget line v j)
    by_fault None e = by_many e (has_many d (obligation_due d j)) refl
    by_fault (Some f) e = behind_fault d budget line (obligation_due d j) v j f e

-- ---- reports

pub record AllJudged (tally : Tally) (fault : Option Fault) (x : State × Judgement) : Type 0 where
  pub tally_is : x.1.tally ≡ tally
  pub fault_is : x.1.fault ≡ fault

else_again : (a b c : Option Fault) → or_else (or_else a b) c ≡ or_else a (or_else b c)
else_again None b c = refl
else_again (Some f) b c = refl

else_end : (a : Option Fault) → a ≡ or_else a None
else_end None = refl
else_end (Some f) = refl

one_more_told : (v : VerdictForm) (t : Tally) → told (with_verdict v t) ≡ suc (told t)
one_more_told (proved log) t = (one_told t).0
one_more_told (refuted p es) t = (one_told t).1
one_more_told instances t = (one_told t).2
one_more_told (lines log) t = (one_told t).2
one_more_told (rows log r) t = (one_told t).2
one_more_told (range log r) t = (one_told t).2

blocks_judged : (d : Specification) (budget n ver i : ℕ) (t : Tally) (vs : List VerdictForm) (j : Judgement) → are_verdicts d ver i vs ≡ true → j.tally ≡ t → told t ≡ i
    → AllJudged (fold (λ t v. with_verdict v t) t vs) (or_else j.fault (blocks_fault d budget i (blocks_behind n vs))) (judge_all d (Some budget) n (at ver t places.Due) j (block_lines t vs))
unfolding judge_all
blocks_judged d budget n ver i t [] j fit same place = record { tally_is = same; fault_is = else_end j.fault }
blocks_judged d budget n ver i t (v ∷ vs) j fit same place =
    let p = and_parts (ltb i (obligation_count d)) _ fit in
    let q = and_parts (is_verdict d ver (obligation_at d i) v) (are_verdicts d ver (suc i) vs) p.1 in
    let u = with_verdict v t in
    let m = n + 1 + length (verdict_lines v []) in
    let line : suc (suc n) ≡ n + 2 = omega arith in
    let next_line : verdict_past (suc n) v ≡ m = let h = behind v (suc n) in omega (arith, h) in
    let x : Judgement = behind_verdict d budget (suc (suc n)) v j in
    let b = is_behind d budget (suc (suc n)) v j in
    let ob : obligation_due d j ≡ obligation_at d i = ap (obligation_at d) (ap told same ∙ place) in
    let tally : x.tally ≡ u = b.tally ∙ ap (with_verdict v) same in
    let rest_fault : Option Fault = blocks_fault d budget (suc i) (blocks_behind m vs) in
    let r = blocks_judged d budget m ver (suc i) u vs x q.1 tally (one_more_told v t ∙ ap (λ (k : ℕ). suc k) place) in
    let k = verdict_judged d (Some budget) (suc n) ver t v (block_lines u vs) j (obligation_at d i) q.0 in
    let all_fault : or_else x.fault rest_fault ≡ or_else j.fault (or_else (rule_fault d budget (n + 2) (obligation_at d i) v) rest_fault) =
    ap (λ (o : Option Fault). or_else o rest_fault) (b.fault ∙ (λ z. or_else j.fault (rule_fault d budget (line z) (ob z) v))) ∙ else_again j.fault (rule_fault d budget (n + 2) (obligation_at d i) v) rest_fault in
    let here = subst (λ (o : Option Fault). AllJudged (fold (λ t v. with_verdict v t) u vs) o (judge_all d (Some budget) m (at ver u places.Due) x (block_lines u vs))) all_fault r in
    let at_next = subst (λ (z : ℕ). AllJudged (fold (λ t v. with_verdict v t) u vs) (or_else j.fault (or_else (rule_fault d budget (n + 2) (obligation_at d i) v) rest_fault)) (judge_all d (Some budget) z (closed ver u) x (block_lines u vs))) (sym next_line) here in
    subst (λ (z : State × Judgement). AllJudged (fold (λ t v. with_verdict v t) u vs) (or_else j.fault (or_else (rule_fault d budget (n + 2) (obligation_at d i) v) rest_fault)) z) (sym k) at_next

-- what is kept of the lines of a report
pub report_is_judged : (d : Specification) (r : ReportForm) → is_report d r ≡ true → AllJudged (tally_of r.verdicts) (verdict_fault d r) (judge_all d None 0 start no_judgement (report_lines d r))
unfolding judge_all
report_is_judged d r fit =
    let a = and_parts (title_format.fits r.version) _ fit in
    let b = and_parts (budget_format.fits r.budget) _ a.1 in
    blocks_judged d r.budget 3 r.version 0 no_verdicts r.verdicts no_judgement b.1 refl refl
