-- What is kept of the lines of a report is its blocks.
use Rattle.std.proofs.Common.{◌≡◌, ℕ, suc, ◌+◌, ◌<◌, Bool, true, false, cond, eqb, ltb, List, [], ◌∷◌, ◌++◌, length, get_or, Option, Some, None, refl, sym, ap, subst, ◌∙◌, append_assoc, arith}
use Rattle.std.proofs.lemmas.Bool.{and_parts, ne_eqb, ltb-true}
use Rattle.std.proofs.lemmas.List.{append-nil}
use Rattle.spec_core.specs.declared.world.World.{World}
use Rattle.spec_core.specs.declared.world.Call.{Call}
use Rattle.spec_core.specs.Specification.{Specification}
use Rattle.spec_core.specs.World.{size_of}
use Rattle.proof_lines.specs.declared.line.Line.{Line}
use Rattle.obligation_list.specs.declared.obligation.Obligation.{Obligation}
use Rattle.report_lines.specs.declared.head.Tally.{Tally}
use Rattle.report_lines.specs.declared.witness.Fact.{Fact}
use Rattle.report_lines.specs.declared.witness.Reading.{Reading}
use Rattle.report_lines.specs.declared.witness.Shown.TheVariants as shown
use Rattle.report_lines.specs.Heads.{title_format, budget_format}
use Rattle.report_lines.specs.Witnesses.{size_format, const_format}
use Rattle.proof_report.specs.declared.event.Event.{Event}
use Rattle.proof_report.specs.declared.event.Event.TheVariants as events
use Rattle.proof_report.specs.declared.place.PartialWitness.{PartialWitness}
use Rattle.proof_report.specs.declared.place.LogOf.{LogOf}
use Rattle.proof_report.specs.declared.place.LogOf.TheVariants as log_of
use Rattle.proof_report.specs.declared.place.Place.TheVariants as places
use Rattle.proof_report.specs.declared.place.Stage.{Stage}
use Rattle.proof_report.specs.declared.place.Stage.TheVariants as stages
use Rattle.proof_report.specs.declared.place.State.{State}
use Rattle.proof_report.specs.Verdicts.{VerdictForm, proved, refuted, instances, lines, rows, range, obligation_at, obligation_count, const_at, are_sizes, are_consts, is_verdict, are_verdicts, ReportForm, is_report}
use Rattle.proof_report.specs.Events.{no_verdicts, with_refuted, with_verdict, log_lines, size_lines, const_lines, fact_lines, reading_lines, call_lines, witness_lines, verdict_lines, block_lines, report_lines}
use Rattle.proof_report.specs.Feeding.{log_ended, no_witness, no_world, at_consts, at_sizes, with_size, with_const, with_fact, with_reading, with_call, closed, start}
use Rattle.report_reader.specs.Reader.{EndForm, end_refuted, log_end}
use Rattle.proof_report.proofs.Sound.{at, one_more}
use Rattle.report_bytes.specs.Reading.{BlockForm, blocks_behind, blocks_of}
use Rattle.report_bytes.specs.Collecting.{Kept, nothing_kept, kept_end, with_budget, keep_all}

-- ---- numbers of lines

abbrev past : {A : Type 0} → List A → ℕ → ℕ
past [] n = n
past (x ∷ xs) n = past xs (suc n)

abbrev verdict_past : ℕ → VerdictForm → ℕ
verdict_past n (proved log) = past log (suc n)
verdict_past n (refuted p xs) = suc (past p.calls (past p.readings (past p.facts (past p.world.consts (past p.world.sizes (suc n))))))
verdict_past n instances = suc n
verdict_past n (lines log) = past log (suc n)
verdict_past n (rows log r) = suc (past log (suc n))
verdict_past n (range log r) = suc (past log (suc n))

log_past : (log : List Line) (n : ℕ) (es : List Event) → n + length (log_lines log es) ≡ past log n + length es
log_past [] n es = refl
log_past (l ∷ ls) n es = let h = log_past ls (suc n) es in omega (arith, h)

size_past : (xs : List ℕ) (i n : ℕ) (es : List Event) → n + length (size_lines i xs es) ≡ past xs n + length es
size_past [] i n es = refl
size_past (x ∷ xs) i n es = let h = size_past xs (suc i) (suc n) es in omega (arith, h)

const_past : (xs : List ℕ) (i n : ℕ) (es : List Event) → n + length (const_lines i xs es) ≡ past xs n + length es
const_past [] i n es = refl
const_past (x ∷ xs) i n es = let h = const_past xs (suc i) (suc n) es in omega (arith, h)

fact_past : (xs : List Fact) (n : ℕ) (es : List Event) → n + length (fact_lines xs es) ≡ past xs n + length es
fact_past [] n es = refl
fact_past (x ∷ xs) n es = let h = fact_past xs (suc n) es in omega (arith, h)

reading_past : (xs : List Reading) (n : ℕ) (es : List Event) → n + length (reading_lines xs es) ≡ past xs n + length es
reading_past [] n es = refl
reading_past (x ∷ xs) n es = let h = reading_past xs (suc n) es in omega (arith, h)

call_past : (xs : List Call) (n : ℕ) (es : List Event) → n + length (call_lines xs es) ≡ past xs n + length es
call_past [] n es = refl
call_past (x ∷ xs) n es = let h = call_past xs (suc n) es in omega (arith, h)

behind : (v : VerdictForm) (n : ℕ) → n + length (verdict_lines v []) ≡ verdict_past n v
behind (proved log) n = let h = log_past log (suc n) [] in omega (arith, h)
behind (refuted p xs) n =
    let end = events.Shown (shown.At xs) ∷ [] in
    let cs = call_lines p.calls end in
    let rs = reading_lines p.readings cs in
    let fs = fact_lines p.facts rs in
    let ks = const_lines 0 p.world.consts fs in
    let a = size_past p.world.sizes 0 (suc n) ks in
    let b = const_past p.world.consts 0 (past p.world.sizes (suc n)) fs in
    let c = fact_past p.facts (past p.world.consts (past p.world.sizes (suc n))) rs in
    let e = reading_past p.readings (past p.facts (past p.world.consts (past p.world.sizes (suc n)))) cs in
    let f = call_past p.calls (past p.readings (past p.facts (past p.world.consts (past p.world.sizes (suc n))))) end in
    omega (arith, a, b, c, e, f)
behind instances n = omega arith
behind (lines log) n = let h = log_past log (suc n) [] in omega (arith, h)
behind (rows log r) n = let h = log_past log (suc n) (events.Rows r ∷ []) in omega (arith, h)
behind (range log r) n = let h = log_past log (suc n) (events.Range r ∷ []) in omega (arith, h)

-- ---- logs

no_end : (k : LogOf) (n : ℕ) → log_end k (suc (suc n)) ≡ None
no_end log_of.Proved n = refl
no_end log_of.Lines n = refl
no_end log_of.Rows n = refl
no_end log_of.Range n = refl

abbrev with_log : List Line → Kept → Kept
with_log log k = record { line = k.line; log = log; blocks = k.blocks; budget = k.budget }

same_budget : (o : Option EndForm) (k : Kept) → with_budget k.budget (kept_end o k) ≡ kept_end o k
same_budget None k = refl
same_budget (Some e) k = refl

-- a log with a line
log_kept : (d : Specification) (n ver : ℕ) (t : Tally) (k : LogOf) (l : Line) (ls : List Line) (es : List Event) (x : Kept)
    → keep_all d n (at ver t (places.Log k (suc (length ls)))) x (log_lines (l ∷ ls) es) ≡ keep_all d (past ls (suc n)) (log_ended k ver t) (kept_end (log_end k 1) (with_log (x.log ++ l ∷ ls) x)) es
unfolding keep_all
log_kept d n ver t k l [] es x = ap (λ (y : Kept). keep_all d (suc n) (log_ended k ver t) y es) (same_budget (log_end k 1) (with_log (x.log ++ l ∷ []) x))
log_kept d n ver t k l (m ∷ ms) es x =
    let y = with_log (x.log ++ l ∷ []) x in
    ap (λ (o : Option EndForm). keep_all d (suc n) (at ver t (places.Log k (suc (length ms)))) (with_budget x.budget (kept_end o y)) (log_lines (m ∷ ms) es)) (no_end k (length ms))
    ∙ log_kept d (suc n) ver t k m ms es y
    ∙ ap (λ (log : List Line). keep_all d (past ms (suc (suc n))) (log_ended k ver t) (kept_end (log_end k 1) (with_log log x)) es) (append_assoc x.log (l ∷ []) (m ∷ ms))

-- ---- what a witness shows

abbrev with_calls : PartialWitness → List Call → PartialWitness
with_calls p cs = record { world = p.world; facts = p.facts; readings = p.readings; calls = cs }

abbrev refuting : Specification → ℕ → ℕ → Tally → PartialWitness → List ℕ → List Event → Kept → State × Kept
refuting d n ver t p xs es x = keep_all d (suc n) (closed ver (with_refuted t)) (kept_end (Some (end_refuted p xs)) x) es

calls_kept : (d : Specification) (n ver : ℕ) (t : Tally) (g : Stage) (p : PartialWitness) (cs : List Call) (xs : List ℕ) (es : List Event) (x : Kept)
    → keep_all d n (at ver t (places.Showing g p)) x (call_lines cs (events.Shown (shown.At xs) ∷ es)) ≡ refuting d (past cs n) ver t (with_calls p (p.calls ++ cs)) xs es x
unfolding keep_all
calls_kept d n ver t g p [] xs es x = ap (λ (cs : List Call). refuting d n ver t (with_calls p cs) xs es x) (sym (append-nil p.calls))
calls_kept d n ver t g p (c ∷ cs) xs es x =
    calls_kept d (suc n) ver t stages.Calls (with_call c p) cs xs es x
    ∙ ap (λ (all : List Call). refuting d (past cs (suc n)) ver t (with_calls p all) xs es x) (append_assoc p.calls (c ∷ []) cs)

abbrev with_shown_readings : PartialWitness → List Reading → List Call → PartialWitness
with_shown_readings p rs cs = record { world = p.world; facts = p.facts; readings = rs; calls = cs }

abbrev end_on : List Call → List ℕ → List Event → List Event
end_on cs xs es = call_lines cs (events.Shown (shown.At xs) ∷ es)

readings_kept : (d : Specification) (n ver : ℕ) (t : Tally) (p : PartialWitness) (rs : List Reading) (cs : List Call) (xs : List ℕ) (es : List Event) (x : Kept)
    → keep_all d n (at ver t (places.Showing stages.Readings p)) x (reading_lines rs (end_on cs xs es)) ≡ refuting d (past cs (past rs n)) ver t (with_shown_readings p (p.readings ++ rs) (p.calls ++ cs)) xs es x
unfolding keep_all
readings_kept d n ver t p [] cs xs es x =
    calls_kept d n ver t stages.Readings p cs xs es x ∙ ap (λ (rs : List Reading). refuting d (past cs n) ver t (with_shown_readings p rs (p.calls ++ cs)) xs es x) (sym (append-nil p.readings))
readings_kept d n ver t p (r ∷ rs) cs xs es x =
    readings_kept d (suc n) ver t (with_reading r p) rs cs xs es x
    ∙ ap (λ (all : List Reading). refuting d (past cs (past rs (suc n))) ver t (with_shown_readings p all (p.calls ++ cs)) xs es x) (append_assoc p.readings (r ∷ []) rs)

first_readings_kept : (d : Specification) (n ver : ℕ) (t : Tally) (p : PartialWitness) (rs : List Reading) (cs : List Call) (xs : List ℕ) (es : List Event) (x : Kept)
    → keep_all d n (at ver t (places.Showing stages.Facts p)) x (reading_lines rs (end_on cs xs es)) ≡ refuting d (past cs (past rs n)) ver t (with_shown_readings p (p.readings ++ rs) (p.calls ++ cs)) xs es x
unfolding keep_all
first_readings_kept d n ver t p [] cs xs es x =
    calls_kept d n ver t stages.Facts p cs xs es x ∙ ap (λ (rs : List Reading). refuting d (past cs n) ver t (with_shown_readings p rs (p.calls ++ cs)) xs es x) (sym (append-nil p.readings))
first_readings_kept d n ver t p (r ∷ rs) cs xs es x =
    readings_kept d (suc n) ver t (with_reading r p) rs cs xs es x
    ∙ ap (λ (all : List Reading). refuting d (past cs (past rs (suc n))) ver t (with_shown_readings p all (p.calls ++ cs)) xs es x) (append_assoc p.readings (r ∷ []) rs)

abbrev with_all : PartialWitness → List Fact → List Reading → List Call → PartialWitness
with_all p fs rs cs = record { world = p.world; facts = fs; readings = rs; calls = cs }

facts_kept : (d : Specification) (n ver : ℕ) (t : Tally) (p : PartialWitness) (fs : List Fact) (rs : List Reading) (cs : List Call) (xs : List ℕ) (es : List Event) (x : Kept)
    → keep_all d n (at ver t (places.Showing stages.Facts p)) x (fact_lines fs (reading_lines rs (end_on cs xs es))) ≡ refuting d (past cs (past rs (past fs n))) ver t (with_all p (p.facts ++ fs) (p.readings ++ rs) (p.calls ++ cs)) xs es x
unfolding keep_all
facts_kept d n ver t p [] rs cs xs es x =
    first_readings_kept d n ver t p rs cs xs es x ∙ ap (λ (fs : List Fact). refuting d (past cs (past rs n)) ver t (with_all p fs (p.readings ++ rs) (p.calls ++ cs)) xs es x) (sym (append-nil p.facts))
facts_kept d n ver t p (f ∷ fs) rs cs xs es x =
    facts_kept d (suc n) ver t (with_fact f p) fs rs cs xs es x
    ∙ ap (λ (all : List Fact). refuting d (past cs (past rs (past fs (suc n)))) ver t (with_all p all (p.readings ++ rs) (p.calls ++ cs)) xs es x) (append_assoc p.facts (f ∷ []) fs)

-- ---- worlds

in_order : (a b : ℕ) → a < b → eqb a b ≡ false
in_order a b h = ne_eqb a b (λ e. let k : a < b = h in omega arith)

abbrev of_consts : World → List ℕ → World
of_consts w xs = record { sizes = w.sizes; consts = xs }

consts_kept : (d : Specification) (n ver : ℕ) (t : Tally) (w v : World) (xs : List ℕ) (es : List Event) (x : Kept) → are_consts d v (length w.consts) xs ≡ true
    → keep_all d n (at ver t (at_consts d w)) x (const_lines (length w.consts) xs es) ≡ keep_all d (past xs n) (at ver t (places.Showing stages.Facts (no_witness (of_consts w (w.consts ++ xs))))) x es
unfolding keep_all
consts_kept d n ver t w v [] es x fit =
    let all : eqb (length w.consts) (length d.consts) ≡ true = fit in
    ap (λ (b : Bool). keep_all d n (at ver t (cond b (places.Showing stages.Facts (no_witness w)) (places.Consts w))) x es) all
    ∙ ap (λ (ys : List ℕ). keep_all d n (at ver t (places.Showing stages.Facts (no_witness (of_consts w ys)))) x es) (sym (append-nil w.consts))
consts_kept d n ver t w v (y ∷ ys) es x fit =
    let a = and_parts (ltb (length w.consts) (length d.consts)) _ fit in
    let b = and_parts ((const_format (const_at d (length w.consts)).name (size_of v (const_at d (length w.consts)).sort)).fits y) (are_consts d v (suc (length w.consts)) ys) a.1 in
    let many : length (w.consts ++ y ∷ []) ≡ suc (length w.consts) = one_more w.consts y in
    let less : eqb (length w.consts) (length d.consts) ≡ false = in_order _ _ (ltb-true _ _ a.0) in
    let on : are_consts d v (length (w.consts ++ y ∷ [])) ys ≡ true = subst (λ (m : ℕ). are_consts d v m ys ≡ true) (sym many) b.1 in
    ap (λ (b : Bool). keep_all d n (at ver t (cond b (places.Showing stages.Facts (no_witness w)) (places.Consts w))) x (const_lines (length w.consts) (y ∷ ys) es)) less
    ∙ ap (λ (m : ℕ). keep_all d (suc n) (at ver t (at_consts d (with_const y w))) x (const_lines m ys es)) (sym many)
    ∙ consts_kept d (suc n) ver t (with_const y w) v ys es x on
    ∙ ap (λ (zs : List ℕ). keep_all d (past ys (suc n)) (at ver t (places.Showing stages.Facts (no_witness (of_consts w zs)))) x es) (append_assoc w.consts (y ∷ []) ys)

abbrev of_sizes : World → List ℕ → World
of_sizes w xs = record { sizes = xs; consts = w.consts }

sizes_kept : (d : Specification) (n ver : ℕ) (t : Tally) (w : World) (xs : List ℕ) (es : List Event) (x : Kept) → are_sizes d (length w.sizes) xs ≡ true
    → keep_all d n (at ver t (at_sizes d w)) x (size_lines (length w.sizes) xs es) ≡ keep_all d (past xs n) (at ver t (at_consts d (of_sizes w (w.sizes ++ xs)))) x es
unfolding keep_all
sizes_kept d n ver t w [] es x fit =
    let all : eqb (length w.sizes) (length d.sorts) ≡ true = fit in
    ap (λ (b : Bool). keep_all d n (at ver t (cond b (at_consts d w) (places.Sizes w))) x es) all
    ∙ ap (λ (ys : List ℕ). keep_all d n (at ver t (at_consts d (of_sizes w ys))) x es) (sym (append-nil w.sizes))
sizes_kept d n ver t w (y ∷ ys) es x fit =
    let a = and_parts (ltb (length w.sizes) (length d.sorts)) _ fit in
    let b = and_parts ((size_format (get_or d.sorts (length w.sizes) [])).fits y) (are_sizes d (suc (length w.sizes)) ys) a.1 in
    let many : length (w.sizes ++ y ∷ []) ≡ suc (length w.sizes) = one_more w.sizes y in
    let less : eqb (length w.sizes) (length d.sorts) ≡ false = in_order _ _ (ltb-true _ _ a.0) in
    let on : are_sizes d (length (w.sizes ++ y ∷ [])) ys ≡ true = subst (λ (m : ℕ). are_sizes d m ys ≡ true) (sym many) b.1 in
    ap (λ (b : Bool). keep_all d n (at ver t (cond b (at_consts d w) (places.Sizes w))) x (size_lines (length w.sizes) (y ∷ ys) es)) less
    ∙ ap (λ (m : ℕ). keep_all d (suc n) (at ver t (at_sizes d (with_size y w))) x (size_lines m ys es)) (sym many)
    ∙ sizes_kept d (suc n) ver t (with_size y w) ys es x on
    ∙ ap (λ (zs : List ℕ). keep_all d (past ys (suc n)) (at ver t (at_consts d (of_sizes w zs))) x es) (append_assoc w.sizes (y ∷ []) ys)

witness_kept : (d : Specification) (n ver : ℕ) (t : Tally) (p : PartialWitness) (xs : List ℕ) (es : List Event) (x : Kept) → are_sizes d 0 p.world.sizes ≡ true → are_consts d p.world 0 p.world.consts ≡ true
    → keep_all d n (at ver t (at_sizes d no_world)) x (witness_lines p xs es) ≡ refuting d (past p.calls (past p.readings (past p.facts (past p.world.consts (past p.world.sizes n))))) ver t p xs es x
witness_kept d n ver t p xs es x a b =
    let fs = fact_lines p.facts (reading_lines p.readings (end_on p.calls xs es)) in
    sizes_kept d n ver t no_world p.world.sizes (const_lines 0 p.world.consts fs) x a
    ∙ consts_kept d (past p.world.sizes n) ver t (of_sizes no_world p.world.sizes) p.world p.world.consts fs x b
    ∙ facts_kept d (past p.world.consts (past p.world.sizes n)) ver t (no_witness p.world) p.facts p.readings p.calls xs es x

-- ---- blocks

abbrev kept_block : ℕ → VerdictForm → List BlockForm → Option ℕ → Kept
kept_block n v bs b = record { line = n; log = []; blocks = bs ++ record { line = n; verdict = v } ∷ []; budget = b }

abbrev before : ℕ → List BlockForm → Option ℕ → Kept
before l bs b = record { line = l; log = []; blocks = bs; budget = b }

verdict_kept : (d : Specification) (n ver : ℕ) (t : Tally) (v : VerdictForm) (es : List Event) (l : ℕ) (bs : List BlockForm) (b : Option ℕ) (ob : Obligation) → is_verdict d ver ob v ≡ true
    → keep_all d n (at ver t places.Opened) (before l bs b) (verdict_lines v es) ≡ keep_all d (verdict_past n v) (closed ver (with_verdict v t)) (kept_block (suc n) v bs b) es
unfolding keep_all
verdict_kept d n ver t (proved []) es l bs b ob fit = refl
verdict_kept d n ver t (proved (m ∷ ms)) es l bs b ob fit = log_kept d (suc n) ver t log_of.Proved m ms es (before (suc n) bs b)
verdict_kept d n ver t (refuted p xs) es l bs b ob fit =
    let c = and_parts (are_sizes d 0 p.world.sizes) _ fit in
    let e = and_parts (are_consts d p.world 0 p.world.consts) _ c.1 in
    witness_kept d (suc n) ver t p xs es (before (suc n) bs b) c.0 e.0
verdict_kept d n ver t instances es l bs b ob fit = refl
verdict_kept d n ver t (lines []) es l bs b ob fit = refl
verdict_kept d n ver t (lines (m ∷ ms)) es l bs b ob fit = log_kept d (suc n) ver t log_of.Lines m ms es (before (suc n) bs b)
verdict_kept d n ver t (rows [] r) es l bs b ob fit = refl
verdict_kept d n ver t (rows (m ∷ ms) r) es l bs b ob fit = log_kept d (suc n) ver t log_of.Rows m ms (events.Rows r ∷ es) (before (suc n) bs b)
verdict_kept d n ver t (range [] r) es l bs b ob fit = refl
verdict_kept d n ver t (range (m ∷ ms) r) es l bs b ob fit = log_kept d (suc n) ver t log_of.Range m ms (events.Range r ∷ es) (before (suc n) bs b)

-- what is kept of the blocks from a place on
pub record AllKept (ver : ℕ) (bs : List BlockForm) (b : Option ℕ) (x : State × Kept) : Type 0 where
  pub version : x.0.version ≡ ver
  pub blocks : x.1.blocks ≡ bs
  pub budget : x.1.budget ≡ b

blocks_kept : (d : Specification) (n ver i : ℕ) (t : Tally) (vs : List VerdictForm) (l : ℕ) (bs : List BlockForm) (b : Option ℕ) → are_verdicts d ver i vs ≡ true
    → AllKept ver (bs ++ blocks_behind n vs) b (keep_all d n (at ver t places.Due) (before l bs b) (block_lines t vs))
unfolding keep_all
blocks_kept d n ver i t [] l bs b fit = record { version = refl; blocks = sym (append-nil bs); budget = refl }
blocks_kept d n ver i t (v ∷ vs) l bs b fit =
    let p = and_parts (ltb i (obligation_count d)) _ fit in
    let q = and_parts (is_verdict d ver (obligation_at d i) v) (are_verdicts d ver (suc i) vs) p.1 in
    let u = with_verdict v t in
    let m = n + 1 + length (verdict_lines v []) in
    let line : n + 2 ≡ suc (suc n) = omega arith in
    let next : verdict_past (suc n) v ≡ m = let h = behind v (suc n) in omega (arith, h) in
    let k = verdict_kept d (suc n) ver t v (block_lines u vs) l bs b (obligation_at d i) q.0 in
    let r = blocks_kept d m ver (suc i) u vs (suc (suc n)) (bs ++ record { line = suc (suc n); verdict = v } ∷ []) b q.1 in
    let at_next = subst (λ (z : ℕ). AllKept ver ((bs ++ record { line = suc (suc n); verdict = v } ∷ []) ++ blocks_behind m vs) b (keep_all d z (closed ver u) (kept_block (suc (suc n)) v bs b) (block_lines u vs))) (sym next) r in
    let whole = subst (λ (z : State × Kept). AllKept ver ((bs ++ record { line = suc (suc n); verdict = v } ∷ []) ++ blocks_behind m vs) b z) (sym k) at_next in
    let e : (bs ++ record { line = suc (suc n); verdict = v } ∷ []) ++ blocks_behind m vs ≡ bs ++ (record { line = n + 2; verdict = v } ∷ blocks_behind m vs) =
    append_assoc bs (record { line = suc (suc n); verdict = v } ∷ []) (blocks_behind m vs) ∙ ap (λ (z : ℕ). bs ++ (record { line = z; verdict = v } ∷ blocks_behind m vs)) (sym line) in
    subst (λ (z : List BlockForm). AllKept ver z b (keep_all d n (at ver t places.Due) (before l bs b) (block_lines t (v ∷ vs)))) e whole

pub report_kept : (d : Specification) (r : ReportForm) → is_report d r ≡ true → AllKept r.version (blocks_of r) (Some r.budget) (keep_all d 0 start nothing_kept (report_lines d r))
unfolding keep_all
report_kept d r fit =
    let a = and_parts (title_format.fits r.version) _ fit in
    let b = and_parts (budget_format.fits r.budget) _ a.1 in
    blocks_kept d 3 r.version 0 no_verdicts r.verdicts 0 [] (Some r.budget) b.1
