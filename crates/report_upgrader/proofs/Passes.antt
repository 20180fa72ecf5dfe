-- What is written behind all lines of a report is what the upgraded one says.
use Rattle.std.proofs.Common.{◌≡◌, ℕ, suc, ◌+◌, true, false, List, [], ◌∷◌, ◌++◌, map, length, Some, None, refl, sym, ap, ◌∙◌, append_assoc, append-nil, arith}
use Rattle.std.specs.Prelude.{nat_lt}
use Rattle.std.proofs.lemmas.Bool.Decides.{nat_tests}
use Rattle.std.proofs.lemmas.List.{length-append}
use Rattle.spec_core.specs.declared.world.Call.{Call}
use Rattle.spec_core.specs.Specification.{Specification}
use Rattle.proof_lines.specs.declared.line.Line.{Line}
use Rattle.report_lines.specs.declared.head.Tally.{Tally}
use Rattle.report_lines.specs.declared.verdict.VerdictWord.TheVariants as word
use Rattle.report_lines.specs.declared.witness.Fact.{Fact}
use Rattle.report_lines.specs.declared.witness.Reading.{Reading}
use Rattle.report_lines.specs.declared.witness.Shown.TheVariants as shown
use Rattle.proof_report.specs.declared.event.Event.{Event}
use Rattle.proof_report.specs.declared.event.Event.TheVariants as events
use Rattle.proof_report.specs.declared.place.PartialWitness.{PartialWitness}
use Rattle.proof_report.specs.Verdicts.{VerdictForm, proved, refuted, instances, lines, rows, range, obligation_count, ReportForm}
use Rattle.proof_report.specs.Events.{told, no_verdicts, with_verdict, log_lines, size_lines, const_lines, fact_lines, reading_lines, call_lines, witness_lines, verdict_lines, block_lines}
use Rattle.report_upgrader.specs.UpgradedLogs.{upgraded}
use Rattle.report_upgrader.specs.Reports.{upgraded_verdict, upgraded_report}
use Rattle.report_upgrader.specs.Passing.{Held, held_on, whole_lines, passed, begins_proof}

-- ---- lines that aren't held

log_passed : (ls : List Line) (es : List Event) → passed None (log_lines ls es) ≡ log_lines ls (passed None es)
unfolding passed
log_passed [] es = refl
log_passed (l ∷ ls) es = ap (λ (x : List Event). events.Log l ∷ x) (log_passed ls es)

sizes_passed : (i : ℕ) (ns : List ℕ) (es : List Event) → passed None (size_lines i ns es) ≡ size_lines i ns (passed None es)
unfolding passed
sizes_passed i [] es = refl
sizes_passed i (n ∷ ns) es = ap (λ (x : List Event). events.Size i n ∷ x) (sizes_passed (suc i) ns es)

consts_passed : (j : ℕ) (xs : List ℕ) (es : List Event) → passed None (const_lines j xs es) ≡ const_lines j xs (passed None es)
unfolding passed
consts_passed j [] es = refl
consts_passed j (x ∷ xs) es = ap (λ (y : List Event). events.Const j x ∷ y) (consts_passed (suc j) xs es)

facts_passed : (fs : List Fact) (es : List Event) → passed None (fact_lines fs es) ≡ fact_lines fs (passed None es)
unfolding passed
facts_passed [] es = refl
facts_passed (f ∷ fs) es = ap (λ (x : List Event). events.Shown (shown.Fact f) ∷ x) (facts_passed fs es)

readings_passed : (rs : List Reading) (es : List Event) → passed None (reading_lines rs es) ≡ reading_lines rs (passed None es)
unfolding passed
readings_passed [] es = refl
readings_passed (r ∷ rs) es = ap (λ (x : List Event). events.Shown (shown.Reading r) ∷ x) (readings_passed rs es)

calls_passed : (cs : List Call) (es : List Event) → passed None (call_lines cs es) ≡ call_lines cs (passed None es)
unfolding passed
calls_passed [] es = refl
calls_passed (c ∷ cs) es = ap (λ (x : List Event). events.Shown (shown.Call c) ∷ x) (calls_passed cs es)

end_passed : (xs : List ℕ) (es : List Event) → passed None (events.Shown (shown.At xs) ∷ es) ≡ events.Shown (shown.At xs) ∷ passed None es
unfolding passed
end_passed xs es = refl

witness_passed : (p : PartialWitness) (xs : List ℕ) (es : List Event) → passed None (witness_lines p xs es) ≡ witness_lines p xs (passed None es)
witness_passed p xs es =
    sizes_passed 0 p.world.sizes _
    ∙ ap (size_lines 0 p.world.sizes) (consts_passed 0 p.world.consts _
    ∙ ap (const_lines 0 p.world.consts) (facts_passed p.facts _
    ∙ ap (fact_lines p.facts) (readings_passed p.readings _
    ∙ ap (reading_lines p.readings) (calls_passed p.calls _
    ∙ ap (call_lines p.calls) (end_passed xs es)))))

-- a line that begins no proved verdict is passed on as it is
pub line_passed : (e : Event) (es : List Event) → begins_proof e ≡ false → passed None (e ∷ es) ≡ e ∷ passed None es
unfolding passed
line_passed (events.Begin (word.Proved n)) es h = absurd (let t : true ≡ false = h in cc)
line_passed (events.Begin word.Refuted) es h = refl
line_passed (events.Begin word.Instances) es h = refl
line_passed (events.Begin (word.Lines n)) es h = refl
line_passed (events.Begin (word.Rows n)) es h = refl
line_passed (events.Begin (word.Range n)) es h = refl
line_passed (events.Title v) es h = refl
line_passed (events.Budget n) es h = refl
line_passed (events.Count n) es h = refl
line_passed (events.Opened i) es h = refl
line_passed (events.Log l) es h = refl
line_passed (events.Size i n) es h = refl
line_passed (events.Const j x) es h = refl
line_passed (events.Shown x) es h = refl
line_passed (events.Rows r) es h = refl
line_passed (events.Range r) es h = refl
line_passed (events.Summary t) es h = refl
line_passed (events.Last o) es h = refl

-- ---- a log that is held

log_before : (ls : List Line) (es : List Event) → log_lines ls [] ++ es ≡ log_lines ls es
log_before [] es = refl
log_before (l ∷ ls) es = ap (λ (x : List Event). events.Log l ∷ x) (log_before ls es)

pub verdict_before : (log : List Line) (es : List Event) → verdict_lines (proved log) [] ++ es ≡ verdict_lines (proved log) es
verdict_before log es = ap (λ (x : List Event). events.Begin (word.Proved (length log)) ∷ x) (log_before log es)

abbrev holding : ℕ → List Line → Held
holding n done = record { due = n; log = done }

-- what is written from here on
abbrev onward : ℕ → List Line → List Event → List Event
onward n done es = whole_lines (holding n done) ++ passed (held_on (Some (holding n done))) es

not_due : (n : ℕ) (done : List Line) → n ≡ length done + 0 → nat_lt (length done) n ≡ false
not_due n done e = grind (arith, nat_tests)

still_due : (n k : ℕ) (done : List Line) → n ≡ length done + suc k → nat_lt (length done) n ≡ true
still_due n k done e = grind (arith, nat_tests)

one_less : (n k : ℕ) (done : List Line) (l : Line) → n ≡ length done + suc k → n ≡ length (done ++ l ∷ []) + k
one_less n k done l e = let h = length-append done (l ∷ []) in omega (arith, e, h)

step : (n : ℕ) (done : List Line) (l : Line) (es : List Event) → nat_lt (length done) n ≡ true → onward n done (events.Log l ∷ es) ≡ onward n (done ++ l ∷ []) es
unfolding passed
step n done l es due = rw due refl

over : (n : ℕ) (done : List Line) (es : List Event) → nat_lt (length done) n ≡ false → onward n done es ≡ verdict_lines (proved (upgraded done)) [] ++ passed None es
over n done es due = rw due refl

log_held : (n : ℕ) (done ls : List Line) (es : List Event) → n ≡ length done + length ls → onward n done (log_lines ls es) ≡ verdict_lines (proved (upgraded (done ++ ls))) (passed None es)
log_held n done [] es e =
    over n done es (not_due n done e) ∙ verdict_before (upgraded done) (passed None es)
    ∙ ap (λ (log : List Line). verdict_lines (proved (upgraded log)) (passed None es)) (sym (append-nil done))
log_held n done (l ∷ ls) es e =
    step n done l (log_lines ls es) (still_due n (length ls) done e)
    ∙ log_held n (done ++ l ∷ []) ls es (one_less n (length ls) done l e)
    ∙ ap (λ (log : List Line). verdict_lines (proved (upgraded log)) (passed None es)) (append_assoc done (l ∷ []) ls)

-- ---- a whole report

pub verdict_passed : (v : VerdictForm) (es : List Event) → passed None (verdict_lines v es) ≡ verdict_lines (upgraded_verdict v) (passed None es)
unfolding passed
verdict_passed (proved log) es = log_held (length log) [] log es (let e : length log ≡ 0 + length log = omega arith in e)
verdict_passed (refuted p xs) es = ap (λ (x : List Event). events.Begin word.Refuted ∷ x) (witness_passed p xs es)
verdict_passed instances es = refl
verdict_passed (lines log) es = ap (λ (x : List Event). events.Begin (word.Lines (length log)) ∷ x) (log_passed log es)
verdict_passed (rows log r) es = ap (λ (x : List Event). events.Begin (word.Rows (length log)) ∷ x) (log_passed log (events.Rows r ∷ es))
verdict_passed (range log r) es = ap (λ (x : List Event). events.Begin (word.Range (length log)) ∷ x) (log_passed log (events.Range r ∷ es))

same_count : (v : VerdictForm) (t : Tally) → with_verdict (upgraded_verdict v) t ≡ with_verdict v t
same_count (proved log) t = refl
same_count (refuted p xs) t = refl
same_count instances t = refl
same_count (lines log) t = refl
same_count (rows log r) t = refl
same_count (range log r) t = refl

blocks_passed : (t : Tally) (vs : List VerdictForm) → passed None (block_lines t vs) ≡ block_lines t (map upgraded_verdict vs)
unfolding passed
blocks_passed t [] = refl
blocks_passed t (v ∷ vs) =
    ap (λ (x : List Event). events.Opened (told t) ∷ x) (verdict_passed v (block_lines (with_verdict v t) vs)
    ∙ ap (verdict_lines (upgraded_verdict v)) (blocks_passed (with_verdict v t) vs ∙ ap (λ (u : Tally). block_lines u (map upgraded_verdict vs)) (sym (same_count v t))))

-- the lines behind the first one
abbrev pub lines_behind : Specification → ReportForm → List Event
lines_behind d r = events.Budget r.budget ∷ events.Count (obligation_count d) ∷ block_lines no_verdicts r.verdicts

pub report_passed : (d : Specification) (r : ReportForm) → passed None (lines_behind d r) ≡ lines_behind d (upgraded_report r)
unfolding passed
report_passed d r = ap (λ (x : List Event). events.Budget r.budget ∷ events.Count (obligation_count d) ∷ x) (blocks_passed no_verdicts r.verdicts)
