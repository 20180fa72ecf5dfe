-- What lines say that are fed to the end is the report that is gathered from it.
use Rattle.std.proofs.Common.{◌≡◌, ℕ, zero, suc, ◌≤◌, Bool, true, false, ◌&&◌, cond, eqb, ltb, List, [], ◌∷◌, ◌++◌, length, get_or, Option, Some, None, refl, sym, ap, subst, ◌∙◌, arith, append_assoc}
use Rattle.std.proofs.lemmas.Bool.{false≢true, eqb-true, and_parts, and_from, ltb-true, lt-ltb}
use Rattle.std.proofs.lemmas.List.{append-nil, length-append}
use Rattle.std.specs.List.{list_all}
use Rattle.spec_core.specs.declared.world.World.{World}
use Rattle.spec_core.specs.declared.world.Call.{Call}
use Rattle.spec_core.specs.Specification.{Specification}
use Rattle.spec_core.specs.World.{size_of}
use Rattle.proof_lines.specs.declared.line.Line.{Line}
use Rattle.report_lines.specs.declared.head.Tally.{Tally}
use Rattle.report_lines.specs.declared.head.Outcome.{Outcome}
use Rattle.report_lines.specs.declared.head.Outcome.TheVariants as outcomes
use Rattle.report_lines.specs.declared.verdict.VerdictWord.{VerdictWord}
use Rattle.report_lines.specs.declared.verdict.VerdictWord.TheVariants as word
use Rattle.report_lines.specs.declared.witness.Fact.{Fact}
use Rattle.report_lines.specs.declared.witness.Reading.{Reading}
use Rattle.report_lines.specs.declared.witness.Shown.{Shown}
use Rattle.report_lines.specs.declared.witness.Shown.TheVariants as shown
use Rattle.report_lines.specs.Formats.{Format, fits_some}
use Rattle.report_lines.specs.Heads.{title_format, budget_format, obligations_format, summary_format, outcome_format}
use Rattle.report_lines.specs.Blocks.{obligation_format, verdict_format}
use Rattle.report_lines.specs.Logs.{log_format}
use Rattle.report_lines.specs.Evidence.{rows_format, range_format}
use Rattle.report_lines.specs.Witnesses.{size_format, const_format, fact_format, reading_format, call_format}
use Rattle.proof_report.specs.declared.event.Event.{Event}
use Rattle.proof_report.specs.declared.event.Event.TheVariants as events
use Rattle.proof_report.specs.declared.place.PartialWitness.{PartialWitness}
use Rattle.proof_report.specs.declared.place.LogOf.{LogOf}
use Rattle.proof_report.specs.declared.place.LogOf.TheVariants as log_of
use Rattle.proof_report.specs.declared.place.Place.{Place}
use Rattle.proof_report.specs.declared.place.Place.TheVariants as places
use Rattle.proof_report.specs.declared.place.Stage.TheVariants as stages
use Rattle.proof_report.specs.declared.place.State.{State}
use Rattle.proof_report.specs.Verdicts.{VerdictForm, obligation_at, obligation_count, call_count, const_at, are_sizes, are_consts, are_facts, are_readings, are_calls, are_elements, fact_behind, reading_behind, relation_due, counter_due, is_verdict, are_verdicts, is_report}
use Rattle.proof_report.specs.Events.{told, no_verdicts, with_proved, with_refuted, with_undecided, with_verdict, outcome_of, log_lines, size_lines, const_lines, fact_lines, reading_lines, call_lines, verdict_lines, block_lines, report_lines}
use Rattle.proof_report.specs.Feeding.{line_at, last_of, drops_in, due_line, says, same_tally, same_outcome, log_left, no_witness, no_world, at_consts, begun, with_size, with_const, with_fact, with_reading, with_call, after, goes, admits, start}
use Rattle.proof_report.specs.Gathering.{Gathered, with_event, gather, report_of}

abbrev pub at : ℕ → Tally → Place → State
at ver t p = record { version = ver; place = p; tally = t }

-- ---- what is left of a block, from what is gathered behind a place

abbrev log_tally : LogOf → Tally → Tally
log_tally log_of.Proved t = with_proved t
log_tally log_of.Lines t = with_undecided t
log_tally log_of.Rows t = with_undecided t
log_tally log_of.Range t = with_undecided t

abbrev log_tail : LogOf → Gathered → List Event → List Event
log_tail log_of.Proved g es = es
log_tail log_of.Lines g es = es
log_tail log_of.Rows g es = events.Rows g.rows_line ∷ es
log_tail log_of.Range g es = events.Range g.range_line ∷ es

abbrev log_evidence : LogOf → Gathered → Bool
log_evidence log_of.Proved g = true
log_evidence log_of.Lines g = true
log_evidence log_of.Rows g = rows_format.fits g.rows_line
log_evidence log_of.Range g = range_format.fits g.range_line

-- the verdicts behind those that were counted
abbrev Rest : Specification → ℕ → Tally → Gathered → Type 0
Rest d ver t g = are_verdicts d ver (told t) g.verdicts ≡ true

record LogFine (d : Specification) (ver : ℕ) (t : Tally) (k : LogOf) (n : ℕ) (es : List Event) (g : Gathered) : Type 0 where
  lines_are : es ≡ log_lines g.log (log_tail k g (block_lines (log_tally k t) g.verdicts))
  count : length g.log ≡ n
  each : list_all (log_format (drops_in ver k)).fits g.log ≡ true
  evidence : log_evidence k g ≡ true
  rest : Rest d ver (log_tally k t) g

abbrev calls_on : Tally → Gathered → List Event
calls_on t g = call_lines g.calls (events.Shown (shown.At g.elements) ∷ block_lines (with_refuted t) g.verdicts)

abbrev readings_on : Tally → Gathered → List Event
readings_on t g = reading_lines g.readings (calls_on t g)

abbrev facts_on : Tally → Gathered → List Event
facts_on t g = fact_lines g.facts (readings_on t g)

-- behind some facts, readings and calls
record ShownFine (d : Specification) (ver : ℕ) (t : Tally) (p : PartialWitness) (g : Gathered) : Type 0 where
  facts : are_facts d p.world (last_of p.facts) g.facts ≡ true
  readings : are_readings d p.world (last_of p.readings) g.readings ≡ true
  calls : are_calls d (obligation_at d (told t)) (length p.calls) g.calls ≡ true
  elements : are_elements d (obligation_at d (told t)) g.elements ≡ true
  rest : Rest d ver (with_refuted t) g
  no_log : g.log ≡ []

record WitnessFine (d : Specification) (ver : ℕ) (t : Tally) (p : PartialWitness) (es : List Event) (g : Gathered) : Type 0 where
  lines_are : es ≡ facts_on t g
  shown : ShownFine d ver t p g
  no_sizes : g.sizes ≡ []
  no_consts : g.consts ≡ []

abbrev world_on : World → Gathered → World
world_on w g = record { sizes = w.sizes; consts = w.consts ++ g.consts }

record ConstsFine (d : Specification) (ver : ℕ) (t : Tally) (w : World) (es : List Event) (g : Gathered) : Type 0 where
  lines_are : es ≡ const_lines (length w.consts) g.consts (facts_on t g)
  consts : are_consts d (world_on w g) (length w.consts) g.consts ≡ true
  shown : ShownFine d ver t (no_witness (world_on w g)) g
  no_sizes : g.sizes ≡ []

abbrev whole_world : World → Gathered → World
whole_world w g = record { sizes = w.sizes ++ g.sizes; consts = w.consts ++ g.consts }

record SizesFine (d : Specification) (ver : ℕ) (t : Tally) (w : World) (es : List Event) (g : Gathered) : Type 0 where
  lines_are : es ≡ size_lines (length w.sizes) g.sizes (const_lines (length w.consts) g.consts (facts_on t g))
  sizes : are_sizes d (length w.sizes) g.sizes ≡ true
  consts : are_consts d (whole_world w g) (length w.consts) g.consts ≡ true
  shown : ShownFine d ver t (no_witness (whole_world w g)) g

abbrev opened : Tally → List VerdictForm → List Event
opened t [] = []
opened t (v ∷ vs) = verdict_lines v (block_lines (with_verdict v t) vs)

abbrev opened_fits : Specification → ℕ → ℕ → List VerdictForm → Bool
opened_fits d ver i [] = false
opened_fits d ver i (v ∷ vs) = is_verdict d ver (obligation_at d i) v && are_verdicts d ver (suc i) vs

-- What is fed from a place on is what is gathered from it, and that can stand there.
abbrev Fine : Specification → ℕ → Tally → Place → List Event → Gathered → Type 0
Fine d ver t places.Title es g = (es ≡ events.Title g.version ∷ events.Budget g.budget ∷ events.Count (obligation_count d) ∷ block_lines t g.verdicts) × Rest d g.version t g × (budget_format.fits g.budget ≡ true) × (title_format.fits g.version ≡ true)
Fine d ver t places.Budget es g = (es ≡ events.Budget g.budget ∷ events.Count (obligation_count d) ∷ block_lines t g.verdicts) × Rest d ver t g × (budget_format.fits g.budget ≡ true)
Fine d ver t places.Count es g = (es ≡ events.Count (obligation_count d) ∷ block_lines t g.verdicts) × Rest d ver t g
Fine d ver t places.Due es g = (es ≡ block_lines t g.verdicts) × Rest d ver t g × (g.log ≡ [])
Fine d ver t places.Opened es g = (es ≡ opened t g.verdicts) × (opened_fits d ver (told t) g.verdicts ≡ true) × (g.log ≡ [])
Fine d ver t (places.Log k n) es g = LogFine d ver t k n es g
Fine d ver t places.Rows es g = (es ≡ events.Rows g.rows_line ∷ block_lines (with_undecided t) g.verdicts) × Rest d ver (with_undecided t) g × (rows_format.fits g.rows_line ≡ true) × (g.log ≡ [])
Fine d ver t places.Range es g = (es ≡ events.Range g.range_line ∷ block_lines (with_undecided t) g.verdicts) × Rest d ver (with_undecided t) g × (range_format.fits g.range_line ≡ true) × (g.log ≡ [])
Fine d ver t (places.Sizes w) es g = SizesFine d ver t w es g
Fine d ver t (places.Consts w) es g = ConstsFine d ver t w es g
Fine d ver t (places.Showing stages.Facts p) es g = WitnessFine d ver t p es g
Fine d ver t (places.Showing stages.Readings p) es g = WitnessFine d ver t p es g × (g.facts ≡ [])
Fine d ver t (places.Showing stages.Calls p) es g = WitnessFine d ver t p es g × (g.facts ≡ []) × (g.readings ≡ [])
Fine d ver t places.Last es g = (es ≡ events.Last (outcome_of t) ∷ []) × (g.verdicts ≡ []) × (g.log ≡ [])
Fine d ver t places.Over es g = (es ≡ []) × (g.verdicts ≡ []) × (g.log ≡ [])

abbrev FineAt : Specification → State → List Event → Gathered → Type 0
FineAt d s es g = Fine d s.version s.tally s.place es g

-- ---- logs

log_fine : (d : Specification) (ver : ℕ) (t : Tally) (k : LogOf) (n : ℕ) (es : List Event) (g : Gathered) → FineAt d (log_left k n ver t) es g → LogFine d ver t k n es g
log_fine d ver t log_of.Proved zero es g h = record { lines_are = rw h.2 h.0; count = ap length h.2; each = rw h.2 refl; evidence = refl; rest = h.1 }
log_fine d ver t log_of.Lines zero es g h = record { lines_are = rw h.2 h.0; count = ap length h.2; each = rw h.2 refl; evidence = refl; rest = h.1 }
log_fine d ver t log_of.Rows zero es g h = record { lines_are = rw h.3 h.0; count = ap length h.3; each = rw h.3 refl; evidence = h.2; rest = h.1 }
log_fine d ver t log_of.Range zero es g h = record { lines_are = rw h.3 h.0; count = ap length h.3; each = rw h.3 refl; evidence = h.2; rest = h.1 }
log_fine d ver t k (suc n) es g h = h

log_step : (d : Specification) (ver : ℕ) (t : Tally) (k : LogOf) (n : ℕ) (l : Line) (es : List Event) (g : Gathered) → (log_format (drops_in ver k)).fits l ≡ true → LogFine d ver t k n es g → LogFine d ver t k (suc n) (events.Log l ∷ es) (with_event (events.Log l) g)
log_step d ver t log_of.Proved n l es g fit h = record { lines_are = ap (λ (x : List Event). events.Log l ∷ x) h.lines_are; count = ap suc h.count; each = and_from _ _ fit h.each; evidence = h.evidence; rest = h.rest }
log_step d ver t log_of.Lines n l es g fit h = record { lines_are = ap (λ (x : List Event). events.Log l ∷ x) h.lines_are; count = ap suc h.count; each = and_from _ _ fit h.each; evidence = h.evidence; rest = h.rest }
log_step d ver t log_of.Rows n l es g fit h = record { lines_are = ap (λ (x : List Event). events.Log l ∷ x) h.lines_are; count = ap suc h.count; each = and_from _ _ fit h.each; evidence = h.evidence; rest = h.rest }
log_step d ver t log_of.Range n l es g fit h = record { lines_are = ap (λ (x : List Event). events.Log l ∷ x) h.lines_are; count = ap suc h.count; each = and_from _ _ fit h.each; evidence = h.evidence; rest = h.rest }

-- ---- what a witness shows

pub last_of-end : {A : Type 0} (xs : List A) (x : A) → last_of (xs ++ x ∷ []) ≡ Some x
last_of-end [] x = refl
last_of-end (y ∷ []) x = refl
last_of-end (y ∷ z ∷ xs) x = last_of-end (z ∷ xs) x

pub one_more : {A : Type 0} (xs : List A) (x : A) → length (xs ++ x ∷ []) ≡ suc (length xs)
one_more xs x = omega (arith, length-append xs (x ∷ []))

fact_shown : (d : Specification) (ver : ℕ) (t : Tally) (p : PartialWitness) (f : Fact) (g : Gathered) → (fact_format d p.world (relation_due (last_of p.facts))).fits f ≡ true → fact_behind (last_of p.facts) f ≡ true
    → ShownFine d ver t (with_fact f p) g → ShownFine d ver t p (with_event (events.Shown (shown.Fact f)) g)
fact_shown d ver t p f g fit behind h =
    let more : are_facts d p.world (Some f) g.facts ≡ true = subst (λ (o : Option Fact). are_facts d p.world o g.facts ≡ true) (last_of-end p.facts f) h.facts in
    record { facts = and_from _ _ (and_from _ _ fit behind) more; readings = h.readings; calls = h.calls; elements = h.elements; rest = h.rest; no_log = h.no_log }

reading_shown : (d : Specification) (ver : ℕ) (t : Tally) (p : PartialWitness) (r : Reading) (g : Gathered) → (reading_format d p.world (counter_due (last_of p.readings))).fits r ≡ true → reading_behind (last_of p.readings) r ≡ true
    → ShownFine d ver t (with_reading r p) g → ShownFine d ver t p (with_event (events.Shown (shown.Reading r)) g)
reading_shown d ver t p r g fit behind h =
    let more : are_readings d p.world (Some r) g.readings ≡ true = subst (λ (o : Option Reading). are_readings d p.world o g.readings ≡ true) (last_of-end p.readings r) h.readings in
    record { facts = h.facts; readings = and_from _ _ (and_from _ _ fit behind) more; calls = h.calls; elements = h.elements; rest = h.rest; no_log = h.no_log }

call_shown : (d : Specification) (ver : ℕ) (t : Tally) (p : PartialWitness) (c : Call) (g : Gathered) → (call_format d).fits c ≡ true → ltb (length p.calls) (call_count (obligation_at d (told t))) ≡ true
    → ShownFine d ver t (with_call c p) g → ShownFine d ver t p (with_event (events.Shown (shown.Call c)) g)
call_shown d ver t p c g fit more h =
    let others : are_calls d (obligation_at d (told t)) (suc (length p.calls)) g.calls ≡ true = subst (λ (n : ℕ). are_calls d (obligation_at d (told t)) n g.calls ≡ true) (one_more p.calls c) h.calls in
    record { facts = h.facts; readings = h.readings; calls = and_from _ _ (and_from _ _ fit more) others; elements = h.elements; rest = h.rest; no_log = h.no_log }

fact_step : (d : Specification) (ver : ℕ) (t : Tally) (p : PartialWitness) (f : Fact) (es : List Event) (g : Gathered) → (fact_format d p.world (relation_due (last_of p.facts))).fits f ≡ true → fact_behind (last_of p.facts) f ≡ true
    → WitnessFine d ver t (with_fact f p) es g → WitnessFine d ver t p (events.Shown (shown.Fact f) ∷ es) (with_event (events.Shown (shown.Fact f)) g)
fact_step d ver t p f es g fit behind h = record {
  lines_are = ap (λ (x : List Event). events.Shown (shown.Fact f) ∷ x) h.lines_are;
  shown = fact_shown d ver t p f g fit behind h.shown;
  no_sizes = h.no_sizes;
  no_consts = h.no_consts;
}

abbrev ReadingsFine : Specification → ℕ → Tally → PartialWitness → List Event → Gathered → Type 0
ReadingsFine d ver t p es g = WitnessFine d ver t p es g × (g.facts ≡ [])

reading_step : (d : Specification) (ver : ℕ) (t : Tally) (p : PartialWitness) (r : Reading) (es : List Event) (g : Gathered) → (reading_format d p.world (counter_due (last_of p.readings))).fits r ≡ true → reading_behind (last_of p.readings) r ≡ true
    → ReadingsFine d ver t (with_reading r p) es g → ReadingsFine d ver t p (events.Shown (shown.Reading r) ∷ es) (with_event (events.Shown (shown.Reading r)) g)
reading_step d ver t p r es g fit behind h =
    let w = h.0 in
    let es_are : es ≡ readings_on t g = subst (λ (fs : List Fact). es ≡ fact_lines fs (readings_on t g)) h.1 w.lines_are in (
      record {
        lines_are = subst (λ (fs : List Fact). events.Shown (shown.Reading r) ∷ es ≡ fact_lines fs (events.Shown (shown.Reading r) ∷ readings_on t g)) (sym h.1) (ap (λ (x : List Event). events.Shown (shown.Reading r) ∷ x) es_are);
        shown = reading_shown d ver t p r g fit behind w.shown;
        no_sizes = w.no_sizes;
        no_consts = w.no_consts;
      },
      h.1,
    )

abbrev CallsFine : Specification → ℕ → Tally → PartialWitness → List Event → Gathered → Type 0
CallsFine d ver t p es g = WitnessFine d ver t p es g × (g.facts ≡ []) × (g.readings ≡ [])

call_step : (d : Specification) (ver : ℕ) (t : Tally) (p : PartialWitness) (c : Call) (es : List Event) (g : Gathered) → (call_format d).fits c ≡ true → ltb (length p.calls) (call_count (obligation_at d (told t))) ≡ true
    → CallsFine d ver t (with_call c p) es g → CallsFine d ver t p (events.Shown (shown.Call c) ∷ es) (with_event (events.Shown (shown.Call c)) g)
call_step d ver t p c es g fit more h =
    let w = h.0 in
    let es_are : es ≡ calls_on t g = subst (λ (rs : List Reading). es ≡ reading_lines rs (calls_on t g)) h.2 (subst (λ (fs : List Fact). es ≡ fact_lines fs (readings_on t g)) h.1 w.lines_are) in
    let own : events.Shown (shown.Call c) ∷ es ≡ events.Shown (shown.Call c) ∷ calls_on t g = ap (λ (x : List Event). events.Shown (shown.Call c) ∷ x) es_are in (
      record {
        lines_are = subst (λ (fs : List Fact). events.Shown (shown.Call c) ∷ es ≡ fact_lines fs (reading_lines g.readings (events.Shown (shown.Call c) ∷ calls_on t g))) (sym h.1)
            (subst (λ (rs : List Reading). events.Shown (shown.Call c) ∷ es ≡ reading_lines rs (events.Shown (shown.Call c) ∷ calls_on t g)) (sym h.2) own);
        shown = call_shown d ver t p c g fit more w.shown;
        no_sizes = w.no_sizes;
        no_consts = w.no_consts;
      },
      h.1,
      h.2,
    )

end_step : (d : Specification) (ver : ℕ) (t : Tally) (p : PartialWitness) (xs : List ℕ) (es : List Event) (g : Gathered) → are_elements d (obligation_at d (told t)) xs ≡ true → eqb (length p.calls) (call_count (obligation_at d (told t))) ≡ true
    → Fine d ver (with_refuted t) places.Due es g → CallsFine d ver t p (events.Shown (shown.At xs) ∷ es) (with_event (events.Shown (shown.At xs)) g)
end_step d ver t p xs es g fit all h = (
  record {
    lines_are = ap (λ (x : List Event). events.Shown (shown.At xs) ∷ x) h.0;
    shown = record { facts = refl; readings = refl; calls = all; elements = fit; rest = h.1; no_log = h.2 };
    no_sizes = refl;
    no_consts = refl;
  },
  refl,
  refl,
)

-- ---- worlds

consts_fine : (d : Specification) (ver : ℕ) (t : Tally) (w : World) (b : Bool) (es : List Event) (g : Gathered) → eqb (length w.consts) (length d.consts) ≡ b
    → Fine d ver t (cond b (places.Showing stages.Facts (no_witness w)) (places.Consts w)) es g → ConstsFine d ver t w es g
consts_fine d ver t w false es g n h = h
consts_fine d ver t w true es g n h =
    let same : w.consts ≡ w.consts ++ g.consts = sym (ap (λ (xs : List ℕ). w.consts ++ xs) h.no_consts ∙ append-nil w.consts) in
    record {
      lines_are = subst (λ (xs : List ℕ). es ≡ const_lines (length w.consts) xs (facts_on t g)) (sym h.no_consts) h.lines_are;
      consts = subst (λ (xs : List ℕ). are_consts d (record { sizes = w.sizes; consts = w.consts ++ xs }) (length w.consts) xs ≡ true) (sym h.no_consts) n;
      shown = subst (λ (xs : List ℕ). ShownFine d ver t (no_witness (record { sizes = w.sizes; consts = xs })) g) same h.shown;
      no_sizes = h.no_sizes;
    }

sizes_fine : (d : Specification) (ver : ℕ) (t : Tally) (w : World) (b : Bool) (es : List Event) (g : Gathered) → eqb (length w.sizes) (length d.sorts) ≡ b
    → Fine d ver t (cond b (at_consts d w) (places.Sizes w)) es g → SizesFine d ver t w es g
sizes_fine d ver t w false es g n h = h
sizes_fine d ver t w true es g n h =
    let k = consts_fine d ver t w (eqb (length w.consts) (length d.consts)) es g refl h in
    let same : w.sizes ≡ w.sizes ++ g.sizes = sym (ap (λ (xs : List ℕ). w.sizes ++ xs) k.no_sizes ∙ append-nil w.sizes) in
    record {
      lines_are = subst (λ (xs : List ℕ). es ≡ size_lines (length w.sizes) xs (const_lines (length w.consts) g.consts (facts_on t g))) (sym k.no_sizes) k.lines_are;
      sizes = subst (λ (xs : List ℕ). are_sizes d (length w.sizes) xs ≡ true) (sym k.no_sizes) n;
      consts = subst (λ (xs : List ℕ). are_consts d (record { sizes = xs; consts = w.consts ++ g.consts }) (length w.consts) g.consts ≡ true) same k.consts;
      shown = subst (λ (xs : List ℕ). ShownFine d ver t (no_witness (record { sizes = xs; consts = w.consts ++ g.consts })) g) same k.shown;
    }

-- ---- the first lines of a block

pub one_told : (t : Tally) → (told (with_proved t) ≡ suc (told t)) × (told (with_refuted t) ≡ suc (told t)) × (told (with_undecided t) ≡ suc (told t))
one_told t = (omega arith, omega arith, omega arith)

next : (d : Specification) (ver n m : ℕ) (vs : List VerdictForm) → n ≡ m → are_verdicts d ver n vs ≡ true → are_verdicts d ver m vs ≡ true
next d ver n m vs e h = subst (λ (i : ℕ). are_verdicts d ver i vs ≡ true) e h

begin_step : (d : Specification) (ver : ℕ) (t : Tally) (b : VerdictWord) (es : List Event) (g : Gathered) → FineAt d (begun d b ver t) es g → verdict_format.fits b ≡ true → Fine d ver t places.Opened (events.Begin b ∷ es) (with_event (events.Begin b) g)
begin_step d ver t (word.Proved n) es g h fit =
    let k = log_fine d ver t log_of.Proved n es g h in (
      subst (λ (m : ℕ). events.Begin (word.Proved n) ∷ es ≡ events.Begin (word.Proved m) ∷ log_lines g.log (block_lines (with_proved t) g.verdicts)) (sym k.count) (ap (λ (x : List Event). events.Begin (word.Proved n) ∷ x) k.lines_are),
      and_from _ _ (and_from _ _ (let c = k.count in rw c fit) k.each) (next d ver _ _ g.verdicts (one_told t).0 k.rest),
      refl,
    )
begin_step d ver t word.Refuted es g h fit =
    let k = sizes_fine d ver t no_world (eqb 0 (length d.sorts)) es g refl h in
    let s = k.shown in (
      ap (λ (x : List Event). events.Begin word.Refuted ∷ x) k.lines_are,
      and_from _ _ (and_from _ _ k.sizes (and_from _ _ k.consts (and_from _ _ s.facts (and_from _ _ s.readings (and_from _ _ s.calls s.elements))))) (next d ver _ _ g.verdicts (one_told t).1 s.rest),
      refl,
    )
begin_step d ver t word.Instances es g h fit =
    (ap (λ (x : List Event). events.Begin word.Instances ∷ x) h.0, and_from _ _ refl (next d ver _ _ g.verdicts (one_told t).2 h.1), refl)
begin_step d ver t (word.Lines n) es g h fit =
    let k = log_fine d ver t log_of.Lines n es g h in (
      subst (λ (m : ℕ). events.Begin (word.Lines n) ∷ es ≡ events.Begin (word.Lines m) ∷ log_lines g.log (block_lines (with_undecided t) g.verdicts)) (sym k.count) (ap (λ (x : List Event). events.Begin (word.Lines n) ∷ x) k.lines_are),
      and_from _ _ (and_from _ _ (let c = k.count in rw c fit) k.each) (next d ver _ _ g.verdicts (one_told t).2 k.rest),
      refl,
    )
begin_step d ver t (word.Rows n) es g h fit =
    let k = log_fine d ver t log_of.Rows n es g h in (
      subst (λ (m : ℕ). events.Begin (word.Rows n) ∷ es ≡ events.Begin (word.Rows m) ∷ log_lines g.log (events.Rows g.rows_line ∷ block_lines (with_undecided t) g.verdicts)) (sym k.count) (ap (λ (x : List Event). events.Begin (word.Rows n) ∷ x) k.lines_are),
      and_from _ _ (and_from _ _ (and_from _ _ (let c = k.count in rw c fit) k.each) k.evidence) (next d ver _ _ g.verdicts (one_told t).2 k.rest),
      refl,
    )
begin_step d ver t (word.Range n) es g h fit =
    let k = log_fine d ver t log_of.Range n es g h in (
      subst (λ (m : ℕ). events.Begin (word.Range n) ∷ es ≡ events.Begin (word.Range m) ∷ log_lines g.log (events.Range g.range_line ∷ block_lines (with_undecided t) g.verdicts)) (sym k.count) (ap (λ (x : List Event). events.Begin (word.Range n) ∷ x) k.lines_are),
      and_from _ _ (and_from _ _ (and_from _ _ (let c = k.count in rw c fit) k.each) k.evidence) (next d ver _ _ g.verdicts (one_told t).2 k.rest),
      refl,
    )

pub within : (d : Specification) (ver i : ℕ) (vs : List VerdictForm) → are_verdicts d ver i vs ≡ true → i ≤ obligation_count d
within d ver i [] h = let e = eqb-true i (obligation_count d) h in omega arith
within d ver i (v ∷ vs) h = let e = ltb-true i (obligation_count d) (and_parts _ _ h).0 in omega arith

opened_is : (d : Specification) (ver : ℕ) (t : Tally) (vs : List VerdictForm) → opened_fits d ver (told t) vs ≡ true
    → (events.Opened (told t) ∷ opened t vs ≡ block_lines t vs) × (are_verdicts d ver (told t) vs ≡ true)
opened_is d ver t [] h = absurd (false≢true h)
opened_is d ver t (v ∷ vs) h =
    let p = and_parts (is_verdict d ver (obligation_at d (told t)) v) (are_verdicts d ver (suc (told t)) vs) h in
    let le = within d ver (suc (told t)) vs p.1 in
    (refl, and_from _ _ (lt-ltb (told t) (obligation_count d) (omega arith)) h)

-- the number in the line is that of the place
opened_fits_at : (f : Format (Unit {0})) (b : Bool) → (fits_some f (cond b (Some tt) None) && true) ≡ true → b ≡ true
opened_fits_at f true e = refl
opened_fits_at f false e = e

number_fits_at : (f : Format ℕ) (b c : Bool) (n : ℕ) → (fits_some f (cond b (Some n) None) && c) ≡ true → (b ≡ true) × (f.fits n ≡ true) × (c ≡ true)
number_fits_at f true c n e = let p = and_parts (f.fits n) c e in (refl, p.0, p.1)
number_fits_at f false c n e = absurd (false≢true e)

is_same_outcome : (o p : Outcome) → same_outcome o p ≡ true → o ≡ p
is_same_outcome outcomes.Accepted outcomes.Accepted e = refl
is_same_outcome outcomes.Rejected outcomes.Rejected e = refl
is_same_outcome outcomes.Undecided outcomes.Undecided e = refl
is_same_outcome outcomes.Accepted outcomes.Rejected e = absurd (false≢true e)
is_same_outcome outcomes.Accepted outcomes.Undecided e = absurd (false≢true e)
is_same_outcome outcomes.Rejected outcomes.Accepted e = absurd (false≢true e)
is_same_outcome outcomes.Rejected outcomes.Undecided e = absurd (false≢true e)
is_same_outcome outcomes.Undecided outcomes.Accepted e = absurd (false≢true e)
is_same_outcome outcomes.Undecided outcomes.Rejected e = absurd (false≢true e)

is_same_tally : (t u : Tally) → same_tally t u ≡ true → t ≡ u
is_same_tally t u e =
    let p = and_parts (eqb t.proved u.proved) (eqb t.refuted u.refuted && eqb t.undecided u.undecided) e in
    let q = and_parts (eqb t.refuted u.refuted) (eqb t.undecided u.undecided) p.1 in
    let a = eqb-true t.proved u.proved p.0 in
    let b = eqb-true t.refuted u.refuted q.0 in
    let c = eqb-true t.undecided u.undecided q.1 in
    λ i. record { proved = a i; refuted = b i; undecided = c i }

due_step : (d : Specification) (ver : ℕ) (t : Tally) (b : Bool) (e : Event) (es : List Event) → eqb (told t) (obligation_count d) ≡ b
    → ((due_line d b (told t)).fits e && says d (at ver t places.Due) e) ≡ true → FineAt d (after d (at ver t places.Due) e) es (gather es) → Fine d ver t places.Due (e ∷ es) (with_event e (gather es))
due_step d ver t true (events.Summary u) es n ok h =
    let p = and_parts (summary_format.fits u) (same_tally u t) ok in
    let same = is_same_tally u t p.1 in
    let end = h.1 in
    (rw end (rw h.0 (ap (λ (x : Tally). events.Summary x ∷ events.Last (outcome_of t) ∷ []) same)), rw end n, h.2)
due_step d ver t true _ es n ok h = absurd (false≢true ok)
due_step d ver t false (events.Opened i) es n ok h =
    let i_is : i ≡ told t = eqb-true i (told t) (opened_fits_at (obligation_format d (obligation_at d (told t))) (eqb i (told t)) ok) in
    let k = opened_is d ver t (gather es).verdicts h.1 in
    (ap (λ (j : ℕ). events.Opened j ∷ es) i_is ∙ ap (λ (x : List Event). events.Opened (told t) ∷ x) h.0 ∙ k.0, k.1, h.2)
due_step d ver t false _ es n ok h = absurd (false≢true ok)

-- ---- one line

shown_step : (d : Specification) (ver : ℕ) (t : Tally) (p : Place) (x : Shown) (es : List Event) → goes d (at ver t p) (events.Shown x) ≡ true → FineAt d (after d (at ver t p) (events.Shown x)) es (gather es) → Fine d ver t p (events.Shown x ∷ es) (with_event (events.Shown x) (gather es))
shown_step d ver t (places.Showing stages.Facts p) (shown.Fact f) es ok h = let c = and_parts _ _ ok in fact_step d ver t p f es (gather es) c.0 c.1 h
shown_step d ver t (places.Showing stages.Facts p) (shown.Reading r) es ok h = let c = and_parts _ _ ok in (reading_step d ver t p r es (gather es) c.0 c.1 h).0
shown_step d ver t (places.Showing stages.Facts p) (shown.Call a) es ok h = let c = and_parts _ _ ok in (call_step d ver t p a es (gather es) c.0 c.1 h).0
shown_step d ver t (places.Showing stages.Facts p) (shown.At xs) es ok h = let c = and_parts _ _ ok in (end_step d ver t p xs es (gather es) c.0 c.1 h).0
shown_step d ver t (places.Showing stages.Readings p) (shown.Fact f) es ok h = absurd (false≢true (and_parts _ _ ok).1)
shown_step d ver t (places.Showing stages.Readings p) (shown.Reading r) es ok h = let c = and_parts _ _ ok in reading_step d ver t p r es (gather es) c.0 c.1 h
shown_step d ver t (places.Showing stages.Readings p) (shown.Call a) es ok h = let c = and_parts _ _ ok in let k = call_step d ver t p a es (gather es) c.0 c.1 h in (k.0, k.1)
shown_step d ver t (places.Showing stages.Readings p) (shown.At xs) es ok h = let c = and_parts _ _ ok in let k = end_step d ver t p xs es (gather es) c.0 c.1 h in (k.0, k.1)
shown_step d ver t (places.Showing stages.Calls p) (shown.Fact f) es ok h = absurd (false≢true (and_parts _ _ ok).1)
shown_step d ver t (places.Showing stages.Calls p) (shown.Reading r) es ok h = absurd (false≢true (and_parts _ _ ok).1)
shown_step d ver t (places.Showing stages.Calls p) (shown.Call a) es ok h = let c = and_parts _ _ ok in call_step d ver t p a es (gather es) c.0 c.1 h
shown_step d ver t (places.Showing stages.Calls p) (shown.At xs) es ok h = let c = and_parts _ _ ok in end_step d ver t p xs es (gather es) c.0 c.1 h
shown_step d ver t p x es ok h = absurd (false≢true (and_parts ((line_at d (at ver t p)).fits (events.Shown x)) false ok).1)

same_shown : (d : Specification) (ver : ℕ) (t : Tally) (p : PartialWitness) (g h : Gathered) → g.facts ≡ h.facts → g.readings ≡ h.readings → g.calls ≡ h.calls → g.elements ≡ h.elements → g.verdicts ≡ h.verdicts → g.log ≡ h.log
    → ShownFine d ver t p g → ShownFine d ver t p h
same_shown d ver t p g h a b c e v l s = record {
  facts = subst (λ (x : List Fact). are_facts d p.world (last_of p.facts) x ≡ true) a s.facts;
  readings = subst (λ (x : List Reading). are_readings d p.world (last_of p.readings) x ≡ true) b s.readings;
  calls = subst (λ (x : List Call). are_calls d (obligation_at d (told t)) (length p.calls) x ≡ true) c s.calls;
  elements = subst (λ (x : List ℕ). are_elements d (obligation_at d (told t)) x ≡ true) e s.elements;
  rest = subst (λ (x : List VerdictForm). are_verdicts d ver (told (with_refuted t)) x ≡ true) v s.rest;
  no_log = subst (λ (x : List Line). x ≡ []) l s.no_log;
}

size_step : (d : Specification) (ver : ℕ) (t : Tally) (w : World) (i n : ℕ) (es : List Event) → goes d (at ver t (places.Sizes w)) (events.Size i n) ≡ true → FineAt d (after d (at ver t (places.Sizes w)) (events.Size i n)) es (gather es)
    → Fine d ver t (places.Sizes w) (events.Size i n ∷ es) (with_event (events.Size i n) (gather es))
size_step d ver t w i n es ok h =
    let g = gather es in
    let c = number_fits_at (size_format (get_or d.sorts (length w.sizes) [])) (eqb i (length w.sizes)) (ltb i (length d.sorts)) n ok in
    let i_is : i ≡ length w.sizes = eqb-true i (length w.sizes) c.0 in
    let k = sizes_fine d ver t (with_size n w) (eqb (length (w.sizes ++ n ∷ [])) (length d.sorts)) es g refl h in
    let many : length (w.sizes ++ n ∷ []) ≡ suc (length w.sizes) = one_more w.sizes n in
    let all : (w.sizes ++ n ∷ []) ++ g.sizes ≡ w.sizes ++ (n ∷ g.sizes) = append_assoc w.sizes (n ∷ []) g.sizes in
    let rest = const_lines (length w.consts) g.consts (facts_on t g) in
    record {
      lines_are = (λ j. events.Size (i_is j) n ∷ es) ∙ ap (λ (x : List Event). events.Size (length w.sizes) n ∷ x) (k.lines_are ∙ ap (λ (m : ℕ). size_lines m g.sizes rest) many);
      sizes = and_from _ _ (subst (λ (m : ℕ). ltb m (length d.sorts) ≡ true) i_is c.2) (and_from _ _ c.1 (subst (λ (m : ℕ). are_sizes d m g.sizes ≡ true) many k.sizes));
      consts = subst (λ (xs : List ℕ). are_consts d (record { sizes = xs; consts = w.consts ++ g.consts }) (length w.consts) g.consts ≡ true) all k.consts;
      shown = same_shown d ver t _ g (with_event (events.Size i n) g) refl refl refl refl refl refl (subst (λ (xs : List ℕ). ShownFine d ver t (no_witness (record { sizes = xs; consts = w.consts ++ g.consts })) g) all k.shown);
    }

const_step : (d : Specification) (ver : ℕ) (t : Tally) (w : World) (i n : ℕ) (es : List Event) → goes d (at ver t (places.Consts w)) (events.Const i n) ≡ true → FineAt d (after d (at ver t (places.Consts w)) (events.Const i n)) es (gather es)
    → Fine d ver t (places.Consts w) (events.Const i n ∷ es) (with_event (events.Const i n) (gather es))
const_step d ver t w i n es ok h =
    let g = gather es in
    let c = number_fits_at (const_format (const_at d (length w.consts)).name (size_of w (const_at d (length w.consts)).sort)) (eqb i (length w.consts)) (ltb i (length d.consts)) n ok in
    let i_is : i ≡ length w.consts = eqb-true i (length w.consts) c.0 in
    let k = consts_fine d ver t (with_const n w) (eqb (length (w.consts ++ n ∷ [])) (length d.consts)) es g refl h in
    let many : length (w.consts ++ n ∷ []) ≡ suc (length w.consts) = one_more w.consts n in
    let all : (w.consts ++ n ∷ []) ++ g.consts ≡ w.consts ++ (n ∷ g.consts) = append_assoc w.consts (n ∷ []) g.consts in
    record {
      lines_are = (λ j. events.Const (i_is j) n ∷ es) ∙ ap (λ (x : List Event). events.Const (length w.consts) n ∷ x) (k.lines_are ∙ ap (λ (m : ℕ). const_lines m g.consts (facts_on t g)) many);
      consts = and_from _ _ (subst (λ (m : ℕ). ltb m (length d.consts) ≡ true) i_is c.2) (and_from _ _ c.1 (subst (λ (m : ℕ). are_consts d (record { sizes = w.sizes; consts = w.consts ++ (n ∷ g.consts) }) m g.consts ≡ true) many
          (subst (λ (xs : List ℕ). are_consts d (record { sizes = w.sizes; consts = xs }) (length (w.consts ++ n ∷ [])) g.consts ≡ true) all k.consts)));
      shown = same_shown d ver t _ g (with_event (events.Const i n) g) refl refl refl refl refl refl (subst (λ (xs : List ℕ). ShownFine d ver t (no_witness (record { sizes = w.sizes; consts = xs })) g) all k.shown);
      no_sizes = k.no_sizes;
    }

step : (d : Specification) (ver : ℕ) (t : Tally) (p : Place) (e : Event) (es : List Event) → goes d (at ver t p) e ≡ true → FineAt d (after d (at ver t p) e) es (gather es) → Fine d ver t p (e ∷ es) (with_event e (gather es))
step d ver t p (events.Shown x) es ok h = shown_step d ver t p x es ok h
step d ver t places.Title (events.Title v) es ok h =
    let c = and_parts (title_format.fits v) true ok in
    (ap (λ (x : List Event). events.Title v ∷ x) h.0, h.1, h.2, c.0)
step d ver t places.Title _ es ok h = absurd (false≢true ok)
step d ver t places.Budget (events.Budget n) es ok h =
    let c = and_parts (budget_format.fits n) true ok in
    (ap (λ (x : List Event). events.Budget n ∷ x) h.0, h.1, c.0)
step d ver t places.Budget _ es ok h = absurd (false≢true ok)
step d ver t places.Count (events.Count n) es ok h =
    let c = and_parts (obligations_format.fits n) (eqb n (obligation_count d)) ok in
    let m = eqb-true n (obligation_count d) c.1 in
    (λ i. events.Count (m i) ∷ h.0 i, h.1)
step d ver t places.Count _ es ok h = absurd (false≢true ok)
step d ver t places.Due e es ok h = due_step d ver t (eqb (told t) (obligation_count d)) e es refl ok h
step d ver t places.Opened (events.Begin b) es ok h =
    let c = and_parts (verdict_format.fits b) true ok in
    begin_step d ver t b es (gather es) h c.0
step d ver t places.Opened _ es ok h = absurd (false≢true ok)
step d ver t (places.Log k zero) e es ok h = absurd (false≢true ok)
step d ver t (places.Log k (suc n)) (events.Log l) es ok h =
    let c = and_parts ((log_format (drops_in ver k)).fits l) true ok in
    log_step d ver t k n l es (gather es) c.0 (log_fine d ver t k n es (gather es) h)
step d ver t (places.Log k (suc n)) _ es ok h = absurd (false≢true ok)
step d ver t places.Rows (events.Rows r) es ok h =
    let c = and_parts (rows_format.fits r) true ok in
    (ap (λ (x : List Event). events.Rows r ∷ x) h.0, h.1, c.0, refl)
step d ver t places.Rows _ es ok h = absurd (false≢true ok)
step d ver t places.Range (events.Range r) es ok h =
    let c = and_parts (range_format.fits r) true ok in
    (ap (λ (x : List Event). events.Range r ∷ x) h.0, h.1, c.0, refl)
step d ver t places.Range _ es ok h = absurd (false≢true ok)
step d ver t (places.Sizes w) (events.Size i n) es ok h = size_step d ver t w i n es ok h
step d ver t (places.Sizes w) _ es ok h = absurd (false≢true ok)
step d ver t (places.Consts w) (events.Const j x) es ok h = const_step d ver t w j x es ok h
step d ver t (places.Consts w) _ es ok h = absurd (false≢true ok)
step d ver t (places.Showing stages.Facts p) _ es ok h = absurd (false≢true ok)
step d ver t (places.Showing stages.Readings p) _ es ok h = absurd (false≢true ok)
step d ver t (places.Showing stages.Calls p) _ es ok h = absurd (false≢true ok)
step d ver t places.Last (events.Last o) es ok h =
    let c = and_parts (outcome_format.fits o) (same_outcome o (outcome_of t)) ok in
    let m = is_same_outcome o (outcome_of t) c.1 in
    (λ i. events.Last (m i) ∷ h.0 i, h.1, h.2)
step d ver t places.Last _ es ok h = absurd (false≢true ok)
step d ver t places.Over _ es ok h = absurd (false≢true ok)

sound : (d : Specification) (es : List Event) (ver : ℕ) (t : Tally) (p : Place) → admits d (at ver t p) es ≡ true → Fine d ver t p es (gather es)
unfolding admits
sound d [] ver t places.Over e = (refl, refl, refl)
sound d [] ver t _ e = absurd (false≢true e)
sound d (x ∷ es) ver t p e =
    let c = and_parts (goes d (at ver t p) x) (admits d (after d (at ver t p) x) es) e in
    let s = after d (at ver t p) x in
    step d ver t p x es c.0 (sound d es s.version s.tally s.place c.1)

-- what lines say that are fed to the end is a report
pub admitted_is_report : (d : Specification) (es : List Event) → admits d start es ≡ true → (es ≡ report_lines d (report_of es)) × (is_report d (report_of es) ≡ true)
admitted_is_report d es e =
    let h = sound d es 1 no_verdicts places.Title e in
    (h.0, and_from _ _ h.3 (and_from _ _ h.2 h.1))
