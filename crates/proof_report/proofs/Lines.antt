-- The line that may come at a place is read exactly where it is the line of something that can be said there.
use Rattle.std.proofs.Common.{◌≡◌, ℕ, zero, suc, ℤ, pos, negsuc, Bool, true, false, cond, eqb, List, [], ◌∷◌, ◌++◌, map, length, get_or, Some, None, refl, sym, ap, ◌∙◌, decimal}
use Rattle.std.specs.Prelude.{codes}
use Rattle.std.specs.Fmt.{signed_decimal}
use Rattle.std.specs.List.{flat_map}
use Rattle.std.proofs.lemmas.Bool.{false≢true, eqb-true, eq-eqb, and_parts}
use Rattle.std.proofs.lemmas.Option.{none-some, same_Some}
use Rattle.spec_core.specs.declared.operation.Kind.{Kind}
use Rattle.spec_core.specs.declared.operation.Kind.TheVariants.{Sort, Int}
use Rattle.spec_core.specs.declared.operation.Param.{Param as Parameter}
use Rattle.spec_core.specs.declared.world.World.{World}
use Rattle.spec_core.specs.Specification.{Specification, relation_places, counter_keys, op_of}
use Rattle.spec_core.specs.World.{size_of}
use Rattle.spec_core.specs.Typed.{is_specification}
use Rattle.proof_lines.specs.declared.line.Line.{Line}
use Rattle.report_lines.specs.declared.evidence.RowsLine.{RowsLine}
use Rattle.report_lines.specs.declared.evidence.RangeLine.{RangeLine}
use Rattle.report_lines.specs.declared.head.Tally.{Tally}
use Rattle.report_lines.specs.declared.head.Outcome.{Outcome}
use Rattle.report_lines.specs.declared.verdict.VerdictWord.{VerdictWord}
use Rattle.report_lines.specs.declared.witness.Shown.{Shown}
use Rattle.report_lines.specs.declared.witness.Shown.TheVariants as shown
use Rattle.report_lines.specs.declared.witness.Due.{Due}
use Rattle.report_lines.specs.Formats.{Format, none, put_some, fits_some, list_put, list_fits, among, read}
use Rattle.report_lines.specs.Fields.{count_format, element_format}
use Rattle.report_lines.specs.Blocks.{obligation_words, obligation_format}
use Rattle.report_lines.specs.Witnesses.{size_format, const_format, shown_format, tuple_words, argument_format, arguments_words, relation_names, counter_names, operation_names}
use Rattle.report_lines.specs.Formats.{IsExact}
use Rattle.report_lines.proofs.Exact.{case_exact, none_exact, read_ok, read_again}
use Rattle.report_lines.proofs.HeadLines.{title_exact, budget_exact, obligations_exact, summary_exact, outcome_exact}
use Rattle.report_lines.proofs.BlockLines.{obligation_exact, verdict_exact}
use Rattle.report_lines.proofs.LogLines.{log_exact}
use Rattle.report_lines.proofs.EvidenceLines.{rows_exact, range_exact}
use Rattle.report_lines.proofs.WitnessLines.{size_exact, const_exact, shown_exact}
use Rattle.proof_report.specs.declared.event.Event.{Event}
use Rattle.proof_report.specs.declared.event.Event.TheVariants as events
use Rattle.proof_report.specs.declared.place.Place.{Place}
use Rattle.proof_report.specs.declared.place.Place.TheVariants as places
use Rattle.proof_report.specs.declared.place.Stage.TheVariants as stages
use Rattle.proof_report.specs.declared.place.State.{State}
use Rattle.proof_report.specs.Verdicts.{obligation_at, obligation_count, const_at}
use Rattle.proof_report.specs.Events.{told, words, shown_words}
use Rattle.proof_report.specs.Feeding
use Rattle.proof_report.specs.Feeding.{line_at, place_line, due_line, drops_in, due_facts, due_readings, due_calls}

-- ---- the words of one line of a witness

each_put : {K A : Type 0} (f : K → Format A) (text : A → List ℕ) → ((k : K) (x : A) → (f k).fits x ≡ true → (f k).put x ≡ text x ∷ []) → (ks : List K) (xs : List A) → list_fits f ks xs ≡ true → list_put f ks xs ≡ map text xs
each_put f text one [] [] h = refl
each_put f text one [] (x ∷ xs) h = absurd (false≢true h)
each_put f text one (k ∷ ks) [] h = absurd (false≢true h)
each_put f text one (k ∷ ks) (x ∷ xs) h =
    let p = and_parts ((f k).fits x) (list_fits f ks xs) h in
    let a = one k x p.0 in
    let b = each_put f text one ks xs p.1 in
    λ i. a i ++ b i

tuple_put : (w : World) (ss : List ℕ) (t : List ℕ) → (tuple_words w ss).fits t ≡ true → (tuple_words w ss).put t ≡ map decimal t
tuple_put w ss t h = each_put (λ (s : ℕ). element_format (size_of w s)) decimal (λ s x f. refl) ss t h

argument_put : (k : Kind) (z : ℤ) → (argument_format k).fits z ≡ true → (argument_format k).put z ≡ signed_decimal z ∷ []
argument_put (Sort s) (pos n) h = refl
argument_put (Sort s) (negsuc n) h = absurd (false≢true h)
argument_put Int z h = refl

arguments_put : (ps : List Parameter) (zs : List ℤ) → (arguments_words ps).fits zs ≡ true → (arguments_words ps).put zs ≡ map signed_decimal zs
arguments_put ps zs h = each_put (λ (p : Parameter). argument_format p.kind) signed_decimal (λ p z f. argument_put p.kind z f) ps zs h

elements_put : (es : List ℕ) → flat_map count_format.put es ≡ map decimal es
elements_put [] = refl
elements_put (e ∷ es) = ap (λ (x : List (List ℕ)). decimal e ∷ x) (elements_put es)

shown_put : (d : Specification) (w : World) (due : Due) (s : Shown) → (shown_format d w due).fits s ≡ true → (shown_format d w due).put s ≡ shown_words d s
shown_put d w due (shown.Fact f) h =
    let p = and_parts ((among due.relation (relation_names d)).fits f.relation) ((tuple_words w (relation_places d f.relation)).fits f.tuple) h in
    ap (λ (x : List (List ℕ)). codes "true" ∷ get_or (relation_names d) f.relation [] ∷ x) (tuple_put w (relation_places d f.relation) f.tuple p.1)
shown_put d w due (shown.Reading r) h =
    let p = and_parts ((among due.counter (counter_names d)).fits r.counter) _ h in
    let q = and_parts ((tuple_words w (counter_keys d r.counter)).fits r.key) _ p.1 in
    ap (λ (x : List (List ℕ)). codes "count" ∷ get_or (counter_names d) r.counter [] ∷ (x ++ signed_decimal r.value ∷ [])) (tuple_put w (counter_keys d r.counter) r.key q.0)
shown_put d w due (shown.Call c) h =
    let p = and_parts ((among 0 (operation_names d)).fits c.op) ((arguments_words (op_of d c.op).params).fits c.args) h in
    ap (λ (x : List (List ℕ)). codes "call" ∷ get_or (operation_names d) c.op [] ∷ x) (arguments_put (op_of d c.op).params c.args p.1)
shown_put d w due (shown.At es) h = ap (λ (x : List (List ℕ)). codes "at" ∷ x) (elements_put es)

-- ---- the line of a place

-- the line is exact, and its words are those of what it says
record Good (d : Specification) (f : Format Event) : Type 0 where
  exact : IsExact f
  says : (e : Event) → f.fits e ≡ true → f.put e ≡ words d e

none_good : (d : Specification) → Good d none
none_good d = record { exact = none_exact; says = λ e h. absurd (false≢true h) }

title_good : (d : Specification) → Good d Feeding.title_line
title_good d = record { exact = case_exact (record { to = events.Title; from = Feeding.from_title }) _ (record { back = λ a. refl; there = there }) title_exact; says = says }
  where
    there : (e : Event) (a : ℕ) → Feeding.from_title e ≡ Some a → e ≡ events.Title a
    there (events.Title v) a h = ap events.Title (same_Some _ _ h)
    there _ a h = absurd (none-some _ h)

    says : (e : Event) → Feeding.title_line.fits e ≡ true → Feeding.title_line.put e ≡ words d e
    says (events.Title v) h = refl
    says _ h = absurd (false≢true h)

budget_good : (d : Specification) → Good d Feeding.budget_line
budget_good d = record { exact = case_exact (record { to = events.Budget; from = Feeding.from_budget }) _ (record { back = λ a. refl; there = there }) budget_exact; says = says }
  where
    there : (e : Event) (a : ℕ) → Feeding.from_budget e ≡ Some a → e ≡ events.Budget a
    there (events.Budget v) a h = ap events.Budget (same_Some _ _ h)
    there _ a h = absurd (none-some _ h)

    says : (e : Event) → Feeding.budget_line.fits e ≡ true → Feeding.budget_line.put e ≡ words d e
    says (events.Budget v) h = refl
    says _ h = absurd (false≢true h)

count_good : (d : Specification) → Good d Feeding.count_line
count_good d = record { exact = case_exact (record { to = events.Count; from = Feeding.from_count }) _ (record { back = λ a. refl; there = there }) obligations_exact; says = says }
  where
    there : (e : Event) (a : ℕ) → Feeding.from_count e ≡ Some a → e ≡ events.Count a
    there (events.Count v) a h = ap events.Count (same_Some _ _ h)
    there _ a h = absurd (none-some _ h)

    says : (e : Event) → Feeding.count_line.fits e ≡ true → Feeding.count_line.put e ≡ words d e
    says (events.Count v) h = refl
    says _ h = absurd (false≢true h)

begin_good : (d : Specification) → Good d Feeding.begin_line
begin_good d = record { exact = case_exact (record { to = events.Begin; from = Feeding.from_begin }) _ (record { back = λ a. refl; there = there }) verdict_exact; says = says }
  where
    there : (e : Event) (a : VerdictWord) → Feeding.from_begin e ≡ Some a → e ≡ events.Begin a
    there (events.Begin v) a h = ap events.Begin (same_Some _ _ h)
    there _ a h = absurd (none-some _ h)

    says : (e : Event) → Feeding.begin_line.fits e ≡ true → Feeding.begin_line.put e ≡ words d e
    says (events.Begin v) h = refl
    says _ h = absurd (false≢true h)

log_good : (d : Specification) (drops : Bool) → Good d (Feeding.log_line drops)
log_good d drops = record { exact = case_exact (record { to = events.Log; from = Feeding.from_log }) _ (record { back = λ a. refl; there = there }) (log_exact drops); says = says }
  where
    there : (e : Event) (a : Line) → Feeding.from_log e ≡ Some a → e ≡ events.Log a
    there (events.Log v) a h = ap events.Log (same_Some _ _ h)
    there _ a h = absurd (none-some _ h)

    says : (e : Event) → (Feeding.log_line drops).fits e ≡ true → (Feeding.log_line drops).put e ≡ words d e
    says (events.Log v) h = refl
    says _ h = absurd (false≢true h)

shown_good : (d : Specification) (w : World) (due : Due) → is_specification d ≡ true → Good d (Feeding.shown_line d w due)
shown_good d w due ok = record { exact = case_exact (record { to = events.Shown; from = Feeding.from_shown }) _ (record { back = λ a. refl; there = there }) (shown_exact d w due ok); says = says }
  where
    there : (e : Event) (a : Shown) → Feeding.from_shown e ≡ Some a → e ≡ events.Shown a
    there (events.Shown v) a h = ap events.Shown (same_Some _ _ h)
    there _ a h = absurd (none-some _ h)

    says : (e : Event) → (Feeding.shown_line d w due).fits e ≡ true → (Feeding.shown_line d w due).put e ≡ words d e
    says (events.Shown v) h = shown_put d w due v h
    says _ h = absurd (false≢true h)

rows_good : (d : Specification) → Good d Feeding.rows_line
rows_good d = record { exact = case_exact (record { to = events.Rows; from = Feeding.from_rows }) _ (record { back = λ a. refl; there = there }) rows_exact; says = says }
  where
    there : (e : Event) (a : RowsLine) → Feeding.from_rows e ≡ Some a → e ≡ events.Rows a
    there (events.Rows v) a h = ap events.Rows (same_Some _ _ h)
    there _ a h = absurd (none-some _ h)

    says : (e : Event) → Feeding.rows_line.fits e ≡ true → Feeding.rows_line.put e ≡ words d e
    says (events.Rows v) h = refl
    says _ h = absurd (false≢true h)

range_good : (d : Specification) → Good d Feeding.range_line
range_good d = record { exact = case_exact (record { to = events.Range; from = Feeding.from_range }) _ (record { back = λ a. refl; there = there }) range_exact; says = says }
  where
    there : (e : Event) (a : RangeLine) → Feeding.from_range e ≡ Some a → e ≡ events.Range a
    there (events.Range v) a h = ap events.Range (same_Some _ _ h)
    there _ a h = absurd (none-some _ h)

    says : (e : Event) → Feeding.range_line.fits e ≡ true → Feeding.range_line.put e ≡ words d e
    says (events.Range v) h = refl
    says _ h = absurd (false≢true h)

summary_good : (d : Specification) → Good d Feeding.summary_line
summary_good d = record { exact = case_exact (record { to = events.Summary; from = Feeding.from_summary }) _ (record { back = λ a. refl; there = there }) summary_exact; says = says }
  where
    there : (e : Event) (a : Tally) → Feeding.from_summary e ≡ Some a → e ≡ events.Summary a
    there (events.Summary v) a h = ap events.Summary (same_Some _ _ h)
    there _ a h = absurd (none-some _ h)

    says : (e : Event) → Feeding.summary_line.fits e ≡ true → Feeding.summary_line.put e ≡ words d e
    says (events.Summary v) h = refl
    says _ h = absurd (false≢true h)

last_good : (d : Specification) → Good d Feeding.last_line
last_good d = record { exact = case_exact (record { to = events.Last; from = Feeding.from_last }) _ (record { back = λ a. refl; there = there }) outcome_exact; says = says }
  where
    there : (e : Event) (a : Outcome) → Feeding.from_last e ≡ Some a → e ≡ events.Last a
    there (events.Last v) a h = ap events.Last (same_Some _ _ h)
    there _ a h = absurd (none-some _ h)

    says : (e : Event) → Feeding.last_line.fits e ≡ true → Feeding.last_line.put e ≡ words d e
    says (events.Last v) h = refl
    says _ h = absurd (false≢true h)

-- ---- lines that carry the number of their place

some_where : {A : Type 0} (b : Bool) (x a : A) → cond b (Some x) None ≡ Some a → (b ≡ true) × (x ≡ a)
some_where true x a h = (refl, same_Some _ _ h)
some_where false x a h = absurd (none-some _ h)

fits_where : {A : Type 0} (f : Format A) (b : Bool) (x : A) → fits_some f (cond b (Some x) None) ≡ true → (b ≡ true) × (put_some f (cond b (Some x) None) ≡ f.put x)
fits_where f true x h = (refl, refl)
fits_where f false x h = absurd (false≢true h)

opened_good : (d : Specification) (i : ℕ) → Good d (Feeding.opened_line d i)
opened_good d i = record { exact = case_exact (record { to = λ u. events.Opened i; from = Feeding.from_opened i }) _ (record { back = λ a. let e : eqb i i ≡ true = eq-eqb i i refl in rw e refl; there = there }) (obligation_exact d (obligation_at d i)); says = says }
  where
    there : (e : Event) (a : Unit {0}) → Feeding.from_opened i e ≡ Some a → e ≡ events.Opened i
    there (events.Opened j) a h = ap events.Opened (eqb-true j i (some_where (eqb j i) tt a h).0)
    there _ a h = absurd (none-some _ h)

    says : (e : Event) → (Feeding.opened_line d i).fits e ≡ true → (Feeding.opened_line d i).put e ≡ words d e
    says (events.Opened j) h =
        let p = fits_where (obligation_format d (obligation_at d i)) (eqb j i) tt h in
        p.1 ∙ ap (λ (k : ℕ). obligation_words d (obligation_at d k)) (sym (eqb-true j i p.0))
    says _ h = absurd (false≢true h)

size_good : (d : Specification) (i : ℕ) → Good d (Feeding.size_line d i)
size_good d i = record { exact = case_exact (record { to = events.Size i; from = Feeding.from_size i }) _ (record { back = λ a. let e : eqb i i ≡ true = eq-eqb i i refl in rw e refl; there = there }) (size_exact (get_or d.sorts i [])); says = says }
  where
    there : (e : Event) (a : ℕ) → Feeding.from_size i e ≡ Some a → e ≡ events.Size i a
    there (events.Size j n) a h = let p = some_where (eqb j i) n a h in let q = eqb-true j i p.0 in λ k. events.Size (q k) (p.1 k)
    there _ a h = absurd (none-some _ h)

    says : (e : Event) → (Feeding.size_line d i).fits e ≡ true → (Feeding.size_line d i).put e ≡ words d e
    says (events.Size j n) h =
        let p = fits_where (size_format (get_or d.sorts i [])) (eqb j i) n h in
        p.1 ∙ ap (λ (k : ℕ). (size_format (get_or d.sorts k [])).put n) (sym (eqb-true j i p.0))
    says _ h = absurd (false≢true h)

const_good : (d : Specification) (w : World) (i : ℕ) → Good d (Feeding.const_line d w i)
const_good d w i = record { exact = case_exact (record { to = events.Const i; from = Feeding.from_const i }) _ (record { back = λ a. let e : eqb i i ≡ true = eq-eqb i i refl in rw e refl; there = there }) (const_exact (const_at d i).name (size_of w (const_at d i).sort)); says = says }
  where
    there : (e : Event) (a : ℕ) → Feeding.from_const i e ≡ Some a → e ≡ events.Const i a
    there (events.Const j n) a h = let p = some_where (eqb j i) n a h in let q = eqb-true j i p.0 in λ k. events.Const (q k) (p.1 k)
    there _ a h = absurd (none-some _ h)

    says : (e : Event) → (Feeding.const_line d w i).fits e ≡ true → (Feeding.const_line d w i).put e ≡ words d e
    says (events.Const j n) h =
        let p = fits_where (const_format (const_at d i).name (size_of w (const_at d i).sort)) (eqb j i) n h in
        p.1 ∙ ap (λ (k : ℕ). (const_format (const_at d k).name 0).put n) (sym (eqb-true j i p.0))
    says _ h = absurd (false≢true h)

due_good : (d : Specification) (b : Bool) (i : ℕ) → Good d (due_line d b i)
due_good d true i = summary_good d
due_good d false i = opened_good d i

line_good : (d : Specification) (ver : ℕ) (t : Tally) (p : Place) → is_specification d ≡ true → Good d (place_line d ver t p)
line_good d ver t places.Title ok = title_good d
line_good d ver t places.Budget ok = budget_good d
line_good d ver t places.Count ok = count_good d
line_good d ver t places.Due ok = due_good d (eqb (told t) (obligation_count d)) (told t)
line_good d ver t places.Opened ok = begin_good d
line_good d ver t (places.Log k zero) ok = none_good d
line_good d ver t (places.Log k (suc n)) ok = log_good d (drops_in ver k)
line_good d ver t places.Rows ok = rows_good d
line_good d ver t places.Range ok = range_good d
line_good d ver t (places.Sizes w) ok = size_good d (length w.sizes)
line_good d ver t (places.Consts w) ok = const_good d w (length w.consts)
line_good d ver t (places.Showing stages.Facts p) ok = shown_good d p.world (due_facts d (obligation_at d (told t)) p) ok
line_good d ver t (places.Showing stages.Readings p) ok = shown_good d p.world (due_readings d (obligation_at d (told t)) p) ok
line_good d ver t (places.Showing stages.Calls p) ok = shown_good d p.world (due_calls d (obligation_at d (told t))) ok
line_good d ver t places.Last ok = last_good d
line_good d ver t places.Over ok = none_good d

-- what is read is written so, and can be said there
pub line_ok : (d : Specification) (s : State) (ws : List (List ℕ)) (e : Event) → is_specification d ≡ true → read (line_at d s) ws ≡ Some e → (ws ≡ words d e) × ((line_at d s).fits e ≡ true)
line_ok d s ws e ok h =
    let g = line_good d s.version s.tally s.place ok in
    let u = read_ok g.exact ws e h in
    (u.0 ∙ g.says e u.1, u.1)

pub line_says : (d : Specification) (s : State) (e : Event) → is_specification d ≡ true → (line_at d s).fits e ≡ true → (line_at d s).put e ≡ words d e
line_says d s e ok fit = (line_good d s.version s.tally s.place ok).says e fit

-- and what can be said there is read
pub line_again : (d : Specification) (s : State) (e : Event) → is_specification d ≡ true → (line_at d s).fits e ≡ true → read (line_at d s) (words d e) ≡ Some e
line_again d s e ok fit =
    let g = line_good d s.version s.tally s.place ok in
    rw (← g.says e fit) (read_again g.exact e fit)
