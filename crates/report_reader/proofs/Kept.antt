-- What a state keeps is kept by each line that goes on.
use Rattle.std.proofs.Common.{◌≡◌, ℕ, zero, suc, ◌<◌, ◌≤◌, Bool, true, false, ◌&&◌, cond, eqb, leb, ltb, List, [], ◌∷◌, ◌++◌, length, map, take, get_or, Some, None, refl, sym, subst, ◌∙◌, arith, take_all}
use Rattle.std.proofs.lemmas.Bool.{false≢true, eq-eqb, eqb-true, eqb-false, and_parts, and_from, ltb-true, lt-ltb}
use Rattle.std.proofs.lemmas.List.{length-map}
use Rattle.std.proofs.lemmas.List.Folds.{list_all-append}
use Rattle.spec_core.specs.declared.spec.Const.{Const}
use Rattle.spec_core.specs.declared.world.World.{World}
use Rattle.spec_core.specs.Limits.{most_elements}
use Rattle.spec_core.specs.Specification.{Specification, relation_places, counter_keys}
use Rattle.spec_core.specs.World.{size_of}
use Rattle.spec_core.specs.Fits.{fits_places, world_fits}
use Rattle.report_lines.specs.declared.head.Tally.{Tally}
use Rattle.report_lines.specs.declared.verdict.VerdictWord.{VerdictWord}
use Rattle.report_lines.specs.declared.verdict.VerdictWord.TheVariants as word
use Rattle.report_lines.specs.declared.witness.Fact.{Fact}
use Rattle.report_lines.specs.declared.witness.Reading.{Reading}
use Rattle.report_lines.specs.declared.witness.Shown.{Shown}
use Rattle.report_lines.specs.declared.witness.Shown.TheVariants as shown
use Rattle.report_lines.specs.Formats.{Format, fits_some, list_fits, among}
use Rattle.report_lines.specs.Fields.{most_count, element_format}
use Rattle.report_lines.specs.Witnesses.{size_format, const_format, tuple_words, fact_format, reading_format, relation_names, counter_names}
use Rattle.proof_report.specs.declared.event.Event.{Event}
use Rattle.proof_report.specs.declared.event.Event.TheVariants as events
use Rattle.proof_report.specs.declared.place.LogOf.{LogOf}
use Rattle.proof_report.specs.declared.place.LogOf.TheVariants as log_of
use Rattle.proof_report.specs.declared.place.PartialWitness.{PartialWitness}
use Rattle.proof_report.specs.declared.place.Stage.TheVariants as stages
use Rattle.proof_report.specs.declared.place.Place.{Place}
use Rattle.proof_report.specs.declared.place.Place.TheVariants as places
use Rattle.proof_report.specs.declared.place.State.{State}
use Rattle.proof_report.specs.Verdicts.{obligation_count, const_at, no_const, relation_due, counter_due}
use Rattle.proof_report.specs.Events.{told}
use Rattle.proof_report.specs.Feeding.{line_at, due_line, last_of, says, log_left, no_witness, no_world, at_consts, at_sizes, begun, with_size, with_const, with_fact, with_reading, with_call, after, goes}
use Rattle.report_reader.specs.Reader.{fact_fits, reading_fits, IsShowing, AreSizes, AreConsts, IsKept}
use Rattle.spec_core.specs.Typed.{is_specification}
use Rattle.obligation_list.proofs.Counting.{few_obligations}
use Rattle.report_lines.specs.Formats.{read}
use Rattle.proof_report.proofs.Lines.{line_ok}
use Rattle.proof_report.proofs.Sound.{at, one_more}

-- ---- worlds

same_fits : (w v : World) (ss es : List ℕ) → w.sizes ≡ v.sizes → fits_places w ss es ≡ fits_places v ss es
same_fits w v [] [] e = refl
same_fits w v [] (x ∷ es) e = refl
same_fits w v (s ∷ ss) [] e = refl
same_fits w v (s ∷ ss) (x ∷ es) e = let r = same_fits w v ss es e in λ i. ltb x (get_or (e i) s 0) && r i

one_fits : (w : World) (ss es : List ℕ) (x : ℕ) → length es < length ss → fits_places w (take (length es) ss) es ≡ true → ltb x (size_of w (get_or ss (length es) 0)) ≡ true → fits_places w (take (suc (length es)) ss) (es ++ x ∷ []) ≡ true
one_fits w [] es x lt h fit = absurd (omega arith)
one_fits w (s ∷ ss) [] x lt h fit = and_from _ _ fit refl
one_fits w (s ∷ ss) (e ∷ es) x lt h fit =
    let c = and_parts (ltb e (size_of w s)) (fits_places w (take (length es) ss) es) h in
    and_from _ _ c.0 (one_fits w ss es x (omega arith) c.1 fit)

sort_at : (cs : List Const) (j : ℕ) → get_or (map (λ c. c.sort) cs) j 0 ≡ (get_or cs j no_const).sort
sort_at [] j = refl
sort_at (c ∷ cs) zero = refl
sort_at (c ∷ cs) (suc j) = sort_at cs j

whole_world : (d : Specification) (w : World) → AreSizes d w → length w.sizes ≡ length d.sorts → AreConsts d w → length w.consts ≡ length d.consts → world_fits d w ≡ true
whole_world d w a e b f =
    let all : take (length w.consts) (map (λ c. c.sort) d.consts) ≡ map (λ c. c.sort) d.consts = take_all _ _ (omega (arith, length-map d.consts (λ c. c.sort))) in
    and_from _ _ (and_from _ _ (eq-eqb _ _ e) (subst (λ (ss : List ℕ). fits_places w ss w.consts ≡ true) all b.fits)) a.few

showing_none : (d : Specification) (w : World) → world_fits d w ≡ true → IsShowing d (no_witness w)
showing_none d w h = record { world = h; facts = refl; readings = refl }

at_consts_kept : (d : Specification) (t : Tally) (w : World) (b : Bool) → eqb (length w.consts) (length d.consts) ≡ b → told t < obligation_count d → AreSizes d w → length w.sizes ≡ length d.sorts → AreConsts d w
    → IsKept d t (cond b (places.Showing stages.Facts (no_witness w)) (places.Consts w))
at_consts_kept d t w true n room a e b = (room, showing_none d w (whole_world d w a e b (eqb-true _ _ n)))
at_consts_kept d t w false n room a e b = (room, a, e, b)

no_consts : (d : Specification) (w : World) → w.consts ≡ [] → AreConsts d w
no_consts d w e = record {
  within = subst (λ (xs : List ℕ). length xs ≤ length d.consts) (sym e) (omega arith);
  fits = subst (λ (xs : List ℕ). fits_places w (take (length xs) (map (λ c. c.sort) d.consts)) xs ≡ true) (sym e) refl;
}

at_sizes_kept : (d : Specification) (t : Tally) (w : World) (b : Bool) → eqb (length w.sizes) (length d.sorts) ≡ b → told t < obligation_count d → AreSizes d w → w.consts ≡ []
    → IsKept d t (cond b (at_consts d w) (places.Sizes w))
at_sizes_kept d t w true n room a e = at_consts_kept d t w (eqb (length w.consts) (length d.consts)) refl room a (eqb-true _ _ n) (no_consts d w e)
at_sizes_kept d t w false n room a e = (room, a, e)

number_fits : (f : Format ℕ) (b c : Bool) (n : ℕ) → (fits_some f (cond b (Some n) None) && c) ≡ true → (b ≡ true) × (f.fits n ≡ true) × (c ≡ true)
number_fits f true c n e = let p = and_parts (f.fits n) c e in (refl, p.0, p.1)
number_fits f false c n e = absurd (false≢true e)

size_keeps : (d : Specification) (ver : ℕ) (t : Tally) (w : World) (i n : ℕ) → goes d (at ver t (places.Sizes w)) (events.Size i n) ≡ true → IsKept d t (places.Sizes w) → IsKept d t (at_sizes d (with_size n w))
size_keeps d ver t w i n ok h =
    let c = number_fits (size_format (get_or d.sorts (length w.sizes) [])) (eqb i (length w.sizes)) (ltb i (length d.sorts)) n ok in
    let i_is : i ≡ length w.sizes = eqb-true i (length w.sizes) c.0 in
    let lt = ltb-true i (length d.sorts) c.2 in
    let sizes : AreSizes d (with_size n w) = record {
      within = omega (arith, one_more w.sizes n);
      few = list_all-append (λ n. leb n most_elements) w.sizes (n ∷ []) ∙ and_from _ _ h.1.few (and_from _ _ c.1 refl);
    } in
    at_sizes_kept d t (with_size n w) (eqb (length (w.sizes ++ n ∷ [])) (length d.sorts)) refl h.0 sizes h.2

const_keeps : (d : Specification) (ver : ℕ) (t : Tally) (w : World) (i n : ℕ) → goes d (at ver t (places.Consts w)) (events.Const i n) ≡ true → IsKept d t (places.Consts w) → IsKept d t (at_consts d (with_const n w))
const_keeps d ver t w i n ok h =
    let j = length w.consts in
    let c = number_fits (const_format (const_at d j).name (size_of w (const_at d j).sort)) (eqb i j) (ltb i (length d.consts)) n ok in
    let i_is : i ≡ j = eqb-true i j c.0 in
    let lt = ltb-true i (length d.consts) c.2 in
    let e = and_parts (leb n most_count) (ltb n (size_of w (const_at d j).sort)) c.1 in
    let m = length-map d.consts (λ c. c.sort) in
    let fit : ltb n (size_of w (get_or (map (λ c. c.sort) d.consts) j 0)) ≡ true = subst (λ (s : ℕ). ltb n (size_of w s) ≡ true) (sym (sort_at d.consts j)) e.1 in
    let all = one_fits w (map (λ c. c.sort) d.consts) w.consts n (omega arith) h.3.fits fit in
    let consts : AreConsts d (with_const n w) = record {
      within = omega (arith, one_more w.consts n);
      fits = subst (λ (k : ℕ). fits_places (with_const n w) (take k (map (λ c. c.sort) d.consts)) (w.consts ++ n ∷ []) ≡ true) (sym (one_more w.consts n))
          (sym (same_fits w (with_const n w) (take (suc j) (map (λ c. c.sort) d.consts)) (w.consts ++ n ∷ []) refl) ∙ all);
    } in
    at_consts_kept d t (with_const n w) (eqb (length (w.consts ++ n ∷ [])) (length d.consts)) refl h.0 (record { within = h.1.within; few = h.1.few }) h.2 consts

-- ---- what a witness shows

tuple_fits : (w : World) (ss t : List ℕ) → (tuple_words w ss).fits t ≡ true → fits_places w ss t ≡ true
tuple_fits w [] [] h = refl
tuple_fits w [] (x ∷ t) h = absurd (false≢true h)
tuple_fits w (s ∷ ss) [] h = absurd (false≢true h)
tuple_fits w (s ∷ ss) (x ∷ t) h =
    let c = and_parts ((element_format (size_of w s)).fits x) (list_fits (λ s. element_format (size_of w s)) ss t) h in
    let e = and_parts (leb x most_count) (ltb x (size_of w s)) c.0 in
    and_from _ _ e.1 (tuple_fits w ss t c.1)

fact_fits_at : (d : Specification) (w : World) (from : ℕ) (f : Fact) → (fact_format d w from).fits f ≡ true → fact_fits d w f ≡ true
fact_fits_at d w from f h =
    let c = and_parts ((among from (relation_names d)).fits f.relation) _ h in
    let e = and_parts (leb from f.relation) (ltb f.relation (length (relation_names d))) c.0 in
    let lt = ltb-true f.relation (length (relation_names d)) e.1 in
    and_from _ _ (lt-ltb _ _ (omega (arith, length-map d.relations (λ r. r.name)))) (tuple_fits w (relation_places d f.relation) f.tuple c.1)

reading_fits_at : (d : Specification) (w : World) (from : ℕ) (r : Reading) → (reading_format d w from).fits r ≡ true → reading_fits d w r ≡ true
reading_fits_at d w from r h =
    let c = and_parts ((among from (counter_names d)).fits r.counter) _ h in
    let e = and_parts (leb from r.counter) (ltb r.counter (length (counter_names d))) c.0 in
    let k = and_parts ((tuple_words w (counter_keys d r.counter)).fits r.key) _ c.1 in
    let v = and_parts _ _ k.1 in
    let lt = ltb-true r.counter (length (counter_names d)) e.1 in
    and_from _ _ (lt-ltb _ _ (omega (arith, length-map d.counters (λ c. c.name)))) (and_from _ _ (tuple_fits w (counter_keys d r.counter) r.key k.0) v.0)

fact_keeps : (d : Specification) (p : PartialWitness) (f : Fact) → IsShowing d p → fact_fits d p.world f ≡ true → IsShowing d (with_fact f p)
fact_keeps d p f h fit = record { world = h.world; facts = list_all-append (fact_fits d p.world) p.facts (f ∷ []) ∙ and_from _ _ h.facts (and_from _ _ fit refl); readings = h.readings }

reading_keeps : (d : Specification) (p : PartialWitness) (r : Reading) → IsShowing d p → reading_fits d p.world r ≡ true → IsShowing d (with_reading r p)
reading_keeps d p r h fit = record { world = h.world; facts = h.facts; readings = list_all-append (reading_fits d p.world) p.readings (r ∷ []) ∙ and_from _ _ h.readings (and_from _ _ fit refl) }

call_keeps : (d : Specification) (p : PartialWitness) (c : _) → IsShowing d p → IsShowing d (with_call c p)
call_keeps d p c h = record { world = h.world; facts = h.facts; readings = h.readings }

shown_keeps : (d : Specification) (ver : ℕ) (t : Tally) (p : Place) (x : Shown) → goes d (at ver t p) (events.Shown x) ≡ true → IsKept d t p → IsKept d (after d (at ver t p) (events.Shown x)).tally (after d (at ver t p) (events.Shown x)).place
shown_keeps d ver t (places.Showing stages.Facts p) (shown.Fact f) ok h = let c = and_parts _ _ ok in (h.0, fact_keeps d p f h.1 (fact_fits_at d p.world (relation_due (last_of p.facts)) f c.0))
shown_keeps d ver t (places.Showing stages.Facts p) (shown.Reading r) ok h = let c = and_parts _ _ ok in (h.0, reading_keeps d p r h.1 (reading_fits_at d p.world (counter_due (last_of p.readings)) r c.0))
shown_keeps d ver t (places.Showing stages.Facts p) (shown.Call a) ok h = (h.0, call_keeps d p a h.1)
shown_keeps d ver t (places.Showing stages.Facts p) (shown.At xs) ok h = let r = h.0 in omega arith
shown_keeps d ver t (places.Showing stages.Readings p) (shown.Fact f) ok h = absurd (false≢true (and_parts _ _ ok).1)
shown_keeps d ver t (places.Showing stages.Readings p) (shown.Reading r) ok h = let c = and_parts _ _ ok in (h.0, reading_keeps d p r h.1 (reading_fits_at d p.world (counter_due (last_of p.readings)) r c.0))
shown_keeps d ver t (places.Showing stages.Readings p) (shown.Call a) ok h = (h.0, call_keeps d p a h.1)
shown_keeps d ver t (places.Showing stages.Readings p) (shown.At xs) ok h = let r = h.0 in omega arith
shown_keeps d ver t (places.Showing stages.Calls p) (shown.Fact f) ok h = absurd (false≢true (and_parts _ _ ok).1)
shown_keeps d ver t (places.Showing stages.Calls p) (shown.Reading r) ok h = absurd (false≢true (and_parts _ _ ok).1)
shown_keeps d ver t (places.Showing stages.Calls p) (shown.Call a) ok h = (h.0, call_keeps d p a h.1)
shown_keeps d ver t (places.Showing stages.Calls p) (shown.At xs) ok h = let r = h.0 in omega arith
shown_keeps d ver t p x ok h = absurd (false≢true (and_parts ((line_at d (at ver t p)).fits (events.Shown x)) false ok).1)

-- ---- blocks

logs_kept : (d : Specification) (ver : ℕ) (t : Tally) (k : LogOf) (n : ℕ) → told t < obligation_count d → IsKept d (log_left k n ver t).tally (log_left k n ver t).place
logs_kept d ver t log_of.Proved zero h = omega arith
logs_kept d ver t log_of.Lines zero h = omega arith
logs_kept d ver t log_of.Rows zero h = h
logs_kept d ver t log_of.Range zero h = h
logs_kept d ver t k (suc n) h = h

begun_kept : (d : Specification) (ver : ℕ) (t : Tally) (b : VerdictWord) → told t < obligation_count d → IsKept d (begun d b ver t).tally (begun d b ver t).place
begun_kept d ver t (word.Proved n) h = logs_kept d ver t log_of.Proved n h
begun_kept d ver t word.Refuted h = at_sizes_kept d t no_world (eqb 0 (length d.sorts)) refl h (record { within = omega arith; few = refl }) refl
begun_kept d ver t word.Instances h = omega arith
begun_kept d ver t (word.Lines n) h = logs_kept d ver t log_of.Lines n h
begun_kept d ver t (word.Rows n) h = logs_kept d ver t log_of.Rows n h
begun_kept d ver t (word.Range n) h = logs_kept d ver t log_of.Range n h

due_keeps : (d : Specification) (ver : ℕ) (t : Tally) (b : Bool) (e : Event) → eqb (told t) (obligation_count d) ≡ b → ((due_line d b (told t)).fits e && says d (at ver t places.Due) e) ≡ true → told t ≤ obligation_count d
    → IsKept d (after d (at ver t places.Due) e).tally (after d (at ver t places.Due) e).place
due_keeps d ver t true (events.Summary u) n ok h = h
due_keeps d ver t true _ n ok h = absurd (false≢true ok)
due_keeps d ver t false (events.Opened i) n ok h = let off : told t ≡ obligation_count d → ⊥ = eqb-false (told t) (obligation_count d) n in omega arith
due_keeps d ver t false _ n ok h = absurd (false≢true ok)

pub keeps : (d : Specification) (ver : ℕ) (t : Tally) (p : Place) (e : Event) → goes d (at ver t p) e ≡ true → IsKept d t p → IsKept d (after d (at ver t p) e).tally (after d (at ver t p) e).place
keeps d ver t p (events.Shown x) ok h = shown_keeps d ver t p x ok h
keeps d ver t places.Title (events.Title v) ok h = h
keeps d ver t places.Title _ ok h = absurd (false≢true ok)
keeps d ver t places.Budget (events.Budget n) ok h = h
keeps d ver t places.Budget _ ok h = absurd (false≢true ok)
keeps d ver t places.Count (events.Count n) ok h = h
keeps d ver t places.Count _ ok h = absurd (false≢true ok)
keeps d ver t places.Due e ok h = due_keeps d ver t (eqb (told t) (obligation_count d)) e refl ok h
keeps d ver t places.Opened (events.Begin b) ok h = begun_kept d ver t b h
keeps d ver t places.Opened _ ok h = absurd (false≢true ok)
keeps d ver t (places.Log k zero) e ok h = absurd (false≢true ok)
keeps d ver t (places.Log k (suc n)) (events.Log l) ok h = logs_kept d ver t k n h
keeps d ver t (places.Log k (suc n)) _ ok h = absurd (false≢true ok)
keeps d ver t places.Rows (events.Rows r) ok h = omega arith
keeps d ver t places.Rows _ ok h = absurd (false≢true ok)
keeps d ver t places.Range (events.Range r) ok h = omega arith
keeps d ver t places.Range _ ok h = absurd (false≢true ok)
keeps d ver t (places.Sizes w) (events.Size i n) ok h = size_keeps d ver t w i n ok h
keeps d ver t (places.Sizes w) _ ok h = absurd (false≢true ok)
keeps d ver t (places.Consts w) (events.Const i n) ok h = const_keeps d ver t w i n ok h
keeps d ver t (places.Consts w) _ ok h = absurd (false≢true ok)
keeps d ver t (places.Showing stages.Facts p) _ ok h = absurd (false≢true ok)
keeps d ver t (places.Showing stages.Readings p) _ ok h = absurd (false≢true ok)
keeps d ver t (places.Showing stages.Calls p) _ ok h = absurd (false≢true ok)
keeps d ver t places.Last (events.Last o) ok h = h
keeps d ver t places.Last _ ok h = absurd (false≢true ok)
keeps d ver t places.Over _ ok h = absurd (false≢true ok)

-- a line that is read and is true goes on, and keeps what is kept
pub goes_on : (d : Specification) (s : State) (e : Event) → (line_at d s).fits e ≡ true → says d s e ≡ true → IsKept d s.tally s.place → IsKept d (after d s e).tally (after d s e).place
goes_on d s e fit true_ h = keeps d s.version s.tally s.place e (and_from _ _ fit true_) h

pub read_fits : (d : Specification) (s : State) (ws : List (List ℕ)) (e : Event) → is_specification d ≡ true → read (line_at d s) ws ≡ Some e → (line_at d s).fits e ≡ true
read_fits d s ws e ok h = (line_ok d s ws e ok h).1

at_most : (d : Specification) → is_specification d ≡ true → (n : ℕ) → n ≤ obligation_count d → n < 4294967295
at_most d ok n h = let f = few_obligations d ok in omega (arith, f)

pub few_told : (d : Specification) (t : Tally) (p : Place) → is_specification d ≡ true → IsKept d t p → told t < 4294967295
few_told d t places.Title ok h = at_most d ok (told t) h
few_told d t places.Budget ok h = at_most d ok (told t) h
few_told d t places.Count ok h = at_most d ok (told t) h
few_told d t places.Due ok h = at_most d ok (told t) h
few_told d t places.Last ok h = at_most d ok (told t) h
few_told d t places.Over ok h = at_most d ok (told t) h
few_told d t places.Opened ok h = at_most d ok (told t) (omega arith)
few_told d t (places.Log k n) ok h = at_most d ok (told t) (omega arith)
few_told d t places.Rows ok h = at_most d ok (told t) (omega arith)
few_told d t places.Range ok h = at_most d ok (told t) (omega arith)
few_told d t (places.Sizes w) ok h = let r = h.0 in at_most d ok (told t) (omega arith)
few_told d t (places.Consts w) ok h = let r = h.0 in at_most d ok (told t) (omega arith)
few_told d t (places.Showing stage p) ok h = let r = h.0 in at_most d ok (told t) (omega arith)
