-- A state that reads as a witness shows: what is shown is listed.
use Rattle.std.proofs.Common.{◌≡◌, ℕ, zero, suc, ◌<◌, ℤ, Bool, true, false, cond, ◌&&◌, ◌||◌, leb, ltb, List, [], ◌∷◌, length, get_or, Option, Some, None, refl, sym, ap, ◌∙◌, arith}
use Rattle.std.specs.Prelude.{◌==◌}
use Rattle.std.specs.Str.{bytes_eq}
use Rattle.std.proofs.lemmas.Bool.{false≢true, and_parts, and_from, ltb-true, ne_eqb}
use Rattle.std.proofs.lemmas.Bool.Decides.{nat_tests}
use Rattle.std.proofs.lemmas.List.{length-map}
use Rattle.spec_core.specs.declared.spec.Relation.{Relation}
use Rattle.spec_core.specs.declared.spec.Counter.{Counter}
use Rattle.spec_core.specs.declared.world.World.{World}
use Rattle.spec_core.specs.Specification.{Specification, no_relation, no_counter, relation_places, counter_keys}
use Rattle.spec_core.specs.State.{Listing, Reads, reads, nothing, with_has, with_count, is_in, count_in}
use Rattle.spec_core.specs.World.{size_of}
use Rattle.spec_core.specs.Fits.{fits_places, lists_fit, values_fit, is_state}
use Rattle.report_lines.specs.declared.witness.Fact.{Fact}
use Rattle.report_lines.specs.declared.witness.Reading.{Reading}
use Rattle.report_lines.specs.Formats.{list_fits, among}
use Rattle.report_lines.specs.Fields.{most_count, element_format}
use Rattle.report_lines.specs.Witnesses.{tuple_words, fact_format, reading_format, relation_names, counter_names}
use Rattle.proof_report.specs.declared.place.PartialWitness.{PartialWitness}
use Rattle.obligation_list.specs.declared.obligation.Obligation.{Obligation}
use Rattle.proof_report.specs.Verdicts.{are_sizes, are_consts, are_facts, are_readings, are_calls, are_elements, fact_behind, reading_behind, relation_due, counter_due, is_witness}
use Rattle.report_reader.specs.Reader.{with_facts, with_readings, reads_of}

-- ---- lists of lists with one element more

abbrev with_at : {A : Type 0} → ℕ → A → List (List A) → List (List A)
with_at k x [] = []
with_at zero x (l ∷ ls) = (x ∷ l) ∷ ls
with_at (suc k) x (l ∷ ls) = l ∷ with_at k x ls

with_at-length : {A : Type 0} (k : ℕ) (x : A) (ls : List (List A)) → length (with_at k x ls) ≡ length ls
with_at-length k x [] = refl
with_at-length zero x (l ∷ ls) = refl
with_at-length (suc k) x (l ∷ ls) = ap (λ (n : ℕ). suc n) (with_at-length k x ls)

or_cond : (a b : Bool) → (a || b) ≡ cond a true b
or_cond true b = refl
or_cond false b = refl

not_zero : (j : ℕ) → (suc j == 0) ≡ false
not_zero j = ne_eqb (suc j) 0 (λ e. omega (arith, e))

zero_not : (k : ℕ) → (0 == suc k) ≡ false
zero_not k = ne_eqb 0 (suc k) (λ e. omega (arith, e))

less_one : (j k : ℕ) → (suc j == suc k) ≡ (j == k)
less_one j k = grind (arith, nat_tests)

has_at : (k : ℕ) (t : List ℕ) (ls : List (List (List ℕ))) (j : ℕ) (q : List ℕ) → k < length ls → is_in q (get_or (with_at k t ls) j []) ≡ cond ((j == k) && bytes_eq q t) true (is_in q (get_or ls j []))
has_at k t [] j q h = absurd (omega arith)
has_at zero t (l ∷ ls) zero q h = or_cond (bytes_eq q t) (is_in q l)
has_at zero t (l ∷ ls) (suc j) q h = ap (λ (b : Bool). cond (b && bytes_eq q t) true (is_in q (get_or ls j []))) (sym (not_zero j))
has_at (suc k) t (l ∷ ls) zero q h = ap (λ (b : Bool). cond (b && bytes_eq q t) true (is_in q l)) (sym (zero_not k))
has_at (suc k) t (l ∷ ls) (suc j) q h = has_at k t ls j q (omega arith) ∙ ap (λ (b : Bool). cond (b && bytes_eq q t) true (is_in q (get_or ls j []))) (sym (less_one j k))

count_at : (k : ℕ) (t : List ℕ) (v : ℤ) (ls : List (List (List ℕ × ℤ))) (j : ℕ) (q : List ℕ) → k < length ls → count_in (get_or (with_at k (t, v) ls) j []) q ≡ cond ((j == k) && bytes_eq q t) v (count_in (get_or ls j []) q)
count_at k t v [] j q h = absurd (omega arith)
count_at zero t v (l ∷ ls) zero q h = refl
count_at zero t v (l ∷ ls) (suc j) q h = ap (λ (b : Bool). cond (b && bytes_eq q t) v (count_in (get_or ls j []) q)) (sym (not_zero j))
count_at (suc k) t v (l ∷ ls) zero q h = ap (λ (b : Bool). cond (b && bytes_eq q t) v (count_in l q)) (sym (zero_not k))
count_at (suc k) t v (l ∷ ls) (suc j) q h = count_at k t v ls j q (omega arith) ∙ ap (λ (b : Bool). cond (b && bytes_eq q t) v (count_in (get_or ls j []) q)) (sym (less_one j k))

lists_at : (w : World) (rs : List Relation) (ls : List (List (List ℕ))) (k : ℕ) (t : List ℕ) → lists_fit w rs ls ≡ true → fits_places w (get_or rs k no_relation).places t ≡ true → lists_fit w rs (with_at k t ls) ≡ true
lists_at w [] [] k t h f = refl
lists_at w [] (l ∷ ls) k t h f = absurd (false≢true h)
lists_at w (r ∷ rs) [] k t h f = absurd (false≢true h)
lists_at w (r ∷ rs) (l ∷ ls) zero t h f = let c = and_parts _ _ h in and_from _ _ (and_from _ _ f c.0) c.1
lists_at w (r ∷ rs) (l ∷ ls) (suc k) t h f = let c = and_parts _ _ h in and_from _ _ c.0 (lists_at w rs ls k t c.1 f)

values_at : (w : World) (cs : List Counter) (ls : List (List (List ℕ × ℤ))) (k : ℕ) (t : List ℕ) (v : ℤ) → values_fit w cs ls ≡ true → fits_places w (get_or cs k no_counter).keys t ≡ true → values_fit w cs (with_at k (t, v) ls) ≡ true
values_at w [] [] k t v h f = refl
values_at w [] (l ∷ ls) k t v h f = absurd (false≢true h)
values_at w (c ∷ cs) [] k t v h f = absurd (false≢true h)
values_at w (c ∷ cs) (l ∷ ls) zero t v h f = let p = and_parts _ _ h in and_from _ _ (and_from _ _ f p.0) p.1
values_at w (c ∷ cs) (l ∷ ls) (suc k) t v h f = let p = and_parts _ _ h in and_from _ _ p.0 (values_at w cs ls k t v p.1 f)

-- ---- states

-- a state of a world that reads so
pub record Shows (d : Specification) (w : World) (r : Reads) : Type 0 where
  pub state : Listing
  pub fits : is_state d w state ≡ true
  pub relations : length state.relations ≡ length d.relations
  pub counters : length state.counters ≡ length d.counters
  pub reads_so : reads state ≡ r

abbrev none_of : {A B : Type 0} → List A → List (List B)
none_of [] = []
none_of (x ∷ xs) = [] ∷ none_of xs

none_of-length : {A : Type 0} (B : Type 0) (xs : List A) → length (none_of {A = A} {B = B} xs) ≡ length xs
none_of-length B [] = refl
none_of-length B (x ∷ xs) = ap (λ (n : ℕ). suc n) (none_of-length B xs)

none_at : {A B : Type 0} (xs : List A) (j : ℕ) → get_or (none_of {A = A} {B = B} xs) j [] ≡ []
none_at [] j = refl
none_at (x ∷ xs) zero = refl
none_at (x ∷ xs) (suc j) = none_at xs j

no_lists_fit : (w : World) (rs : List Relation) → lists_fit w rs (none_of rs) ≡ true
no_lists_fit w [] = refl
no_lists_fit w (r ∷ rs) = no_lists_fit w rs

no_values_fit : (w : World) (cs : List Counter) → values_fit w cs (none_of cs) ≡ true
no_values_fit w [] = refl
no_values_fit w (c ∷ cs) = no_values_fit w cs

shows_nothing : (d : Specification) (w : World) → Shows d w nothing
shows_nothing d w =
    let rs : List (List (List ℕ)) = none_of d.relations in
    let cs : List (List (List ℕ × ℤ)) = none_of d.counters in
    let r : (j : ℕ) → get_or rs j [] ≡ [] = λ j. none_at d.relations j in
    let c : (j : ℕ) → get_or cs j [] ≡ [] = λ j. none_at d.counters j in
    record {
      state = record { relations = rs; counters = cs };
      fits = and_from _ _ (no_lists_fit w d.relations) (no_values_fit w d.counters);
      relations = none_of-length (List ℕ) d.relations;
      counters = none_of-length (List ℕ × ℤ) d.counters;
      reads_so = λ i. record { has = λ j q. is_in q (r j i); count = λ j q. count_in (c j i) q };
    }

shows_fact : (d : Specification) (w : World) (r : Reads) (k : ℕ) (t : List ℕ) → Shows d w r → k < length d.relations → fits_places w (relation_places d k) t ≡ true → Shows d w (with_has r k t true)
shows_fact d w r k t s lt fit =
    let c = and_parts (lists_fit w d.relations s.state.relations) (values_fit w d.counters s.state.counters) s.fits in
    let in_range : k < length s.state.relations = omega (arith, lt, s.relations) in
    record {
      state = record { relations = with_at k t s.state.relations; counters = s.state.counters };
      fits = and_from _ _ (lists_at w d.relations s.state.relations k t c.0 fit) c.1;
      relations = with_at-length k t s.state.relations ∙ s.relations;
      counters = s.counters;
      reads_so = (λ i. record { has = λ j q. has_at k t s.state.relations j q in_range i; count = (reads s.state).count }) ∙ ap (λ (x : Reads). with_has x k t true) s.reads_so;
    }

shows_reading : (d : Specification) (w : World) (r : Reads) (k : ℕ) (t : List ℕ) (v : ℤ) → Shows d w r → k < length d.counters → fits_places w (counter_keys d k) t ≡ true → Shows d w (with_count r k t v)
shows_reading d w r k t v s lt fit =
    let c = and_parts (lists_fit w d.relations s.state.relations) (values_fit w d.counters s.state.counters) s.fits in
    let in_range : k < length s.state.counters = omega (arith, lt, s.counters) in
    record {
      state = record { relations = s.state.relations; counters = with_at k (t, v) s.state.counters };
      fits = and_from _ _ c.0 (values_at w d.counters s.state.counters k t v c.1 fit);
      relations = s.relations;
      counters = with_at-length k (t, v) s.state.counters ∙ s.counters;
      reads_so = (λ i. record { has = (reads s.state).has; count = λ j q. count_at k t v s.state.counters j q in_range i }) ∙ ap (λ (x : Reads). with_count x k t v) s.reads_so;
    }

-- ---- what a report shows fits

tuple_fits : (w : World) (ss t : List ℕ) → (tuple_words w ss).fits t ≡ true → fits_places w ss t ≡ true
tuple_fits w [] [] h = refl
tuple_fits w [] (x ∷ t) h = absurd (false≢true h)
tuple_fits w (s ∷ ss) [] h = absurd (false≢true h)
tuple_fits w (s ∷ ss) (x ∷ t) h =
    let c = and_parts ((element_format (size_of w s)).fits x) (list_fits (λ s. element_format (size_of w s)) ss t) h in
    let e = and_parts (leb x most_count) (ltb x (size_of w s)) c.0 in
    and_from _ _ e.1 (tuple_fits w ss t c.1)

shows_facts : (d : Specification) (w : World) (r : Reads) (last : Option Fact) (fs : List Fact) → Shows d w r → are_facts d w last fs ≡ true → Shows d w (with_facts r fs)
shows_facts d w r last [] s h = s
shows_facts d w r last (f ∷ fs) s h =
    let a = and_parts ((fact_format d w (relation_due last)).fits f && fact_behind last f) (are_facts d w (Some f) fs) h in
    let b = and_parts ((fact_format d w (relation_due last)).fits f) (fact_behind last f) a.0 in
    let c = and_parts ((among (relation_due last) (relation_names d)).fits f.relation) _ b.0 in
    let e = and_parts (leb (relation_due last) f.relation) (ltb f.relation (length (relation_names d))) c.0 in
    let lt = ltb-true f.relation (length (relation_names d)) e.1 in
    let many = length-map d.relations (λ r. r.name) in
    shows_facts d w (with_has r f.relation f.tuple true) (Some f) fs (shows_fact d w r f.relation f.tuple s (omega (arith, lt, many)) (tuple_fits w (relation_places d f.relation) f.tuple c.1)) a.1

shows_readings : (d : Specification) (w : World) (r : Reads) (last : Option Reading) (qs : List Reading) → Shows d w r → are_readings d w last qs ≡ true → Shows d w (with_readings r qs)
shows_readings d w r last [] s h = s
shows_readings d w r last (q ∷ qs) s h =
    let a = and_parts ((reading_format d w (counter_due last)).fits q && reading_behind last q) (are_readings d w (Some q) qs) h in
    let b = and_parts ((reading_format d w (counter_due last)).fits q) (reading_behind last q) a.0 in
    let c = and_parts ((among (counter_due last) (counter_names d)).fits q.counter) _ b.0 in
    let e = and_parts (leb (counter_due last) q.counter) (ltb q.counter (length (counter_names d))) c.0 in
    let k = and_parts ((tuple_words w (counter_keys d q.counter)).fits q.key) _ c.1 in
    let lt = ltb-true q.counter (length (counter_names d)) e.1 in
    let many = length-map d.counters (λ c. c.name) in
    shows_readings d w (with_count r q.counter q.key q.value) (Some q) qs (shows_reading d w r q.counter q.key q.value s (omega (arith, lt, many)) (tuple_fits w (counter_keys d q.counter) q.key k.0)) a.1

-- There is a state that reads as a witness shows that can stand in a report.
pub shown_state : (d : Specification) (ob : Obligation) (p : PartialWitness) (es : List ℕ) → is_witness d ob p es ≡ true → Shows d p.world (reads_of p)
shown_state d ob p es h =
    let a = and_parts (are_sizes d 0 p.world.sizes) _ h in
    let b = and_parts (are_consts d p.world 0 p.world.consts) _ a.1 in
    let f = and_parts (are_facts d p.world None p.facts) _ b.1 in
    let q = and_parts (are_readings d p.world None p.readings) (are_calls d ob 0 p.calls && are_elements d ob es) f.1 in
    shows_readings d p.world (with_facts nothing p.facts) None p.readings (shows_facts d p.world nothing None p.facts (shows_nothing d p.world) f.0) q.0
