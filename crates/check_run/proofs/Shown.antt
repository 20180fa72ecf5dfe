-- What is shown of a state reads as the state does.
use Rattle.std.proofs.Common.{◌≡◌, ℕ, zero, suc, ◌+◌, ◌<◌, ℤ, pos, Bool, true, false, cond, not, ◌&&◌, ◌||◌, ◌==◌, List, [], ◌∷◌, ◌++◌, map, get_or, refl, sym, ◌∙◌, ap, subst, arith}
use Rattle.std.specs.Str.{bytes_eq}
use Rattle.std.specs.List.{list_all, filter}
use Rattle.std.proofs.lemmas.Bool.{and_parts, and_from}
use Rattle.std.proofs.lemmas.Bool.Decides.{nat_tests}
use Rattle.std.proofs.lemmas.Int.{ints}
use Rattle.std.proofs.lemmas.List.{append-nil}
use Rattle.std.proofs.lemmas.Slice.Eq.{bytes_eq-Decides}
use Rattle.spec_core.specs.declared.spec.Relation.{Relation}
use Rattle.spec_core.specs.declared.spec.Counter.{Counter}
use Rattle.spec_core.specs.declared.world.World.{World}
use Rattle.spec_core.specs.Specification.{Specification}
use Rattle.spec_core.specs.State.{Reads, reads, is_in, count_in, listed_keys}
use Rattle.spec_core.specs.Truth.{int_eq}
use Rattle.spec_core.specs.Fits.{fits_places, lists_fit, values_fit, is_state}
use Rattle.spec_core.proofs.Members.{is_in-tuples}
use Rattle.spec_states.proofs.Rising.{is_in-filter}
use Rattle.spec_core.proofs.States.{list_all-is_in, list_all-from_is_in, by_key}
use Rattle.spec_core.specs.World.{tuples}
use Rattle.spec_states.proofs.Sameness.{unlisted}
use Rattle.obligation_list.specs.declared.obligation.Obligation.{Obligation}
use Rattle.obligation_list.specs.Breaking.{BreaksIn}
use Rattle.obligation_list.specs.Refuting.{IsRefutation}
use Rattle.obligation_list.specs.declared.witness.Witness.{Witness}
use Rattle.report_lines.specs.declared.witness.Fact.{Fact}
use Rattle.report_lines.specs.declared.witness.Reading.{Reading}
use Rattle.report_lines.specs.Witnesses.{is_other}
use Rattle.report_bytes.specs.Showing.{facts_from, readings_from, shown_by}
use Rattle.check_run.specs.Shown.{tuples_among, values_among, relations_from, counters_from, listing_of}

same_place : (k : ℕ) → (k == k) ≡ true
same_place k = grind (arith, nat_tests)

other_place : (j k : ℕ) → j < k → (j == k) ≡ false
other_place j k h = grind (arith, nat_tests)

other_place_back : (j k : ℕ) → j < k → (k == j) ≡ false
other_place_back j k h = grind (arith, nat_tests)

first_of_two : (a b : Bool) → (a && b) ≡ true → a ≡ true
first_of_two a b h = grind arith

passing_fit : (w : World) (places : List ℕ) (p : List ℕ → Bool) → list_all (fits_places w places) (filter p (tuples w places)) ≡ true
passing_fit w places p = list_all-from_is_in (fits_places w places) (filter p (tuples w places)) (λ q m. sym (is_in-tuples w places q) ∙ first_of_two (is_in q (tuples w places)) (p q) (sym (is_in-filter p (tuples w places) q) ∙ m))

-- ---- tuples

own_tuples : (k : ℕ) (ts : List (List ℕ)) (fs : List Fact) → tuples_among (map (λ t. record { relation = k; tuple = t }) ts ++ fs) k ≡ ts ++ tuples_among fs k
own_tuples k [] fs = refl
own_tuples k (t ∷ ts) fs = by_test (k == k) (same_place k) (own_tuples k ts fs)
  where
    rest : List Fact
    rest = filter (λ f. f.relation == k) (map (λ t. record { relation = k; tuple = t }) ts ++ fs)

    by_test : (b : Bool) → b ≡ true → map (λ f. f.tuple) rest ≡ ts ++ tuples_among fs k → map (λ f. f.tuple) (cond b (record { relation = k; tuple = t } ∷ rest) rest) ≡ t ∷ ts ++ tuples_among fs k
    by_test true e ih = ap (λ z. t ∷ z) ih
    by_test false e ih = absurd cc

other_tuples : (j k : ℕ) (ts : List (List ℕ)) (fs : List Fact) → (k == j) ≡ false → tuples_among (map (λ t. record { relation = k; tuple = t }) ts ++ fs) j ≡ tuples_among fs j
other_tuples j k [] fs h = refl
other_tuples j k (t ∷ ts) fs h = by_test (k == j) h (other_tuples j k ts fs h)
  where
    rest : List Fact
    rest = filter (λ f. f.relation == j) (map (λ t. record { relation = k; tuple = t }) ts ++ fs)

    by_test : (b : Bool) → b ≡ false → map (λ f. f.tuple) rest ≡ tuples_among fs j → map (λ f. f.tuple) (cond b (record { relation = k; tuple = t } ∷ rest) rest) ≡ tuples_among fs j
    by_test true e ih = absurd cc
    by_test false e ih = ih

-- facts of later relations aren't of this one
later_tuples : (w : World) (r : Reads) (j k : ℕ) (rs : List Relation) → j < k → tuples_among (facts_from w r k rs) j ≡ []
later_tuples w r j k [] h = refl
later_tuples w r j k (x ∷ rs) h = other_tuples j k (filter (r.has k) (tuples w x.places)) (facts_from w r (suc k) rs) (other_place_back j k h) ∙ later_tuples w r j (suc k) rs (omega arith)

skip_tuples : (j k : ℕ) (rs : List Relation) (ts : List (List ℕ)) (fs : List Fact) → k < j → relations_from j rs (map (λ t. record { relation = k; tuple = t }) ts ++ fs) ≡ relations_from j rs fs
skip_tuples j k [] ts fs h = refl
skip_tuples j k (r ∷ rs) ts fs h = ap (λ z. z ∷ relations_from (suc j) rs (map (λ t. record { relation = k; tuple = t }) ts ++ fs)) (other_tuples j k ts fs (other_place k j h)) ∙ ap (λ z. tuples_among fs j ∷ z) (skip_tuples (suc j) k rs ts fs (omega arith))

-- the tuples of a world that read true, relation by relation
abbrev true_tuples : World → Reads → ℕ → List Relation → List (List (List ℕ))
true_tuples w r k [] = []
true_tuples w r k (x ∷ rs) = filter (r.has k) (tuples w x.places) ∷ true_tuples w r (suc k) rs

relations_back : (w : World) (r : Reads) (k : ℕ) (rs : List Relation) → relations_from k rs (facts_from w r k rs) ≡ true_tuples w r k rs
relations_back w r k [] = refl
relations_back w r k (x ∷ rs) =
    let own : List (List ℕ) = filter (r.has k) (tuples w x.places) in
    let first : tuples_among (facts_from w r k (x ∷ rs)) k ≡ own = own_tuples k own (facts_from w r (suc k) rs) ∙ ap (λ z. own ++ z) (later_tuples w r k (suc k) rs (omega arith)) ∙ append-nil own in
    let rest : relations_from (suc k) rs (facts_from w r k (x ∷ rs)) ≡ true_tuples w r (suc k) rs = skip_tuples (suc k) k rs own (facts_from w r (suc k) rs) (omega arith) ∙ relations_back w r (suc k) rs in
    ap (λ z. z ∷ relations_from (suc k) rs (facts_from w r k (x ∷ rs))) first ∙ ap (λ z. own ∷ z) rest

-- they are those that a state lists
has_back : (w : World) (r : Reads) (rs : List Relation) (ls : List (List (List ℕ))) (from : ℕ) → lists_fit w rs ls ≡ true
    → ((n j : ℕ) (q : List ℕ) → n ≡ from + j → r.has n q ≡ is_in q (get_or ls j [])) → (j : ℕ) (q : List ℕ) → is_in q (get_or (true_tuples w r from rs) j []) ≡ is_in q (get_or ls j [])
has_back w r [] [] from fit e j q = refl
has_back w r [] (l ∷ ls) from fit e j q = absurd cc
has_back w r (x ∷ rs) [] from fit e j q = absurd cc
has_back w r (x ∷ rs) (l ∷ ls) from fit e zero q =
    let a = and_parts (list_all (λ t. fits_places w x.places t) l) (lists_fit w rs ls) fit in
    let here : r.has from q ≡ is_in q l = e from 0 q (let z : from ≡ from + 0 = omega arith in z) in
    is_in-filter (r.has from) (tuples w x.places) q
    ∙ (λ i. is_in-tuples w x.places q i && here i)
    ∙ listed (is_in q l) (fits_places w x.places q) (λ m. list_all-is_in (λ t. fits_places w x.places t) l q a.0 m)
  where
    listed : (a b : Bool) → (a ≡ true → b ≡ true) → (b && a) ≡ a
    listed a b h = grind arith
has_back w r (x ∷ rs) (l ∷ ls) from fit e (suc j) q =
    has_back w r rs ls (suc from) (and_parts (list_all (λ t. fits_places w x.places t) l) (lists_fit w rs ls) fit).1 (λ n i q k. e n (suc i) q (let z : n ≡ from + suc i = omega (arith, k) in z)) j q

true_fit : (w : World) (r : Reads) (k : ℕ) (rs : List Relation) → lists_fit w rs (true_tuples w r k rs) ≡ true
true_fit w r k [] = refl
true_fit w r k (x ∷ rs) = and_from (list_all (λ t. fits_places w x.places t) (filter (r.has k) (tuples w x.places))) _ (passing_fit w x.places (r.has k)) (true_fit w r (suc k) rs)

-- ---- values

own_values : (k : ℕ) (f : List ℕ → ℤ) (ts : List (List ℕ)) (rs : List Reading) → values_among (map (λ t. record { counter = k; key = t; value = f t }) ts ++ rs) k ≡ map (λ t. (t, f t)) ts ++ values_among rs k
own_values k f [] rs = refl
own_values k f (t ∷ ts) rs = by_test (k == k) (same_place k) (own_values k f ts rs)
  where
    rest : List Reading
    rest = filter (λ r. r.counter == k) (map (λ t. record { counter = k; key = t; value = f t }) ts ++ rs)

    by_test : (b : Bool) → b ≡ true → map (λ r. (r.key, r.value)) rest ≡ map (λ t. (t, f t)) ts ++ values_among rs k → map (λ r. (r.key, r.value)) (cond b (record { counter = k; key = t; value = f t } ∷ rest) rest) ≡ (t, f t) ∷ map (λ t. (t, f t)) ts ++ values_among rs k
    by_test true e ih = ap (λ z. (t, f t) ∷ z) ih
    by_test false e ih = absurd cc

other_values : (j k : ℕ) (f : List ℕ → ℤ) (ts : List (List ℕ)) (rs : List Reading) → (k == j) ≡ false → values_among (map (λ t. record { counter = k; key = t; value = f t }) ts ++ rs) j ≡ values_among rs j
other_values j k f [] rs h = refl
other_values j k f (t ∷ ts) rs h = by_test (k == j) h (other_values j k f ts rs h)
  where
    rest : List Reading
    rest = filter (λ r. r.counter == j) (map (λ t. record { counter = k; key = t; value = f t }) ts ++ rs)

    by_test : (b : Bool) → b ≡ false → map (λ r. (r.key, r.value)) rest ≡ values_among rs j → map (λ r. (r.key, r.value)) (cond b (record { counter = k; key = t; value = f t } ∷ rest) rest) ≡ values_among rs j
    by_test true e ih = absurd cc
    by_test false e ih = ih

-- the keys of a world whose values aren't 0
abbrev kept : World → Reads → ℕ → Counter → List (List ℕ)
kept w r k c = filter (λ t. is_other (r.count k t)) (tuples w c.keys)

later_values : (w : World) (r : Reads) (j k : ℕ) (cs : List Counter) → j < k → values_among (readings_from w r k cs) j ≡ []
later_values w r j k [] h = refl
later_values w r j k (c ∷ cs) h = other_values j k (r.count k) (kept w r k c) (readings_from w r (suc k) cs) (other_place_back j k h) ∙ later_values w r j (suc k) cs (omega arith)

skip_values : (j k : ℕ) (cs : List Counter) (f : List ℕ → ℤ) (ts : List (List ℕ)) (rs : List Reading) → k < j → counters_from j cs (map (λ t. record { counter = k; key = t; value = f t }) ts ++ rs) ≡ counters_from j cs rs
skip_values j k [] f ts rs h = refl
skip_values j k (c ∷ cs) f ts rs h = ap (λ z. z ∷ counters_from (suc j) cs (map (λ t. record { counter = k; key = t; value = f t }) ts ++ rs)) (other_values j k f ts rs (other_place k j h)) ∙ ap (λ z. values_among rs j ∷ z) (skip_values (suc j) k cs f ts rs (omega arith))

-- these keys with their values, counter by counter
abbrev kept_values : World → Reads → ℕ → List Counter → List (List (List ℕ × ℤ))
kept_values w r k [] = []
kept_values w r k (c ∷ cs) = map (λ t. (t, r.count k t)) (kept w r k c) ∷ kept_values w r (suc k) cs

counters_back : (w : World) (r : Reads) (k : ℕ) (cs : List Counter) → counters_from k cs (readings_from w r k cs) ≡ kept_values w r k cs
counters_back w r k [] = refl
counters_back w r k (c ∷ cs) =
    let own : List (List ℕ × ℤ) = map (λ t. (t, r.count k t)) (kept w r k c) in
    let first : values_among (readings_from w r k (c ∷ cs)) k ≡ own = own_values k (r.count k) (kept w r k c) (readings_from w r (suc k) cs) ∙ ap (λ z. own ++ z) (later_values w r k (suc k) cs (omega arith)) ∙ append-nil own in
    let rest : counters_from (suc k) cs (readings_from w r k (c ∷ cs)) ≡ kept_values w r (suc k) cs = skip_values (suc k) k cs (r.count k) (kept w r k c) (readings_from w r (suc k) cs) (omega arith) ∙ counters_back w r (suc k) cs in
    ap (λ z. z ∷ counters_from (suc k) cs (readings_from w r k (c ∷ cs))) first ∙ ap (λ z. own ∷ z) rest

zero_value : (n : ℤ) → is_other n ≡ false → n ≡ pos 0
zero_value n h = is_zero (int_eq n (pos 0)) refl h
  where
    same : (a : ℤ) → int_eq a (pos 0) ≡ true → a ≡ pos 0
    same a h = grind (arith, ints)

    is_zero : (b : Bool) → int_eq n (pos 0) ≡ b → not b ≡ false → n ≡ pos 0
    is_zero true e h = same n e
    is_zero false e h = absurd cc

-- the value at a key among those of a function
count_in-map : (f : List ℕ → ℤ) (ts : List (List ℕ)) (q : List ℕ) → count_in (map (λ t. (t, f t)) ts) q ≡ cond (is_in q ts) (f q) (pos 0)
count_in-map f [] q = refl
count_in-map f (t ∷ ts) q = by_test (bytes_eq q t) refl (count_in-map f ts q)
  where
    by_test : (b : Bool) → bytes_eq q t ≡ b → count_in (map (λ t. (t, f t)) ts) q ≡ cond (is_in q ts) (f q) (pos 0) → cond b (f t) (count_in (map (λ t. (t, f t)) ts) q) ≡ cond (b || is_in q ts) (f q) (pos 0)
    by_test true e ih = ap f (sym ((bytes_eq-Decides q t).0 e))
    by_test false e ih = ih

-- they are those that a state lists
count_back : (w : World) (r : Reads) (cs : List Counter) (ls : List (List (List ℕ × ℤ))) (from : ℕ) → values_fit w cs ls ≡ true
    → ((n j : ℕ) (q : List ℕ) → n ≡ from + j → r.count n q ≡ count_in (get_or ls j []) q) → (j : ℕ) (q : List ℕ) → count_in (get_or (kept_values w r from cs) j []) q ≡ count_in (get_or ls j []) q
count_back w r [] [] from fit e j q = refl
count_back w r [] (l ∷ ls) from fit e j q = absurd cc
count_back w r (c ∷ cs) [] from fit e j q = absurd cc
count_back w r (c ∷ cs) (l ∷ ls) from fit e zero q =
    let a = and_parts (list_all (λ (e : List ℕ × ℤ). fits_places w c.keys e.0) l) (values_fit w cs ls) fit in
    let here : r.count from q ≡ count_in l q = e from 0 q (let z : from ≡ from + 0 = omega arith in z) in
    let keys : list_all (fits_places w c.keys) (listed_keys l) ≡ true = sym (by_key w c.keys l) ∙ a.0 in
    count_in-map (r.count from) (kept w r from c) q
    ∙ ap (λ b. cond b (r.count from q) (pos 0)) (is_in-filter (λ t. is_other (r.count from t)) (tuples w c.keys) q ∙ ap (λ b. b && is_other (r.count from q)) (is_in-tuples w c.keys q))
    ∙ by_tests (fits_places w c.keys q) refl (is_other (r.count from q)) refl here keys
  where
    by_tests : (b : Bool) → fits_places w c.keys q ≡ b → (o : Bool) → is_other (r.count from q) ≡ o → r.count from q ≡ count_in l q → list_all (fits_places w c.keys) (listed_keys l) ≡ true → cond (b && o) (r.count from q) (pos 0) ≡ count_in l q
    by_tests true f true g h k = h
    by_tests true f false g h k = sym (zero_value (r.count from q) g) ∙ h
    by_tests false f o g h k = sym (unlisted l q (absent (is_in q (listed_keys l)) (λ m. sym f ∙ list_all-is_in (fits_places w c.keys) (listed_keys l) q k m)))
      where
        absent : (a : Bool) → (a ≡ true → false ≡ true) → a ≡ false
        absent a h = grind arith
count_back w r (c ∷ cs) (l ∷ ls) from fit e (suc j) q =
    count_back w r cs ls (suc from) (and_parts (list_all (λ (e : List ℕ × ℤ). fits_places w c.keys e.0) l) (values_fit w cs ls) fit).1 (λ n i q k. e n (suc i) q (let z : n ≡ from + suc i = omega (arith, k) in z)) j q

pairs_fit : (w : World) (keys : List ℕ) (f : List ℕ → ℤ) (ts : List (List ℕ)) → list_all (fits_places w keys) ts ≡ true → list_all (λ (e : List ℕ × ℤ). fits_places w keys e.0) (map (λ t. (t, f t)) ts) ≡ true
pairs_fit w keys f [] h = refl
pairs_fit w keys f (t ∷ ts) h = (let a = and_parts (fits_places w keys t) (list_all (fits_places w keys) ts) h in and_from (fits_places w keys t) _ a.0 (pairs_fit w keys f ts a.1))

kept_fit : (w : World) (r : Reads) (k : ℕ) (cs : List Counter) → values_fit w cs (kept_values w r k cs) ≡ true
kept_fit w r k [] = refl
kept_fit w r k (c ∷ cs) =
    and_from (list_all (λ (e : List ℕ × ℤ). fits_places w c.keys e.0) (map (λ t. (t, r.count k t)) (kept w r k c))) _
    (pairs_fit w c.keys (r.count k) (kept w r k c) (passing_fit w c.keys (λ t. is_other (r.count k t))))
    (kept_fit w r (suc k) cs)

-- ---- witnesses

module _ (d : Specification) (w : Witness) (fit : is_state d w.world w.state ≡ true) where
  abbrev r : Reads
  r = reads w.state

  parts : (lists_fit w.world d.relations w.state.relations ≡ true) × (values_fit w.world d.counters w.state.counters ≡ true)
  parts = and_parts (lists_fit w.world d.relations w.state.relations) (values_fit w.world d.counters w.state.counters) fit

  shown_is : listing_of d (shown_by d w) ≡ record { relations = true_tuples w.world r 0 d.relations; counters = kept_values w.world r 0 d.counters }
  shown_is = λ i. record { relations = relations_back w.world r 0 d.relations i; counters = counters_back w.world r 0 d.counters i }

  same_at : (n j : ℕ) → n ≡ 0 + j → n ≡ j
  same_at n j e = omega (arith, e)

  shown_reads : reads (listing_of d (shown_by d w)) ≡ r
  shown_reads = ap reads shown_is ∙ (λ i. record {
    has = λ k q. has_back w.world r d.relations w.state.relations 0 parts.0 (λ n j q e. ap (λ m. is_in q (get_or w.state.relations m [])) (same_at n j e)) k q i;
    count = λ k q. count_back w.world r d.counters w.state.counters 0 parts.1 (λ n j q e. ap (λ m. count_in (get_or w.state.counters m []) q) (same_at n j e)) k q i;
  })

  shown_fits : is_state d w.world (listing_of d (shown_by d w)) ≡ true
  shown_fits = ap (is_state d w.world) shown_is ∙ and_from (lists_fit w.world d.relations (true_tuples w.world r 0 d.relations)) _ (true_fit w.world r 0 d.relations) (kept_fit w.world r 0 d.counters)

  -- what is shown of a witness refutes what the witness refutes
  pub shown_refutes : (ob : Obligation) → IsRefutation d ob w.world w.state w.calls w.elements → IsRefutation d ob w.world (listing_of d (shown_by d w)) w.calls w.elements
  shown_refutes ob h = record {
    breaks = record {
      world = h.breaks.world;
      state = shown_fits;
      elements = h.breaks.elements;
      broken = subst (λ z. BreaksIn d ob w.world z w.calls w.elements) (sym shown_reads) h.breaks.broken;
    };
    sizes = h.sizes;
    numbers = h.numbers;
  }
