-- The state that a witness shows reads as is shown of it.
use Rattle.std.proofs.Common.{◌≡◌, ℕ, zero, suc, ◌+◌, ◌<◌, ◌≤◌, ℤ, pos, Bool, true, false, cond, ◌&&◌, ◌||◌, ◌==◌, List, [], ◌∷◌, ◌++◌, length, map, get_or, refl, sym, ◌∙◌, ap, arith}
use Rattle.std.specs.Str.{bytes_eq}
use Rattle.std.specs.List.{filter}
use Rattle.std.proofs.lemmas.Bool.{eqb-true, ne_eqb}
use Rattle.std.proofs.lemmas.Bool.Decides.{nat_tests}
use Rattle.std.proofs.lemmas.Slice.Eq.{bytes_eq-Decides}
use Rattle.spec_core.specs.declared.spec.Relation.{Relation}
use Rattle.spec_core.specs.declared.spec.Counter.{Counter}
use Rattle.spec_core.specs.declared.world.World.{World}
use Rattle.spec_core.specs.Specification.{Specification}
use Rattle.spec_core.specs.State.{Reads, reads, nothing, with_has, with_count, is_in, count_in}
use Rattle.spec_core.specs.World.{tuples}
use Rattle.obligation_list.specs.declared.witness.Witness.{Witness}
use Rattle.report_lines.specs.declared.witness.Fact.{Fact}
use Rattle.report_lines.specs.declared.witness.Reading.{Reading}
use Rattle.report_lines.specs.Witnesses.{is_other}
use Rattle.report_reader.specs.Reader.{with_facts, with_readings, reads_of}
use Rattle.report_bytes.specs.Showing.{fact_of, reading_of, facts_from, readings_from, shown_by}
use Rattle.check_run.specs.Shown.{tuples_among, values_among, relations_from, counters_from, listing_of}

-- ---- lists

abbrev AllOf : {A : Type 0} → (A → Type 0) → List A → Type 0
AllOf P [] = Unit {0}
AllOf P (x ∷ xs) = P x × AllOf P xs

all_mapped : {A B : Type 0} (P : B → Type 0) (f : A → B) (ys : List B) → ((a : A) → P (f a)) → AllOf P ys → (xs : List A) → AllOf P (map f xs ++ ys)
all_mapped P f ys h k [] = k
all_mapped P f ys h k (x ∷ xs) = (h x, all_mapped P f ys h k xs)

either_way : (a b : ℕ) → (a == b) ≡ (b == a)
either_way a b = grind (arith, nat_tests)

or_none : (a : Bool) → (a || false) ≡ a
or_none true = refl
or_none false = refl

put_first : (x e h : Bool) → (x || cond e true h) ≡ ((e || x) || h)
put_first true true h = refl
put_first true false h = refl
put_first false true h = refl
put_first false false h = refl

beyond : (a n j : ℕ) → a < n → n ≤ j → (a == j) ≡ false
beyond a n j h k = ne_eqb a j (λ e. omega (arith, e, h, k))

-- ---- facts

facts_has : (r : Reads) (fs : List Fact) (j : ℕ) (q : List ℕ) → (with_facts r fs).has j q ≡ (is_in q (tuples_among fs j) || r.has j q)
facts_has r [] j q = refl
facts_has r (f ∷ fs) j q = facts_has (with_has r f.relation f.tuple true) fs j q ∙ by_test (j == f.relation) (f.relation == j) (either_way j f.relation)
  where
    rest : List Fact
    rest = filter (λ f. f.relation == j) fs

    by_test : (a b : Bool) → a ≡ b → (is_in q (tuples_among fs j) || cond (a && bytes_eq q f.tuple) true (r.has j q)) ≡ (is_in q (map (λ f. f.tuple) (cond b (f ∷ rest) rest)) || r.has j q)
    by_test true true e = put_first (is_in q (tuples_among fs j)) (bytes_eq q f.tuple) (r.has j q)
    by_test true false e = absurd cc
    by_test false true e = absurd cc
    by_test false false e = refl

tuples_none : (n : ℕ) (fs : List Fact) → AllOf (λ f. f.relation < n) fs → (j : ℕ) → n ≤ j → tuples_among fs j ≡ []
tuples_none n [] h j k = refl
tuples_none n (f ∷ fs) h j k = by_test (f.relation == j) (beyond f.relation n j h.0 k) (tuples_none n fs h.1 j k)
  where
    rest : List Fact
    rest = filter (λ f. f.relation == j) fs

    by_test : (b : Bool) → b ≡ false → map (λ f. f.tuple) rest ≡ [] → map (λ f. f.tuple) (cond b (f ∷ rest) rest) ≡ []
    by_test true e ih = absurd cc
    by_test false e ih = ih

relation_at : (n : ℕ) (fs : List Fact) → AllOf (λ f. f.relation < n) fs → (k : ℕ) (rs : List Relation) (j m : ℕ) → n ≤ k + length rs → m ≡ k + j → get_or (relations_from k rs fs) j [] ≡ tuples_among fs m
relation_at n fs h k [] j m a e = sym (tuples_none n fs h m (let z : n ≤ m = omega (arith, a, e) in z))
relation_at n fs h k (r ∷ rs) zero m a e = ap (tuples_among fs) (let z : k ≡ m = omega (arith, e) in z)
relation_at n fs h k (r ∷ rs) (suc j) m a e = relation_at n fs h (suc k) rs j m (let z : n ≤ suc k + length rs = omega (arith, a) in z) (let z : m ≡ suc k + j = omega (arith, e) in z)

facts_count : (r : Reads) (fs : List Fact) → (with_facts r fs).count ≡ r.count
facts_count r [] = refl
facts_count r (f ∷ fs) = facts_count (with_has r f.relation f.tuple true) fs

-- ---- values

abbrev keys_among : List Reading → ℕ → List (List ℕ)
keys_among rs k = map (λ r. r.key) (filter (λ r. r.counter == k) rs)

-- a value is that of a reading
abbrev IsOf : Reads → Reading → Type 0
IsOf s q = q.value ≡ s.count q.counter q.key

same_value : (s : Reads) (q : Reading) (j : ℕ) (t : List ℕ) → IsOf s q → (q.counter == j) ≡ true → bytes_eq t q.key ≡ true → q.value ≡ s.count j t
same_value s q j t h a b =
    let c : q.counter ≡ j = eqb-true q.counter j a in
    let k : t ≡ q.key = (bytes_eq-Decides t q.key).0 b in
    h ∙ (λ i. s.count (c i) (sym k i))

readings_count : (s r : Reads) (qs : List Reading) → AllOf (IsOf s) qs → (j : ℕ) (t : List ℕ) → (with_readings r qs).count j t ≡ cond (is_in t (keys_among qs j)) (s.count j t) (r.count j t)
readings_count s r [] h j t = refl
readings_count s r (q ∷ qs) h j t =
    readings_count s (with_count r q.counter q.key q.value) qs h.1 j t
    ∙ by_test (j == q.counter) (q.counter == j) (either_way j q.counter) refl
  where
    rest : List Reading
    rest = filter (λ r. r.counter == j) qs

    by_keys : (e : Bool) → bytes_eq t q.key ≡ e → (q.counter == j) ≡ true → (x : Bool) → cond x (s.count j t) (cond e q.value (r.count j t)) ≡ cond (e || x) (s.count j t) (r.count j t)
    by_keys true f g true = refl
    by_keys true f g false = same_value s q j t h.0 g f
    by_keys false f g true = refl
    by_keys false f g false = refl

    by_test : (a b : Bool) → a ≡ b → (q.counter == j) ≡ b
        → cond (is_in t (keys_among qs j)) (s.count j t) (cond (a && bytes_eq t q.key) q.value (r.count j t)) ≡ cond (is_in t (map (λ r. r.key) (cond b (q ∷ rest) rest))) (s.count j t) (r.count j t)
    by_test true true e g = by_keys (bytes_eq t q.key) refl g (is_in t (keys_among qs j))
    by_test true false e g = absurd cc
    by_test false true e g = absurd cc
    by_test false false e g = refl

listed_count : (s : Reads) (qs : List Reading) → AllOf (IsOf s) qs → (j : ℕ) (t : List ℕ) → count_in (values_among qs j) t ≡ cond (is_in t (keys_among qs j)) (s.count j t) (pos 0)
listed_count s [] h j t = refl
listed_count s (q ∷ qs) h j t = by_test (q.counter == j) refl (listed_count s qs h.1 j t)
  where
    rest : List Reading
    rest = filter (λ r. r.counter == j) qs

    by_keys : (e : Bool) → bytes_eq t q.key ≡ e → (q.counter == j) ≡ true → count_in (values_among qs j) t ≡ cond (is_in t (keys_among qs j)) (s.count j t) (pos 0)
        → cond e q.value (count_in (values_among qs j) t) ≡ cond (e || is_in t (keys_among qs j)) (s.count j t) (pos 0)
    by_keys true f g ih = same_value s q j t h.0 g f
    by_keys false f g ih = ih

    by_test : (b : Bool) → (q.counter == j) ≡ b → count_in (values_among qs j) t ≡ cond (is_in t (keys_among qs j)) (s.count j t) (pos 0)
        → count_in (map (λ r. (r.key, r.value)) (cond b (q ∷ rest) rest)) t ≡ cond (is_in t (map (λ r. r.key) (cond b (q ∷ rest) rest))) (s.count j t) (pos 0)
    by_test true g ih = by_keys (bytes_eq t q.key) refl g ih
    by_test false g ih = ih

values_none : (n : ℕ) (qs : List Reading) → AllOf (λ q. q.counter < n) qs → (j : ℕ) → n ≤ j → values_among qs j ≡ []
values_none n [] h j k = refl
values_none n (q ∷ qs) h j k = by_test (q.counter == j) (beyond q.counter n j h.0 k) (values_none n qs h.1 j k)
  where
    rest : List Reading
    rest = filter (λ r. r.counter == j) qs

    by_test : (b : Bool) → b ≡ false → map {B = List ℕ × ℤ} (λ r. (r.key, r.value)) rest ≡ [] → map {B = List ℕ × ℤ} (λ r. (r.key, r.value)) (cond b (q ∷ rest) rest) ≡ []
    by_test true e ih = absurd cc
    by_test false e ih = ih

counter_at : (n : ℕ) (qs : List Reading) → AllOf (λ q. q.counter < n) qs → (k : ℕ) (cs : List Counter) (j m : ℕ) → n ≤ k + length cs → m ≡ k + j → get_or (counters_from k cs qs) j [] ≡ values_among qs m
counter_at n qs h k [] j m a e = sym (values_none n qs h m (let z : n ≤ m = omega (arith, a, e) in z))
counter_at n qs h k (c ∷ cs) zero m a e = ap (values_among qs) (let z : k ≡ m = omega (arith, e) in z)
counter_at n qs h k (c ∷ cs) (suc j) m a e = counter_at n qs h (suc k) cs j m (let z : n ≤ suc k + length cs = omega (arith, a) in z) (let z : m ≡ suc k + j = omega (arith, e) in z)

readings_has : (r : Reads) (qs : List Reading) → (with_readings r qs).has ≡ r.has
readings_has r [] = refl
readings_has r (q ∷ qs) = readings_has (with_count r q.counter q.key q.value) qs

-- ---- what is shown of a witness

facts_within : (w : World) (r : Reads) (n k : ℕ) (rs : List Relation) → k + length rs ≤ n → AllOf (λ f. f.relation < n) (facts_from w r k rs)
facts_within w r n k [] h = tt
facts_within w r n k (x ∷ rs) h =
    let here : k < n = omega (arith, h) in
    let more : suc k + length rs ≤ n = omega (arith, h) in
    all_mapped (λ f. f.relation < n) (fact_of k) (facts_from w r (suc k) rs) (λ t. here) (facts_within w r n (suc k) rs more) (filter (r.has k) (tuples w x.places))

readings_within : (w : World) (r : Reads) (n k : ℕ) (cs : List Counter) → k + length cs ≤ n → AllOf (λ q. q.counter < n) (readings_from w r k cs)
readings_within w r n k [] h = tt
readings_within w r n k (c ∷ cs) h =
    let here : k < n = omega (arith, h) in
    let more : suc k + length cs ≤ n = omega (arith, h) in
    all_mapped (λ q. q.counter < n) (reading_of r k) (readings_from w r (suc k) cs) (λ t. here) (readings_within w r n (suc k) cs more) (filter (λ t. is_other (r.count k t)) (tuples w c.keys))

readings_of : (w : World) (r : Reads) (k : ℕ) (cs : List Counter) → AllOf (IsOf r) (readings_from w r k cs)
readings_of w r k [] = tt
readings_of w r k (c ∷ cs) = all_mapped (IsOf r) (reading_of r k) (readings_from w r (suc k) cs) (λ t. refl) (readings_of w r (suc k) cs) (filter (λ t. is_other (r.count k t)) (tuples w c.keys))

module _ (d : Specification) (w : Witness) where
  abbrev r : Reads
  r = reads w.state

  abbrev fs : List Fact
  fs = facts_from w.world r 0 d.relations

  abbrev qs : List Reading
  qs = readings_from w.world r 0 d.counters

  relations_so : (k : ℕ) (q : List ℕ) → is_in q (get_or (relations_from 0 d.relations fs) k []) ≡ (with_readings (with_facts nothing fs) qs).has k q
  relations_so k q =
      let n : ℕ = length d.relations in
      let within : 0 + length d.relations ≤ n = omega arith in
      let most : n ≤ 0 + length d.relations = omega arith in
      let place : k ≡ 0 + k = omega arith in
      ap (is_in q) (relation_at n fs (facts_within w.world r n 0 d.relations within) 0 d.relations k k most place)
      ∙ sym (facts_has nothing fs k q ∙ or_none (is_in q (tuples_among fs k)))
      ∙ ap (λ (h : ℕ → List ℕ → Bool). h k q) (sym (readings_has (with_facts nothing fs) qs))

  counters_so : (k : ℕ) (q : List ℕ) → count_in (get_or (counters_from 0 d.counters qs) k []) q ≡ (with_readings (with_facts nothing fs) qs).count k q
  counters_so k q =
      let n : ℕ = length d.counters in
      let within : 0 + length d.counters ≤ n = omega arith in
      let most : n ≤ 0 + length d.counters = omega arith in
      let place : k ≡ 0 + k = omega arith in
      let so : AllOf (IsOf r) qs = readings_of w.world r 0 d.counters in
      ap (λ (l : List (List ℕ × ℤ)). count_in l q) (counter_at n qs (readings_within w.world r n 0 d.counters within) 0 d.counters k k most place)
      ∙ listed_count r qs so k q
      ∙ ap (λ (z : ℤ). cond (is_in q (keys_among qs k)) (r.count k q) z) (ap (λ (c : ℕ → List ℕ → ℤ). c k q) (sym (facts_count nothing fs)))
      ∙ sym (readings_count r (with_facts nothing fs) qs so k q)

  pub shown_reads : reads (listing_of d (shown_by d w)) ≡ reads_of (shown_by d w)
  shown_reads = λ i. record { has = λ k q. relations_so k q i; count = λ k q. counters_so k q i }
