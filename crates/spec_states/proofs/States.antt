-- States with one list changed, as they begin, and with nothing listed: how they read, and that they fit.
use Rattle.std.proofs.Common.{◌≡◌, ℕ, zero, suc, ◌≤◌, ℤ, pos, unsigned_abs, Bool, true, false, cond, ◌||◌, List, [], ◌∷◌, length, map, get_or, set, replicate, refl, sym, ◌∙◌, ap, arith}
use Rattle.std.proofs.lemmas.Bool.Decides.{nat_tests}
use Rattle.std.proofs.lemmas.Slice.Eq.{bytes_eq-Decides}
use Rattle.std.specs.Str.{bytes_eq}
use Rattle.std.specs.List.{AllZip, list_all}
use Rattle.spec_core.specs.declared.spec.Relation.{Relation}
use Rattle.spec_core.specs.declared.spec.Counter.{Counter}
use Rattle.spec_core.specs.declared.world.World.{World}
use Rattle.spec_core.specs.Limits.{greatest_value}
use Rattle.spec_core.specs.Specification.{Specification, no_relation, no_counter, relation_places, counter_keys}
use Rattle.spec_core.specs.State.{Listing, reads, nothing, is_in, count_in, listed_keys, is_rising}
use Rattle.spec_core.specs.World.{tuples}
use Rattle.spec_core.specs.Meaning.{initial}
use Rattle.spec_states.specs.Starting.{StartsAs, CountsAs}
use Rattle.spec_core.specs.Fits.{fits_places, lists_fit, values_fit, is_state, in_state_range, is_counts, is_listing}
use Rattle.std.proofs.lemmas.Bool.{and_parts, and_from}
use Rattle.spec_core.proofs.Lists.{list_all-get_or}
use Rattle.spec_core.proofs.States.{by_key, count_in_range, list_all-from_is_in, lists_fit-at, tuples_fit, values_fit-at}

pub list_all-set : {X : Type 0} (p : X → Bool) (xs : List X) (i : ℕ) (y : X) → list_all p xs ≡ true → p y ≡ true → list_all p (set xs i y) ≡ true
list_all-set p [] i y h k = refl
list_all-set p (x ∷ xs) zero y h k = and_from (p y) (list_all p xs) k (and_parts (p x) (list_all p xs) h).1
list_all-set p (x ∷ xs) (suc i) y h k = let a = and_parts (p x) (list_all p xs) h in and_from (p x) (list_all p (set xs i y)) a.0 (list_all-set p xs i y a.1 k)

-- ---- values in range

pub reading_in_range : (s : Listing) → is_listing s ≡ true → (k : ℕ) (t : List ℕ) → unsigned_abs ((reads s).count k t) ≤ greatest_value
reading_in_range s h k t =
    let a : is_counts (get_or s.counters k []) ≡ true = list_all-get_or is_counts s.counters (and_parts _ _ h).1 k [] refl in
    let b : in_state_range ((reads s).count k t) ≡ true = count_in_range (get_or s.counters k []) t (and_parts _ _ a).1 in
    grind (arith, nat_tests)

-- ---- states that fit

pub lists_fit-set : (w : World) (rs : List Relation) (ls : List (List (List ℕ))) (k : ℕ) (ts : List (List ℕ)) → lists_fit w rs ls ≡ true
    → ((q : List ℕ) → is_in q ts ≡ true → fits_places w (get_or rs k no_relation).places q ≡ true) → lists_fit w rs (set ls k ts) ≡ true
lists_fit-set w [] [] k ts h p = refl
lists_fit-set w [] (l ∷ ls) k ts h p = absurd cc
lists_fit-set w (r ∷ rs) [] k ts h p = absurd cc
lists_fit-set w (r ∷ rs) (l ∷ ls) zero ts h p = and_from _ _ (list_all-from_is_in (λ tuple. fits_places w r.places tuple) ts p) (and_parts _ _ h).1
lists_fit-set w (r ∷ rs) (l ∷ ls) (suc k) ts h p = and_from _ _ (and_parts _ _ h).0 (lists_fit-set w rs ls k ts (and_parts _ _ h).1 p)

pub values_fit-set : (w : World) (cs : List Counter) (ls : List (List (List ℕ × ℤ))) (k : ℕ) (es : List (List ℕ × ℤ)) → values_fit w cs ls ≡ true
    → ((q : List ℕ) → is_in q (listed_keys es) ≡ true → fits_places w (get_or cs k no_counter).keys q ≡ true) → values_fit w cs (set ls k es) ≡ true
values_fit-set w [] [] k es h p = refl
values_fit-set w [] (l ∷ ls) k es h p = absurd cc
values_fit-set w (c ∷ cs) [] k es h p = absurd cc
values_fit-set w (c ∷ cs) (l ∷ ls) zero es h p = and_from _ _ (by_key w c.keys es ∙ list_all-from_is_in (fits_places w c.keys) (listed_keys es) p) (and_parts _ _ h).1
values_fit-set w (c ∷ cs) (l ∷ ls) (suc k) es h p = and_from _ _ (and_parts _ _ h).0 (values_fit-set w cs ls k es (and_parts _ _ h).1 p)

-- one list changed
listed_fits : (w : World) (rs : List Relation) (ls : List (List (List ℕ))) (k : ℕ) (t : List ℕ) (b : Bool) (q : List ℕ) → lists_fit w rs ls ≡ true → fits_places w (get_or rs k no_relation).places t ≡ true
    → (x : Bool) → bytes_eq q t ≡ x → cond x b (is_in q (get_or ls k [])) ≡ true → fits_places w (get_or rs k no_relation).places q ≡ true
listed_fits w rs ls k t b q h p true e m = ap (fits_places w (get_or rs k no_relation).places) ((bytes_eq-Decides q t).0 e) ∙ p
listed_fits w rs ls k t b q h p false e m = lists_fit-at w rs ls k q h m

pub state_with_tuples : (d : Specification) (w : World) (s : Listing) (k : ℕ) (t : List ℕ) (b : Bool) (ts : List (List ℕ)) → ((q : List ℕ) → is_in q ts ≡ cond (bytes_eq q t) b (is_in q (get_or s.relations k [])))
    → is_state d w s ≡ true → fits_places w (relation_places d k) t ≡ true → is_state d w (record { relations = set s.relations k ts; counters = s.counters }) ≡ true
state_with_tuples d w s k t b ts h fit p =
    let a = and_parts (lists_fit w d.relations s.relations) (values_fit w d.counters s.counters) fit in
    and_from _ _ (lists_fit-set w d.relations s.relations k ts a.0 (λ q m. listed_fits w d.relations s.relations k t b q a.0 p (bytes_eq q t) refl (sym (h q) ∙ m))) a.1

counted_fits : (w : World) (cs : List Counter) (ls : List (List (List ℕ × ℤ))) (k : ℕ) (t : List ℕ) (q : List ℕ) → values_fit w cs ls ≡ true → fits_places w (get_or cs k no_counter).keys t ≡ true
    → (x : Bool) → bytes_eq q t ≡ x → (x || is_in q (listed_keys (get_or ls k []))) ≡ true → fits_places w (get_or cs k no_counter).keys q ≡ true
counted_fits w cs ls k t q h p true e m = ap (fits_places w (get_or cs k no_counter).keys) ((bytes_eq-Decides q t).0 e) ∙ p
counted_fits w cs ls k t q h p false e m = values_fit-at w cs ls k q h m

pub state_with_counts : (d : Specification) (w : World) (s : Listing) (k : ℕ) (t : List ℕ) (es : List (List ℕ × ℤ)) → ((q : List ℕ) → is_in q (listed_keys es) ≡ (bytes_eq q t || is_in q (listed_keys (get_or s.counters k []))))
    → is_state d w s ≡ true → fits_places w (counter_keys d k) t ≡ true → is_state d w (record { relations = s.relations; counters = set s.counters k es }) ≡ true
state_with_counts d w s k t es h fit p =
    let a = and_parts (lists_fit w d.relations s.relations) (values_fit w d.counters s.counters) fit in
    and_from _ _ a.0 (values_fit-set w d.counters s.counters k es a.1 (λ q m. counted_fits w d.counters s.counters k t q a.1 p (bytes_eq q t) refl (sym (h q) ∙ m)))

-- ---- states as they begin

pub count_in-map : (v : ℤ) (ts : List (List ℕ)) (q : List ℕ) → count_in (map (λ key. (key, v)) ts) q ≡ cond (is_in q ts) v (pos 0)
count_in-map v [] q = refl
count_in-map v (t ∷ ts) q = at (bytes_eq q t) (count_in-map v ts q)
  where
    at : (b : Bool) → count_in (map (λ key. (key, v)) ts) q ≡ cond (is_in q ts) v (pos 0) → cond b v (count_in (map (λ key. (key, v)) ts) q) ≡ cond (b || is_in q ts) v (pos 0)
    at true e = refl
    at false e = e

abbrev pub same_either : (b : Bool) (v : ℤ) → cond b v v ≡ v
same_either true v = refl
same_either false v = refl

pub counts_none : (w : World) (c : Counter) → c.initial ≡ pos 0 → CountsAs w c []
counts_none w c e = record {
  count = λ q. sym (count_in-map c.initial (tuples w c.keys) q ∙ ap (λ v. cond (is_in q (tuples w c.keys)) v (pos 0)) e ∙ same_either (is_in q (tuples w c.keys)) (pos 0));
  listed = λ q h. absurd cc;
  counts = refl;
}

pub counts_all : (w : World) (c : Counter) (es : List (List ℕ × ℤ)) → ((q : List ℕ) → count_in es q ≡ cond (is_in q (tuples w c.keys)) c.initial (pos 0)) → ((q : List ℕ) → is_in q (listed_keys es) ≡ is_in q (tuples w c.keys)) → is_counts es ≡ true → CountsAs w c es
counts_all w c es h k g = record {
  count = λ q. h q ∙ sym (count_in-map c.initial (tuples w c.keys) q);
  listed = λ q m. tuples_fit w c.keys q (sym (k q) ∙ m);
  counts = g;
}

module _ (w : World) where
  starts_has : (rs : List Relation) (ls : List (List (List ℕ))) → AllZip (StartsAs w) rs ls → (k : ℕ) (q : List ℕ) → is_in q (get_or ls k []) ≡ is_in q (get_or (map (λ (r : Relation). cond r.initial (tuples w r.places) []) rs) k [])
  starts_has [] [] h k q = refl
  starts_has [] (l ∷ ls) h k q = absurd h
  starts_has (r ∷ rs) [] h k q = absurd h
  starts_has (r ∷ rs) (l ∷ ls) h zero q = h.0.has q
  starts_has (r ∷ rs) (l ∷ ls) h (suc k) q = starts_has rs ls h.1 k q

  first_fits : (r : Relation) (q : List ℕ) (b : Bool) → is_in q (cond b (tuples w r.places) []) ≡ true → fits_places w r.places q ≡ true
  first_fits r q true h = tuples_fit w r.places q h
  first_fits r q false h = absurd cc

  starts_fit : (rs : List Relation) (ls : List (List (List ℕ))) → AllZip (StartsAs w) rs ls → lists_fit w rs ls ≡ true
  starts_fit [] [] h = refl
  starts_fit [] (l ∷ ls) h = absurd h
  starts_fit (r ∷ rs) [] h = absurd h
  starts_fit (r ∷ rs) (l ∷ ls) h = and_from _ _ (list_all-from_is_in (λ tuple. fits_places w r.places tuple) l (λ q m. first_fits r q r.initial (sym (h.0.has q) ∙ m))) (starts_fit rs ls h.1)

  starts_rising : (rs : List Relation) (ls : List (List (List ℕ))) → AllZip (StartsAs w) rs ls → list_all is_rising ls ≡ true
  starts_rising [] [] h = refl
  starts_rising [] (l ∷ ls) h = absurd h
  starts_rising (r ∷ rs) [] h = absurd h
  starts_rising (r ∷ rs) (l ∷ ls) h = and_from _ _ h.0.rising (starts_rising rs ls h.1)

  counts_as : (cs : List Counter) (ls : List (List (List ℕ × ℤ))) → AllZip (CountsAs w) cs ls → (k : ℕ) (q : List ℕ) → count_in (get_or ls k []) q ≡ count_in (get_or (map (λ (c : Counter). map (λ key. (key, c.initial)) (tuples w c.keys)) cs) k []) q
  counts_as [] [] h k q = refl
  counts_as [] (l ∷ ls) h k q = absurd h
  counts_as (c ∷ cs) [] h k q = absurd h
  counts_as (c ∷ cs) (l ∷ ls) h zero q = h.0.count q
  counts_as (c ∷ cs) (l ∷ ls) h (suc k) q = counts_as cs ls h.1 k q

  counts_fit : (cs : List Counter) (ls : List (List (List ℕ × ℤ))) → AllZip (CountsAs w) cs ls → values_fit w cs ls ≡ true
  counts_fit [] [] h = refl
  counts_fit [] (l ∷ ls) h = absurd h
  counts_fit (c ∷ cs) [] h = absurd h
  counts_fit (c ∷ cs) (l ∷ ls) h = and_from _ _ (by_key w c.keys l ∙ list_all-from_is_in (fits_places w c.keys) (listed_keys l) h.0.listed) (counts_fit cs ls h.1)

  counts_good : (cs : List Counter) (ls : List (List (List ℕ × ℤ))) → AllZip (CountsAs w) cs ls → list_all is_counts ls ≡ true
  counts_good [] [] h = refl
  counts_good [] (l ∷ ls) h = absurd h
  counts_good (c ∷ cs) [] h = absurd h
  counts_good (c ∷ cs) (l ∷ ls) h = and_from _ _ h.0.counts (counts_good cs ls h.1)

  module _ (d : Specification) (s : Listing) (relations : AllZip (StartsAs w) d.relations s.relations) (counters : AllZip (CountsAs w) d.counters s.counters) where
    pub initial_reads : reads s ≡ reads (initial d w)
    initial_reads = λ i. record { has = λ k q. starts_has d.relations s.relations relations k q i; count = λ k q. counts_as d.counters s.counters counters k q i }

    pub initial_fits : is_state d w s ≡ true
    initial_fits = and_from _ _ (starts_fit d.relations s.relations relations) (counts_fit d.counters s.counters counters)

    pub initial_listing : is_listing s ≡ true
    initial_listing = and_from _ _ (starts_rising d.relations s.relations relations) (counts_good d.counters s.counters counters)

-- ---- nothing listed

get_or-none : {X : Type 0} (n k : ℕ) → get_or (replicate n (let e : List X = [] in e)) k [] ≡ []
get_or-none zero k = refl
get_or-none (suc n) zero = refl
get_or-none (suc n) (suc k) = get_or-none n k

abbrev pub none : ℕ → ℕ → Listing
none m n = record { relations = replicate m []; counters = replicate n [] }

pub none_reads : (m n : ℕ) → reads (none m n) ≡ nothing
none_reads m n = λ i. record { has = λ k q. is_in q (get_or-none {X = List ℕ} m k i); count = λ k q. count_in (get_or-none {X = List ℕ × ℤ} n k i) q }

none_lists : (w : World) (rs : List Relation) → lists_fit w rs (replicate (length rs) []) ≡ true
none_lists w [] = refl
none_lists w (r ∷ rs) = none_lists w rs

none_values : (w : World) (cs : List Counter) → values_fit w cs (replicate (length cs) []) ≡ true
none_values w [] = refl
none_values w (c ∷ cs) = none_values w cs

pub none_fits : (d : Specification) (w : World) → is_state d w (none (length d.relations) (length d.counters)) ≡ true
none_fits d w = and_from _ _ (none_lists w d.relations) (none_values w d.counters)

rises : (n : ℕ) → list_all is_rising (replicate n []) ≡ true
rises zero = refl
rises (suc n) = rises n

good : (n : ℕ) → list_all is_counts (replicate n []) ≡ true
good zero = refl
good (suc n) = good n

pub none_listing : (m n : ℕ) → is_listing (none m n) ≡ true
none_listing m n = and_from _ _ (rises m) (good n)
