-- What a call leaves: its effect reads, in each tuple and key of the world, as the updates say, and gives a state again.
use Rattle.std.proofs.Common.{◌≡◌, ℕ, zero, suc, ◌+◌, ◌<◌, ◌≤◌, ℤ, pos, Bool, true, false, cond, ◌&&◌, ◌||◌, List, [], ◌∷◌, map, length, get_or, refl, sym, ◌∙◌, ap, arith}
use Rattle.std.proofs.lemmas.Bool.{and_parts, and_from, or_parts}
use Rattle.std.specs.Prelude.{nat_lt}
use Rattle.std.specs.List.{list_all, list_any, filter}
use Rattle.std.specs.Str.{bytes_eq}
use Rattle.std.proofs.lemmas.Bool.Decides.{nat_tests}
use Rattle.std.proofs.lemmas.Slice.Eq.{bytes_eq-Decides}
use Rattle.std.proofs.lemmas.List.Folds.{list_all-append, list_all-map}
use Rattle.spec_core.specs.declared.world.World.{World}
use Rattle.spec_core.specs.declared.world.Call.{Call}
use Rattle.spec_core.specs.declared.spec.Relation.{Relation}
use Rattle.spec_core.specs.declared.spec.Counter.{Counter}
use Rattle.spec_core.specs.declared.update.Thing.TheVariants as thing
use Rattle.spec_core.specs.UpdateLine.{UpdateLine}
use Rattle.spec_core.specs.Specification.{Specification, relation_places, counter_keys, no_relation, no_counter, op_of}
use Rattle.spec_core.specs.State.{Reads, is_in, count_in}
use Rattle.spec_core.specs.World.{size_of, below, each_before, tuples}
use Rattle.spec_core.specs.Truth.{truth}
use Rattle.spec_core.specs.Meaning.{initial}
use Rattle.spec_core.specs.Fits.{fits_places, lists_fit, values_fit, is_state}
use Rattle.effectors.specs.Effect.{is_thing, spots_match, has_changed, count_changed, has_after, count_after, numbered, after_call, after}

-- ---- numbered lists
pub numbered_in : {X Y : Type 0} (f : ℕ → X → Y) (n : ℕ) (xs : List X) (k : ℕ) (x : X) (y : Y) → k < length xs → get_or (numbered f n xs) k y ≡ f (n + k) (get_or xs k x)
numbered_in f n [] k x y h = absurd (omega (arith, h))
numbered_in f n (z ∷ zs) zero x y h = let e : n ≡ n + 0 = omega arith in ap (λ m. f m z) e
numbered_in f n (z ∷ zs) (suc k) x y h = (let e : suc n + k ≡ n + suc k = omega arith in numbered_in f (suc n) zs k x y (omega (arith, h)) ∙ ap (λ m. f m (get_or zs k x)) e)

pub numbered_out : {X Y : Type 0} (f : ℕ → X → Y) (n : ℕ) (xs : List X) (k : ℕ) (y : Y) → length xs ≤ k → get_or (numbered f n xs) k y ≡ y
numbered_out f n [] k y h = refl
numbered_out f n (z ∷ zs) zero y h = absurd (omega (arith, h))
numbered_out f n (z ∷ zs) (suc k) y h = numbered_out f (suc n) zs k y (omega (arith, h))

-- ---- what a list of tuples holds
when_kept : (c r there q : Bool) → (c ≡ true → q ≡ true) → r ≡ (there && q) → (c || r) ≡ ((c || there) && q)
when_kept c r there q h e = grind arith

when_left : (c r there q : Bool) → (c ≡ true → q ≡ false) → r ≡ (there && q) → r ≡ ((c || there) && q)
when_left c r there q h e = grind arith

filter_step : (p : List ℕ → Bool) (u : List ℕ) (us : List (List ℕ)) (t : List ℕ) → (bytes_eq t u ≡ true → p t ≡ p u) → (b : Bool) → p u ≡ b → is_in t (filter p us) ≡ (is_in t us && p t)
    → is_in t (cond b (u ∷ filter p us) (filter p us)) ≡ ((bytes_eq t u || is_in t us) && p t)
filter_step p u us t same true e ih = when_kept (bytes_eq t u) (is_in t (filter p us)) (is_in t us) (p t) (λ h. same h ∙ e) ih
filter_step p u us t same false e ih = when_left (bytes_eq t u) (is_in t (filter p us)) (is_in t us) (p t) (λ h. same h ∙ e) ih

pub is_in_filter : (p : List ℕ → Bool) (ts : List (List ℕ)) (t : List ℕ) → is_in t (filter p ts) ≡ (is_in t ts && p t)
is_in_filter p [] t = refl
is_in_filter p (u ∷ us) t = filter_step p u us t (λ e. ap p ((bytes_eq-Decides t u).0 e)) (p u) refl (is_in_filter p us t)

pub count_in_map : (f : List ℕ → ℤ) (ts : List (List ℕ)) (q : List ℕ) → count_in (map (λ t. (t, f t)) ts) q ≡ cond (is_in q ts) (f q) (pos 0)
count_in_map f [] q = refl
count_in_map f (u ∷ us) q = at_test (bytes_eq q u) (λ e. ap f (sym ((bytes_eq-Decides q u).0 e))) (count_in_map f us q)
  where
    at_test : (b : Bool) → (b ≡ true → f u ≡ f q) → count_in (map (λ t. (t, f t)) us) q ≡ cond (is_in q us) (f q) (pos 0) → cond b (f u) (count_in (map (λ t. (t, f t)) us) q) ≡ cond (b || is_in q us) (f q) (pos 0)
    at_test true h ih = h refl
    at_test false h ih = ih

-- ---- tuples fit
all_filter : {X : Type 0} (q p : X → Bool) (xs : List X) → list_all q xs ≡ true → list_all q (filter p xs) ≡ true
all_filter q p [] h = refl
all_filter q p (x ∷ xs) h = kept_or_not (p x) ((and_parts (q x) (list_all q xs) h).0) (all_filter q p xs ((and_parts (q x) (list_all q xs) h).1))
  where
    kept_or_not : (b : Bool) → q x ≡ true → list_all q (filter p xs) ≡ true → list_all q (cond b (x ∷ filter p xs) (filter p xs)) ≡ true
    kept_or_not true i k = and_from (q x) (list_all q (filter p xs)) i k
    kept_or_not false i k = k

with_first : (w : World) (ss : List ℕ) (b : Bool) (ts : List (List ℕ)) → b ≡ true → list_all (fits_places w ss) ts ≡ true → list_all (λ t. b && fits_places w ss t) ts ≡ true
with_first w ss b [] q k = refl
with_first w ss b (t ∷ ts) q k = and_from (b && fits_places w ss t) (list_all (λ t. b && fits_places w ss t) ts)
    (and_from b (fits_places w ss t) q ((and_parts (fits_places w ss t) (list_all (fits_places w ss) ts) k).0))
    (with_first w ss b ts q ((and_parts (fits_places w ss t) (list_all (fits_places w ss) ts) k).1))

all_each_before : (w : World) (s : ℕ) (ss es : List ℕ) (ts : List (List ℕ)) → list_all (λ e. nat_lt e (size_of w s)) es ≡ true → list_all (fits_places w ss) ts ≡ true → list_all (fits_places w (s ∷ ss)) (each_before es ts) ≡ true
all_each_before w s ss [] ts h k = refl
all_each_before w s ss (e ∷ es) ts h k =
    list_all-append (fits_places w (s ∷ ss)) (map (λ t. e ∷ t) ts) (each_before es ts)
    ∙ and_from (list_all (fits_places w (s ∷ ss)) (map (λ t. e ∷ t) ts)) (list_all (fits_places w (s ∷ ss)) (each_before es ts))
    (list_all-map (fits_places w (s ∷ ss)) (λ t. e ∷ t) ts ∙ with_first w ss (nat_lt e (size_of w s)) ts ((and_parts (nat_lt e (size_of w s)) (list_all (λ e. nat_lt e (size_of w s)) es) h).0) k)
    (all_each_before w s ss es ts ((and_parts (nat_lt e (size_of w s)) (list_all (λ e. nat_lt e (size_of w s)) es) h).1) k)

all_below : (n m : ℕ) → n ≤ m → list_all (λ e. nat_lt e m) (below n) ≡ true
all_below zero m h = refl
all_below (suc n) m h =
    list_all-append (λ e. nat_lt e m) (below n) (n ∷ [])
    ∙ and_from (list_all (λ e. nat_lt e m) (below n)) (nat_lt n m && true) (all_below n m (omega (arith, h))) (let lt : n < m = omega (arith, h) in grind (arith, nat_tests))

pub tuples_fit : (w : World) (ss : List ℕ) → list_all (fits_places w ss) (tuples w ss) ≡ true
tuples_fit w [] = refl
tuples_fit w (s ∷ ss) = all_each_before w s ss (below (size_of w s)) (tuples w ss) (all_below (size_of w s) (size_of w s) (let le : size_of w s ≤ size_of w s = omega arith in le)) (tuples_fit w ss)

pub values_from : (w : World) (keys : List ℕ) (f : List ℕ → ℤ) (ts : List (List ℕ)) → list_all (fits_places w keys) ts ≡ true → list_all (λ (e : List ℕ × ℤ). fits_places w keys e.0) (map (λ t. (t, f t)) ts) ≡ true
values_from w keys f ts h = list_all-map (λ (e : List ℕ × ℤ). fits_places w keys e.0) (λ t. (t, f t)) ts ∙ h

-- ---- a call's effect
relations_after : (d : Specification) (w : World) (c : Call) (r : Reads) (n : ℕ) (rs : List Relation)
    → lists_fit w rs (numbered (λ k x. filter (λ t. has_after w r c.args k t (op_of d c.op).updates (r.has k t)) (tuples w x.places)) n rs) ≡ true
relations_after d w c r n [] = refl
relations_after d w c r n (x ∷ xs) = and_from _ _ (all_filter (fits_places w x.places) (λ t. has_after w r c.args n t (op_of d c.op).updates (r.has n t)) (tuples w x.places) (tuples_fit w x.places)) (relations_after d w c r (suc n) xs)

counters_after : (d : Specification) (w : World) (c : Call) (r : Reads) (n : ℕ) (cs : List Counter)
    → values_fit w cs (numbered (λ k x. map (λ t. (t, count_after w r c.args k t (op_of d c.op).updates (r.count k t))) (tuples w x.keys)) n cs) ≡ true
counters_after d w c r n [] = refl
counters_after d w c r n (x ∷ xs) = and_from _ _ (values_from w x.keys (λ t. count_after w r c.args n t (op_of d c.op).updates (r.count n t)) (tuples w x.keys) (tuples_fit w x.keys)) (counters_after d w c r (suc n) xs)

pub after_is_state : (d : Specification) (w : World) (c : Call) (r : Reads) → is_state d w (after_call d w c r) ≡ true
after_is_state d w c r = and_from _ _ (relations_after d w c r 0 d.relations) (counters_after d w c r 0 d.counters)

initial_relations : (w : World) (rs : List Relation) → lists_fit w rs (map (λ r. cond r.initial (tuples w r.places) []) rs) ≡ true
initial_relations w [] = refl
initial_relations w (x ∷ xs) = and_from _ _ (at_initial x.initial) (initial_relations w xs)
  where
    at_initial : (b : Bool) → list_all (λ tuple. fits_places w x.places tuple) (cond b (tuples w x.places) []) ≡ true
    at_initial true = tuples_fit w x.places
    at_initial false = refl

initial_counters : (w : World) (cs : List Counter) → values_fit w cs (map (λ c. map (λ key. (key, c.initial)) (tuples w c.keys)) cs) ≡ true
initial_counters w [] = refl
initial_counters w (x ∷ xs) = and_from _ _ (values_from w x.keys (λ key. x.initial) (tuples w x.keys) (tuples_fit w x.keys)) (initial_counters w xs)

pub initial_is_state : (d : Specification) (w : World) → is_state d w (initial d w) ≡ true
initial_is_state d w = and_from _ _ (initial_relations w d.relations) (initial_counters w d.counters)

module _ (d : Specification) (w : World) where
  pub has_in_world : (c : Call) (r : Reads) (k : ℕ) (t : List ℕ) → k < length d.relations
      → (after d w c r).has k t ≡ (is_in t (tuples w (relation_places d k)) && has_after w r c.args k t (op_of d c.op).updates (r.has k t))
  has_in_world c r k t lt =
      ap (is_in t) (numbered_in (λ k x. filter (λ t. has_after w r c.args k t (op_of d c.op).updates (r.has k t)) (tuples w x.places)) 0 d.relations k no_relation [] lt)
      ∙ ap (λ m. is_in t (filter (λ t. has_after w r c.args m t (op_of d c.op).updates (r.has m t)) (tuples w (relation_places d k)))) (let e : 0 + k ≡ k = omega arith in e)
      ∙ is_in_filter (λ t. has_after w r c.args k t (op_of d c.op).updates (r.has k t)) (tuples w (relation_places d k)) t

  -- a relation that isn't declared reads false
  pub has_undeclared : (c : Call) (r : Reads) (k : ℕ) (t : List ℕ) → length d.relations ≤ k → (after d w c r).has k t ≡ false
  has_undeclared c r k t le = ap (is_in t) (numbered_out (λ k x. filter (λ t. has_after w r c.args k t (op_of d c.op).updates (r.has k t)) (tuples w x.places)) 0 d.relations k [] le)

  pub count_in_world : (c : Call) (r : Reads) (k : ℕ) (t : List ℕ) → k < length d.counters
      → (after d w c r).count k t ≡ cond (is_in t (tuples w (counter_keys d k))) (count_after w r c.args k t (op_of d c.op).updates (r.count k t)) (pos 0)
  count_in_world c r k t lt =
      ap (λ es. count_in es t) (numbered_in (λ k x. map (λ t. (t, count_after w r c.args k t (op_of d c.op).updates (r.count k t))) (tuples w x.keys)) 0 d.counters k no_counter [] lt)
      ∙ ap (λ m. count_in (map (λ t. (t, count_after w r c.args m t (op_of d c.op).updates (r.count m t))) (tuples w (counter_keys d k))) t) (let e : 0 + k ≡ k = omega arith in e)
      ∙ count_in_map (λ t. count_after w r c.args k t (op_of d c.op).updates (r.count k t)) (tuples w (counter_keys d k)) t

  -- a counter that isn't declared reads 0
  pub count_undeclared : (c : Call) (r : Reads) (k : ℕ) (t : List ℕ) → length d.counters ≤ k → (after d w c r).count k t ≡ pos 0
  count_undeclared c r k t le = ap (λ es. count_in es t) (numbered_out (λ k x. map (λ t. (t, count_after w r c.args k t (op_of d c.op).updates (r.count k t))) (tuples w x.keys)) 0 d.counters k [] le)

  has_unwritten : (r : Reads) (args : List ℤ) (k : ℕ) (t : List ℕ) (us : List UpdateLine) (b : Bool) → list_any (λ u. is_thing u.thing (thing.Relation k)) us ≡ false → has_after w r args k t us b ≡ b
  has_unwritten r args k t [] b h = refl
  has_unwritten r args k t (u ∷ us) b h =
      let p = or_parts (is_thing u.thing (thing.Relation k)) (list_any (λ u. is_thing u.thing (thing.Relation k)) us) h in
      ap (has_after w r args k t us) (ap (λ (x : Bool). cond (x && (spots_match w args u.at t && truth w r args [] u.guard)) (has_changed u.change b) b) p.0) ∙ has_unwritten r args k t us b p.1

  count_unwritten : (r : Reads) (args : List ℤ) (k : ℕ) (t : List ℕ) (us : List UpdateLine) (v : ℤ) → list_any (λ u. is_thing u.thing (thing.Counter k)) us ≡ false → count_after w r args k t us v ≡ v
  count_unwritten r args k t [] v h = refl
  count_unwritten r args k t (u ∷ us) v h =
      let p = or_parts (is_thing u.thing (thing.Counter k)) (list_any (λ u. is_thing u.thing (thing.Counter k)) us) h in
      ap (count_after w r args k t us) (ap (λ (x : Bool). cond (x && (spots_match w args u.at t && truth w r args [] u.guard)) (count_changed w r args u.change v) v) p.0) ∙ count_unwritten r args k t us v p.1

  -- a tuple that isn't of the world reads false
  pub has_outside : (c : Call) (r : Reads) (k : ℕ) (t : List ℕ) → k < length d.relations → is_in t (tuples w (relation_places d k)) ≡ false → (after d w c r).has k t ≡ false
  has_outside c r k t lt out = has_in_world c r k t lt ∙ ap (λ (x : Bool). x && has_after w r c.args k t (op_of d c.op).updates (r.has k t)) out

  -- what a call doesn't write stays
  pub has_stays : (c : Call) (r : Reads) (k : ℕ) (t : List ℕ) → k < length d.relations → is_in t (tuples w (relation_places d k)) ≡ true → list_any (λ u. is_thing u.thing (thing.Relation k)) (op_of d c.op).updates ≡ false → (after d w c r).has k t ≡ r.has k t
  has_stays c r k t lt here unwritten = has_in_world c r k t lt ∙ ap (λ (x : Bool). x && has_after w r c.args k t (op_of d c.op).updates (r.has k t)) here ∙ has_unwritten r c.args k t (op_of d c.op).updates (r.has k t) unwritten

  pub count_outside : (c : Call) (r : Reads) (k : ℕ) (t : List ℕ) → k < length d.counters → is_in t (tuples w (counter_keys d k)) ≡ false → (after d w c r).count k t ≡ pos 0
  count_outside c r k t lt out = count_in_world c r k t lt ∙ ap (λ (x : Bool). cond x (count_after w r c.args k t (op_of d c.op).updates (r.count k t)) (pos 0)) out

  pub count_stays : (c : Call) (r : Reads) (k : ℕ) (t : List ℕ) → k < length d.counters → is_in t (tuples w (counter_keys d k)) ≡ true → list_any (λ u. is_thing u.thing (thing.Counter k)) (op_of d c.op).updates ≡ false → (after d w c r).count k t ≡ r.count k t
  count_stays c r k t lt here unwritten = count_in_world c r k t lt ∙ ap (λ (x : Bool). cond x (count_after w r c.args k t (op_of d c.op).updates (r.count k t)) (pos 0)) here ∙ count_unwritten r c.args k t (op_of d c.op).updates (r.count k t) unwritten
