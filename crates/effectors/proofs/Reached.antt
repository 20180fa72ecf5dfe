-- What updates reach, and readings that are taken from another state there.
use Rattle.std.proofs.Common.{◌≡◌, ℕ, ℤ, Bool, true, false, cond, ◌&&◌, ◌||◌, ◌==◌, nat_lt, List, [], ◌∷◌, refl, sym, ◌∙◌, ap, arith}
use Rattle.std.proofs.lemmas.Bool.{and_parts, or_parts, eqb-true}
use Rattle.std.specs.Str.{bytes_eq}
use Rattle.std.specs.List.{list_all, list_any}
use Rattle.std.proofs.lemmas.Bool.Decides.{nat_tests}
use Rattle.std.proofs.lemmas.Slice.Eq.{bytes_eq-Decides}
use Rattle.spec_core.specs.declared.world.World.{World}
use Rattle.spec_core.specs.declared.update.Thing.{Thing}
use Rattle.spec_core.specs.declared.update.Thing.TheVariants as thing
use Rattle.spec_core.specs.declared.update.Spot.{Spot}
use Rattle.spec_core.specs.declared.update.Spot.TheVariants.{Every, One}
use Rattle.spec_core.specs.UpdateLine.{UpdateLine}
use Rattle.spec_core.specs.Specification.{Specification, relation_places, counter_keys, places_of}
use Rattle.spec_core.specs.World.{size_of, below}
use Rattle.spec_core.specs.State.{Reads, is_in, with_has, with_count}
use Rattle.spec_core.specs.Truth.{elem_of, truth}
use Rattle.spec_core.specs.Fits.{fits_places, elem_exists, spots_fit, change_fits, update_fits}
use Rattle.spec_core.proofs.States.{list_all-from_is_in}
use Rattle.effectors.specs.Effect.{spots_match, is_thing, has_changed, count_changed, has_after, count_after}
use Rattle.effectors.specs.Reaching.{matching, reached, with_tuples, with_keys, with_thing, with_updates}
use Rattle.spec_core.proofs.Members.{cons_in-each_before, nil_in-each_before, in_below}

-- ---- the matching tuples are those that fit and that the spots match

no_and : (a b : Bool) → b ≡ false → b ≡ (a && b)
no_and a b h = grind arith

every_step : (a b c : Bool) → (a && (b && c)) ≡ ((a && b) && c)
every_step a b c = grind arith

one_step : (k e n : ℕ) (b c : Bool) → nat_lt e n ≡ true → (((k == e) || false) && (b && c)) ≡ ((nat_lt k n && b) && ((e == k) && c))
one_step k e n b c h = at (k == e) refl
  where
    at : (x : Bool) → (k == e) ≡ x → (((k == e) || false) && (b && c)) ≡ ((nat_lt k n && b) && ((e == k) && c))
    at true p = (let same : k ≡ e = grind (arith, nat_tests) in let q : (e == k) ≡ true = grind (arith, nat_tests) in let r : nat_lt k n ≡ true = ap (λ x. nat_lt x n) same ∙ h in grind arith)
    at false p = (let q : (e == k) ≡ false = grind (arith, nat_tests) in grind arith)

pub is_in-matching : (w : World) (args : List ℤ) (ss : List ℕ) (xs : List Spot) → spots_fit w args ss xs ≡ true → (q : List ℕ) → is_in q (matching w args ss xs) ≡ (fits_places w ss q && spots_match w args xs q)
is_in-matching w args [] [] h [] = refl
is_in-matching w args [] [] h (k ∷ ks) = refl
is_in-matching w args [] (x ∷ xs) h q = absurd cc
is_in-matching w args (s ∷ ss) [] h q = absurd cc
is_in-matching w args (s ∷ ss) (Every ∷ xs) h [] = nil_in-each_before (below (size_of w s)) (matching w args ss xs)
is_in-matching w args (s ∷ ss) (Every ∷ xs) h (k ∷ ks) =
    cons_in-each_before k ks (below (size_of w s)) (matching w args ss xs)
    ∙ (λ i. in_below k (size_of w s) i && is_in-matching w args ss xs h ks i)
    ∙ every_step (nat_lt k (size_of w s)) (fits_places w ss ks) (spots_match w args xs ks)
is_in-matching w args (s ∷ ss) (One e ∷ xs) h [] = nil_in-each_before (elem_of w args [] e ∷ []) (matching w args ss xs)
is_in-matching w args (s ∷ ss) (One e ∷ xs) h (k ∷ ks) =
    let p = and_parts (elem_exists w args [] e && nat_lt (elem_of w args [] e) (size_of w s)) (spots_fit w args ss xs) h in
    let lt = (and_parts (elem_exists w args [] e) (nat_lt (elem_of w args [] e) (size_of w s)) p.0).1 in
    cons_in-each_before k ks (elem_of w args [] e ∷ []) (matching w args ss xs)
    ∙ ap (λ b. ((k == elem_of w args [] e) || false) && b) (is_in-matching w args ss xs p.1 ks)
    ∙ one_step k (elem_of w args [] e) (size_of w s) (fits_places w ss ks) (spots_match w args xs ks) lt

-- ---- one tuple or key more

pub matching_fit : (w : World) (args : List ℤ) (ss : List ℕ) (xs : List Spot) → spots_fit w args ss xs ≡ true → list_all (fits_places w ss) (matching w args ss xs) ≡ true
matching_fit w args ss xs h = list_all-from_is_in (fits_places w ss) (matching w args ss xs) (λ q m. (and_parts (fits_places w ss q) (spots_match w args xs q) (sym (is_in-matching w args ss xs h q) ∙ m)).0)

write_step : {X : Type 0} (a b c : Bool) (x y z : X) → (a ≡ true → b ≡ true → y ≡ x) → cond (a && c) x (cond (a && b) y z) ≡ cond (a && (b || c)) x z
write_step true true true x y z h = refl
write_step true true false x y z h = h refl refl
write_step true false c x y z h = refl
write_step false b c x y z h = refl

-- what remains to be written, once one tuple is
pub with_tuples-cons : (k : ℕ) (t : List ℕ) (ts : List (List ℕ)) (n r : Reads) → with_tuples k ts n (with_has r k t (n.has k t)) ≡ with_tuples k (t ∷ ts) n r
with_tuples-cons k t ts n r = λ i. record { has = λ j q. at j q i; count = r.count }
  where
    at : (j : ℕ) (q : List ℕ) → cond ((j == k) && is_in q ts) (n.has j q) (cond ((j == k) && bytes_eq q t) (n.has k t) (r.has j q)) ≡ cond ((j == k) && (bytes_eq q t || is_in q ts)) (n.has j q) (r.has j q)
    at j q = write_step (j == k) (bytes_eq q t) (is_in q ts) (n.has j q) (n.has k t) (r.has j q) (λ a b. sym ((λ i. n.has (eqb-true j k a i) q) ∙ ap (n.has k) ((bytes_eq-Decides q t).0 b)))

pub with_keys-cons : (k : ℕ) (t : List ℕ) (ts : List (List ℕ)) (n r : Reads) → with_keys k ts n (with_count r k t (n.count k t)) ≡ with_keys k (t ∷ ts) n r
with_keys-cons k t ts n r = λ i. record { has = r.has; count = λ j q. at j q i }
  where
    at : (j : ℕ) (q : List ℕ) → cond ((j == k) && is_in q ts) (n.count j q) (cond ((j == k) && bytes_eq q t) (n.count k t) (r.count j q)) ≡ cond ((j == k) && (bytes_eq q t || is_in q ts)) (n.count j q) (r.count j q)
    at j q = write_step (j == k) (bytes_eq q t) (is_in q ts) (n.count j q) (n.count k t) (r.count j q) (λ a b. sym ((λ i. n.count (eqb-true j k a i) q) ∙ ap (n.count k) ((bytes_eq-Decides q t).0 b)))

no_one : {X : Type 0} (a : Bool) (x z : X) → cond (a && false) x z ≡ z
no_one true x z = refl
no_one false x z = refl

-- where nothing is left to be written, all is
pub with_tuples-nil : (k : ℕ) (n r : Reads) → with_tuples k [] n r ≡ r
with_tuples-nil k n r = λ i. record { has = λ j q. no_one (j == k) (n.has j q) (r.has j q) i; count = r.count }

pub with_keys-nil : (k : ℕ) (n r : Reads) → with_keys k [] n r ≡ r
with_keys-nil k n r = λ i. record { has = r.has; count = λ j q. no_one (j == k) (n.count j q) (r.count j q) i }

-- ---- what all updates leave

-- some update reaches a tuple or key of a thing
abbrev pub reaches : Specification → World → List ℤ → List UpdateLine → Thing → List ℕ → Bool
reaches d w args us x q = list_any (λ u. is_thing u.thing x && is_in q (reached d w args u)) us

equal_either_way : (j k : ℕ) → (j == k) ≡ (k == j)
equal_either_way j k = grind (arith, nat_tests)

choose_twice : {X : Type 0} (a b : Bool) (x z : X) → cond b x (cond a x z) ≡ cond (a || b) x z
choose_twice true true x z = refl
choose_twice true false x z = refl
choose_twice false b x z = refl

module _ (d : Specification) (w : World) (args : List ℤ) (n : Reads) where
  thing_has : (x : Thing) (ts : List (List ℕ)) (r : Reads) (k : ℕ) (q : List ℕ) → (with_thing x ts n r).has k q ≡ cond (is_thing x (thing.Relation k) && is_in q ts) (n.has k q) (r.has k q)
  thing_has (thing.Relation j) ts r k q = ap (λ b. cond (b && is_in q ts) (n.has k q) (r.has k q)) (equal_either_way k j)
  thing_has (thing.Counter j) ts r k q = refl

  thing_count : (x : Thing) (ts : List (List ℕ)) (r : Reads) (k : ℕ) (q : List ℕ) → (with_thing x ts n r).count k q ≡ cond (is_thing x (thing.Counter k) && is_in q ts) (n.count k q) (r.count k q)
  thing_count (thing.Relation j) ts r k q = refl
  thing_count (thing.Counter j) ts r k q = ap (λ b. cond (b && is_in q ts) (n.count k q) (r.count k q)) (equal_either_way k j)

  pub updates_has : (us : List UpdateLine) (r : Reads) (k : ℕ) (q : List ℕ) → (with_updates d w args us n r).has k q ≡ cond (reaches d w args us (thing.Relation k) q) (n.has k q) (r.has k q)
  updates_has [] r k q = refl
  updates_has (u ∷ us) r k q =
      updates_has us (with_thing u.thing (reached d w args u) n r) k q
      ∙ ap (λ z. cond (reaches d w args us (thing.Relation k) q) (n.has k q) z) (thing_has u.thing (reached d w args u) r k q)
      ∙ choose_twice (is_thing u.thing (thing.Relation k) && is_in q (reached d w args u)) (reaches d w args us (thing.Relation k) q) (n.has k q) (r.has k q)

  pub updates_count : (us : List UpdateLine) (r : Reads) (k : ℕ) (q : List ℕ) → (with_updates d w args us n r).count k q ≡ cond (reaches d w args us (thing.Counter k) q) (n.count k q) (r.count k q)
  updates_count [] r k q = refl
  updates_count (u ∷ us) r k q =
      updates_count us (with_thing u.thing (reached d w args u) n r) k q
      ∙ ap (λ z. cond (reaches d w args us (thing.Counter k) q) (n.count k q) z) (thing_count u.thing (reached d w args u) r k q)
      ∙ choose_twice (is_thing u.thing (thing.Counter k) && is_in q (reached d w args u)) (reaches d w args us (thing.Counter k) q) (n.count k q) (r.count k q)

-- ---- what isn't reached stays

module _ (d : Specification) (w : World) (r : Reads) (args : List ℤ) where
  pub spots_of : (u : UpdateLine) → update_fits d w args u ≡ true → spots_fit w args (places_of d u.thing) u.at ≡ true
  spots_of u f = (and_parts (change_fits d w args u.thing u.change) (spots_fit w args (places_of d u.thing) u.at) (and_parts _ _ f).0).1

  not_acting_has : (x : Thing) (at : List Spot) (g : Bool) (k : ℕ) (q : List ℕ) → spots_fit w args (places_of d x) at ≡ true → fits_places w (relation_places d k) q ≡ true
      → (is_thing x (thing.Relation k) && is_in q (matching w args (places_of d x) at)) ≡ false → (is_thing x (thing.Relation k) && (spots_match w args at q && g)) ≡ false
  not_acting_has (thing.Counter j) at g k q f p h = refl
  not_acting_has (thing.Relation j) at g k q f p h = by (j == k) refl
    where
      none : (b c e : Bool) → c ≡ true → b ≡ (c && e) → b ≡ false → (e && g) ≡ false
      none b c e i j k = grind arith

      by : (b : Bool) → (j == k) ≡ b → ((j == k) && (spots_match w args at q && g)) ≡ false
      by true e =
          (let fits : fits_places w (relation_places d j) q ≡ true = ap (λ m. fits_places w (relation_places d m) q) (eqb-true j k e) ∙ p in
          let out : is_in q (matching w args (relation_places d j) at) ≡ false = (let l : (true && is_in q (matching w args (relation_places d j) at)) ≡ false = ap (λ (b : Bool). b && is_in q (matching w args (relation_places d j) at)) (sym e) ∙ h in l) in
          ap (λ (b : Bool). b && (spots_match w args at q && g)) e ∙ none (is_in q (matching w args (relation_places d j) at)) (fits_places w (relation_places d j) q) (spots_match w args at q) fits (is_in-matching w args (relation_places d j) at f q) out)
      by false e = ap (λ (b : Bool). b && (spots_match w args at q && g)) e

  not_acting_count : (x : Thing) (at : List Spot) (g : Bool) (k : ℕ) (q : List ℕ) → spots_fit w args (places_of d x) at ≡ true → fits_places w (counter_keys d k) q ≡ true
      → (is_thing x (thing.Counter k) && is_in q (matching w args (places_of d x) at)) ≡ false → (is_thing x (thing.Counter k) && (spots_match w args at q && g)) ≡ false
  not_acting_count (thing.Relation j) at g k q f p h = refl
  not_acting_count (thing.Counter j) at g k q f p h = by (j == k) refl
    where
      none : (b c e : Bool) → c ≡ true → b ≡ (c && e) → b ≡ false → (e && g) ≡ false
      none b c e i j k = grind arith

      by : (b : Bool) → (j == k) ≡ b → ((j == k) && (spots_match w args at q && g)) ≡ false
      by true e =
          (let fits : fits_places w (counter_keys d j) q ≡ true = ap (λ m. fits_places w (counter_keys d m) q) (eqb-true j k e) ∙ p in
          let out : is_in q (matching w args (counter_keys d j) at) ≡ false = (let l : (true && is_in q (matching w args (counter_keys d j) at)) ≡ false = ap (λ (b : Bool). b && is_in q (matching w args (counter_keys d j) at)) (sym e) ∙ h in l) in
          ap (λ (b : Bool). b && (spots_match w args at q && g)) e ∙ none (is_in q (matching w args (counter_keys d j) at)) (fits_places w (counter_keys d j) q) (spots_match w args at q) fits (is_in-matching w args (counter_keys d j) at f q) out)
      by false e = ap (λ (b : Bool). b && (spots_match w args at q && g)) e

  pub unreached_has : (us : List UpdateLine) (k : ℕ) (q : List ℕ) (b : Bool) → list_all (update_fits d w args) us ≡ true → fits_places w (relation_places d k) q ≡ true
      → reaches d w args us (thing.Relation k) q ≡ false → has_after w r args k q us b ≡ b
  unreached_has [] k q b f p h = refl
  unreached_has (u ∷ us) k q b f p h =
      let f2 = and_parts _ _ f in
      let h2 = or_parts (is_thing u.thing (thing.Relation k) && is_in q (reached d w args u)) (reaches d w args us (thing.Relation k) q) h in
      ap (λ (x : Bool). has_after w r args k q us (cond x (has_changed u.change b) b)) (not_acting_has u.thing u.at (truth w r args [] u.guard) k q (spots_of u f2.0) p h2.0)
      ∙ unreached_has us k q b f2.1 p h2.1

  pub unreached_count : (us : List UpdateLine) (k : ℕ) (q : List ℕ) (v : ℤ) → list_all (update_fits d w args) us ≡ true → fits_places w (counter_keys d k) q ≡ true
      → reaches d w args us (thing.Counter k) q ≡ false → count_after w r args k q us v ≡ v
  unreached_count [] k q v f p h = refl
  unreached_count (u ∷ us) k q v f p h =
      let f2 = and_parts _ _ f in
      let h2 = or_parts (is_thing u.thing (thing.Counter k) && is_in q (reached d w args u)) (reaches d w args us (thing.Counter k) q) h in
      ap (λ (x : Bool). count_after w r args k q us (cond x (count_changed w r args u.change v) v)) (not_acting_count u.thing u.at (truth w r args [] u.guard) k q (spots_of u f2.0) p h2.0)
      ∙ unreached_count us k q v f2.1 p h2.1
