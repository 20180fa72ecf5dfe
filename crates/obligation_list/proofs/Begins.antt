-- A state that has the stated values everywhere reads as the initial one, and the initial one does.
use Rattle.std.proofs.Common.{◌≡◌, ℕ, zero, suc, ◌<◌, pos, Bool, true, false, cond, nat_lt, inl, inr, List, [], ◌∷◌, map, length, get_or, refl, sym, ◌∙◌, ap, arith}
use Rattle.std.proofs.lemmas.Bool.{and_parts, and_from, cases_Bool, lt-ltb, ltb-true}
use Rattle.spec_core.specs.declared.world.World.{World}
use Rattle.spec_core.specs.declared.update.Thing.TheVariants as thing
use Rattle.spec_core.specs.declared.spec.Relation.{Relation}
use Rattle.spec_core.specs.declared.spec.Counter.{Counter}
use Rattle.spec_core.specs.Specification.{Specification, no_relation, no_counter, relation_places, counter_keys}
use Rattle.spec_core.specs.World.{tuples}
use Rattle.spec_core.specs.State.{Listing, Reads, reads, is_in, count_in}
use Rattle.spec_core.specs.Meaning.{initial}
use Rattle.spec_core.specs.Fits.{fits_places, is_state}
use Rattle.spec_core.specs.Choices.{all_below}
use Rattle.spec_core.proofs.States.{list_all-is_in, list_all-from_is_in}
use Rattle.spec_core.proofs.Choosing.{all_below-at}
use Rattle.effectors.specs.Places.{fits_relation, fits_counter}
use Rattle.spec_core.proofs.Members.{is_in-tuples}
use Rattle.effectors.proofs.Reading.{count_in_map, initial_is_state}
use Rattle.effectors.proofs.Written.{has_unfit, count_unfit}
use Rattle.obligation_list.specs.Starting.{starts_at, starts_everywhere, starts}
use Rattle.obligation_list.proofs.Equal.{same_bool, bool_same, same_int, int_same}

map_at : {X Y : Type 0} (f : X → Y) (xs : List X) (k : ℕ) (x : X) (y : Y) → k < length xs → get_or (map f xs) k y ≡ f (get_or xs k x)
map_at f [] k x y h = absurd (omega arith)
map_at f (z ∷ zs) zero x y h = refl
map_at f (z ∷ zs) (suc k) x y h = map_at f zs k x y (omega arith)

all_below-from : (n : ℕ) (q : ℕ → Bool) → ((k : ℕ) → k < n → q k ≡ true) → all_below n q ≡ true
all_below-from zero q h = refl
all_below-from (suc n) q h = and_from (all_below n q) (q n) (all_below-from n q (λ k lt. h k (omega arith))) (h n (omega arith))

in_choice : (b : Bool) (t : List ℕ) (ts : List (List ℕ)) → is_in t ts ≡ true → is_in t (cond b ts []) ≡ b
in_choice true t ts h = h
in_choice false t ts h = refl

module _ (d : Specification) (w : World) where
  -- the initial state has the stated values where tuples and keys fit
  initial_has : (k : ℕ) (t : List ℕ) → fits_relation d w k t ≡ true → (reads (initial d w)).has k t ≡ (get_or d.relations k no_relation).initial
  initial_has k t h =
      let p = and_parts (nat_lt k (length d.relations)) (fits_places w (relation_places d k) t) h in
      ap (is_in t) (map_at (λ (r : Relation). cond r.initial (tuples w r.places) []) d.relations k no_relation [] (ltb-true k (length d.relations) p.0))
      ∙ in_choice (get_or d.relations k no_relation).initial t (tuples w (relation_places d k)) (is_in-tuples w (relation_places d k) t ∙ p.1)

  initial_count : (k : ℕ) (t : List ℕ) → fits_counter d w k t ≡ true → (reads (initial d w)).count k t ≡ (get_or d.counters k no_counter).initial
  initial_count k t h =
      let p = and_parts (nat_lt k (length d.counters)) (fits_places w (counter_keys d k) t) h in
      ap (λ es. count_in es t) (map_at (λ (c : Counter). map (λ key. (key, c.initial)) (tuples w c.keys)) d.counters k no_counter [] (ltb-true k (length d.counters) p.0))
      ∙ count_in_map (λ key. (get_or d.counters k no_counter).initial) (tuples w (counter_keys d k)) t
      ∙ ap (λ (b : Bool). cond b (get_or d.counters k no_counter).initial (pos 0)) (is_in-tuples w (counter_keys d k) t ∙ p.1)

  pub initial_starts : (r : Reads) → r ≡ reads (initial d w) → starts d w r ≡ true
  initial_starts r e = and_from _ _
      (all_below-from (length d.relations) (λ k. starts_everywhere d w (thing.Relation k) (relation_places d k) r)
      (λ k lt. list_all-from_is_in (λ t. starts_at d (thing.Relation k) t r) (tuples w (relation_places d k))
      (λ t m. bool_same (r.has k t) (get_or d.relations k no_relation).initial (ap (λ (z : Reads). z.has k t) e ∙ initial_has k t (and_from _ _ (lt-ltb k (length d.relations) lt) (sym (is_in-tuples w (relation_places d k) t) ∙ m))))))
      (all_below-from (length d.counters) (λ k. starts_everywhere d w (thing.Counter k) (counter_keys d k) r)
      (λ k lt. list_all-from_is_in (λ t. starts_at d (thing.Counter k) t r) (tuples w (counter_keys d k))
      (λ t m. int_same (r.count k t) (get_or d.counters k no_counter).initial (ap (λ (z : Reads). z.count k t) e ∙ initial_count k t (and_from _ _ (lt-ltb k (length d.counters) lt) (sym (is_in-tuples w (counter_keys d k) t) ∙ m))))))

  module _ (s : Listing) (fit : is_state d w s ≡ true) (h : starts d w (reads s) ≡ true) where
    has_same : (k : ℕ) (t : List ℕ) → (reads s).has k t ≡ (reads (initial d w)).has k t
    has_same k t = elim (cases_Bool (fits_relation d w k t)) [
      | inl f ↦ (let p = and_parts (nat_lt k (length d.relations)) (fits_places w (relation_places d k) t) f in
          let all = all_below-at (length d.relations) (λ k. starts_everywhere d w (thing.Relation k) (relation_places d k) (reads s)) k (ltb-true k (length d.relations) p.0) (and_parts _ _ h).0 in
          same_bool ((reads s).has k t) (get_or d.relations k no_relation).initial (list_all-is_in (λ t. starts_at d (thing.Relation k) t (reads s)) (tuples w (relation_places d k)) t all (is_in-tuples w (relation_places d k) t ∙ p.1)) ∙ sym (initial_has k t f))
      | inr n ↦ has_unfit d w s fit k t n ∙ sym (has_unfit d w (initial d w) (initial_is_state d w) k t n)
    ]

    count_same : (k : ℕ) (t : List ℕ) → (reads s).count k t ≡ (reads (initial d w)).count k t
    count_same k t = elim (cases_Bool (fits_counter d w k t)) [
      | inl f ↦ (let p = and_parts (nat_lt k (length d.counters)) (fits_places w (counter_keys d k) t) f in
          let all = all_below-at (length d.counters) (λ k. starts_everywhere d w (thing.Counter k) (counter_keys d k) (reads s)) k (ltb-true k (length d.counters) p.0) (and_parts _ _ h).1 in
          same_int ((reads s).count k t) (get_or d.counters k no_counter).initial (list_all-is_in (λ t. starts_at d (thing.Counter k) t (reads s)) (tuples w (counter_keys d k)) t all (is_in-tuples w (counter_keys d k) t ∙ p.1)) ∙ sym (initial_count k t f))
      | inr n ↦ count_unfit d w s fit k t n ∙ sym (count_unfit d w (initial d w) (initial_is_state d w) k t n)
    ]

    pub starts_initial : reads s ≡ reads (initial d w)
    starts_initial = λ i. record { has = λ k t. has_same k t i; count = λ k t. count_same k t i }
