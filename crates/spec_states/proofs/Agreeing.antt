-- The text of a state depends on the readings at fitting tuples and keys alone.
use Rattle.std.proofs.Common.{◌≡◌, ℕ, ◌<◌, Bool, true, cond, suc, List, [], ◌∷◌, ◌++◌, length, get_or, ◌+◌, refl, sym, ◌∙◌, ap, arith}
use Rattle.std.proofs.lemmas.Bool.{and_parts}
use Rattle.std.specs.List.{list_all, filter, flat_map}
use Rattle.spec_core.specs.declared.spec.Relation.{Relation}
use Rattle.spec_core.specs.declared.spec.Counter.{Counter}
use Rattle.spec_core.specs.declared.world.World.{World}
use Rattle.spec_core.specs.Specification.{Specification, no_relation, no_counter}
use Rattle.spec_core.specs.State.{Reads}
use Rattle.spec_core.specs.World.{tuples}
use Rattle.spec_states.specs.StateText.{true_line, count_line, relation_lines, counter_lines, state_text}
use Rattle.spec_core.specs.Fits.{fits_places, AgreeOn}
use Rattle.spec_core.proofs.Choosing.{all_tuples}

all_tuples_fit : (w : World) (ss : List ℕ) → list_all (fits_places w ss) (tuples w ss) ≡ true
all_tuples_fit w ss = all_tuples w ss (fits_places w ss) (λ t h. h)

same_filter : {X : Type 0} (p q : X → Bool) (f : X → Bool) → ((x : X) → f x ≡ true → p x ≡ q x) → (xs : List X) → list_all f xs ≡ true → filter p xs ≡ filter q xs
same_filter p q f h [] k = refl
same_filter p q f h (x ∷ xs) k = let a = and_parts (f x) (list_all f xs) k in λ i. cond (h x a.0 i) (x ∷ same_filter p q f h xs a.1 i) (same_filter p q f h xs a.1 i)

same_lines : {X Y : Type 0} (p q : X → List Y) (f : X → Bool) → ((x : X) → f x ≡ true → p x ≡ q x) → (xs : List X) → list_all f xs ≡ true → flat_map p xs ≡ flat_map q xs
same_lines p q f h [] k = refl
same_lines p q f h (x ∷ xs) k = let a = and_parts (f x) (list_all f xs) k in λ i. h x a.0 i ++ same_lines p q f h xs a.1 i

-- what is at a place of the list that remains
module _ (w : World) (r s : Reads) where
  relations_agree : (rs : List Relation) (from : ℕ) → ((n j : ℕ) (t : List ℕ) → n ≡ from + j → j < length rs → fits_places w (get_or rs j no_relation).places t ≡ true → r.has n t ≡ s.has n t) → relation_lines w r from rs ≡ relation_lines w s from rs
  relations_agree [] from h = refl
  relations_agree (x ∷ rs) from h =
      let here : filter (r.has from) (tuples w x.places) ≡ filter (s.has from) (tuples w x.places) = same_filter (r.has from) (s.has from) (fits_places w x.places) (λ t k. h from 0 t (let z : from ≡ from + 0 = omega arith in z) (omega arith) k) (tuples w x.places) (all_tuples_fit w x.places) in
      let rest = relations_agree rs (suc from) (λ n j t k lt fit. h n (suc j) t (let z : n ≡ from + suc j = omega (arith, k) in z) (omega (arith, lt)) fit) in
      λ i. flat_map (true_line x.name) (here i) ++ rest i

  counters_agree : (cs : List Counter) (from : ℕ) → ((n j : ℕ) (t : List ℕ) → n ≡ from + j → j < length cs → fits_places w (get_or cs j no_counter).keys t ≡ true → r.count n t ≡ s.count n t) → counter_lines w r from cs ≡ counter_lines w s from cs
  counters_agree [] from h = refl
  counters_agree (c ∷ cs) from h =
      let here = same_lines (λ key. count_line c.name (key, r.count from key)) (λ key. count_line c.name (key, s.count from key)) (fits_places w c.keys) (λ t k. ap (λ v. count_line c.name (t, v)) (h from 0 t (let z : from ≡ from + 0 = omega arith in z) (omega arith) k)) (tuples w c.keys) (all_tuples_fit w c.keys) in
      let rest = counters_agree cs (suc from) (λ n j t k lt fit. h n (suc j) t (let z : n ≡ from + suc j = omega (arith, k) in z) (omega (arith, lt)) fit) in
      λ i. here i ++ rest i

pub text_agrees : (d : Specification) (w : World) (r s : Reads) → AgreeOn d w r s → state_text d w r ≡ state_text d w s
text_agrees d w r s agree =
    let same : (n j : ℕ) → n ≡ 0 + j → n ≡ j = λ n j k. omega (arith, k) in
    let one = relations_agree w r s d.relations 0 (λ n j t k lt fit. ap (λ m. r.has m t) (same n j k) ∙ agree.has j t lt fit ∙ sym (ap (λ m. s.has m t) (same n j k))) in
    let other = counters_agree w r s d.counters 0 (λ n j t k lt fit. ap (λ m. r.count m t) (same n j k) ∙ agree.count j t lt fit ∙ sym (ap (λ m. s.count m t) (same n j k))) in
    λ i. one i ++ other i
