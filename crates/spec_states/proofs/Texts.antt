-- The text of a state that fits a world, and is listed in order, is that of its readings there.
use Rattle.std.proofs.Common.{◌≡◌, ℕ, suc, ◌+◌, ℤ, pos, Bool, true, false, not, cond, ◌&&◌, ◌||◌, List, [], ◌∷◌, ◌++◌, get_or, refl, sym, ◌∙◌, ap, arith}
use Rattle.std.proofs.lemmas.Bool.{and_parts, and_from, cond-true}
use Rattle.std.proofs.lemmas.Slice.Eq.{bytes_eq-Decides}
use Rattle.std.specs.List.{list_all, filter, flat_map}
use Rattle.std.specs.Str.{bytes_eq}
use Rattle.spec_core.specs.declared.spec.Relation.{Relation}
use Rattle.spec_core.specs.declared.spec.Counter.{Counter}
use Rattle.spec_core.specs.declared.world.World.{World}
use Rattle.spec_core.specs.Specification.{Specification}
use Rattle.spec_core.specs.State.{Listing, Reads, reads, is_in, count_in, listed_keys, is_rising}
use Rattle.spec_core.specs.World.{tuples}
use Rattle.spec_core.specs.Truth.{int_eq}
use Rattle.spec_states.specs.StateText.{true_line, count_line, relation_lines, counter_lines, true_lines, count_lines, state_text, listed_text}
use Rattle.spec_core.specs.Fits.{fits_places, in_state_range, lists_fit, values_fit, is_state, is_counts, is_listing}
use Rattle.spec_core.proofs.Members.{is_in-tuples}
use Rattle.spec_states.proofs.Rising.{before, apart_from, rising_same, is_rising-filter, is_in-filter, is_rising-tuples}
use Rattle.spec_states.proofs.Sameness.{unlisted}
use Rattle.spec_core.proofs.States.{list_all-is_in, by_key}

-- ---- tuples

-- what fits and is listed in order are the tuples of the world that read true
listed_tuples : (w : World) (places : List ℕ) (l : List (List ℕ)) → is_rising l ≡ true → list_all (λ t. fits_places w places t) l ≡ true → l ≡ filter (λ t. is_in t l) (tuples w places)
listed_tuples w places l h fit =
    rising_same l (filter (λ t. is_in t l) (tuples w places)) h (is_rising-filter (λ t. is_in t l) (tuples w places) (is_rising-tuples w places))
    (λ q. listed (is_in q l) (fits_places w places q) (λ m. list_all-is_in (λ t. fits_places w places t) l q fit m)
    ∙ ap (λ b. b && is_in q l) (sym (is_in-tuples w places q)) ∙ sym (is_in-filter (λ t. is_in t l) (tuples w places) q))
  where
    listed : (a b : Bool) → (a ≡ true → b ≡ true) → a ≡ (b && a)
    listed a b h = grind arith

filter-same : {X : Type 0} (p q : X → Bool) (xs : List X) → ((x : X) → p x ≡ q x) → filter p xs ≡ filter q xs
filter-same p q [] h = refl
filter-same p q (x ∷ xs) h = λ i. cond (h x i) (x ∷ filter-same p q xs h i) (filter-same p q xs h i)

relations_text : (w : World) (r : Reads) (rs : List Relation) (ls : List (List (List ℕ))) (from : ℕ) → lists_fit w rs ls ≡ true → list_all is_rising ls ≡ true
    → ((n j : ℕ) (q : List ℕ) → n ≡ from + j → r.has n q ≡ is_in q (get_or ls j [])) → true_lines rs ls ≡ relation_lines w r from rs
relations_text w r [] ls from fit h e = refl
relations_text w r (x ∷ rs) [] from fit h e = absurd cc
relations_text w r (x ∷ rs) (l ∷ ls) from fit h e =
    let a = and_parts (list_all (λ t. fits_places w x.places t) l) (lists_fit w rs ls) fit in
    let b = and_parts (is_rising l) (list_all is_rising ls) h in
    let here : (q : List ℕ) → is_in q l ≡ r.has from q = λ q. sym (e from 0 q (let z : from ≡ from + 0 = omega arith in z)) in
    let one : l ≡ filter (r.has from) (tuples w x.places) = listed_tuples w x.places l b.0 a.0 ∙ filter-same (λ t. is_in t l) (r.has from) (tuples w x.places) here in
    let rest = relations_text w r rs ls (suc from) a.1 b.1 (λ n j q k. e n (suc j) q (let z : n ≡ from + suc j = omega (arith, k) in z)) in
    λ i. flat_map (true_line x.name) (one i) ++ rest i

-- ---- keys with values

flat_map-same : {X Y : Type 0} (p : X → Bool) (f g : X → List Y) (xs : List X) → list_all p xs ≡ true → ((x : X) → p x ≡ true → f x ≡ g x) → flat_map f xs ≡ flat_map g xs
flat_map-same p f g [] h e = refl
flat_map-same p f g (x ∷ xs) h e = let a = and_parts (p x) (list_all p xs) h in λ i. e x a.0 i ++ flat_map-same p f g xs a.1 e i

-- entries in order, by their keys
by_keys : {Y : Type 0} (f : List ℕ × ℤ → List Y) (es : List (List ℕ × ℤ)) → is_rising (listed_keys es) ≡ true → flat_map f es ≡ flat_map (λ q. f (q, count_in es q)) (listed_keys es)
by_keys f [] h = refl
by_keys f (e ∷ es) h =
    let a = and_parts (list_all (before e.0) (listed_keys es)) (is_rising (listed_keys es)) h in
    let first : f e ≡ f (e.0, count_in (e ∷ es) e.0) = ap (λ v. f (e.0, v)) (sym (at_first (bytes_eq e.0 e.0) ((bytes_eq-Decides e.0 e.0).1 refl))) in
    let rest : flat_map f es ≡ flat_map (λ q. f (q, count_in (e ∷ es) q)) (listed_keys es) = by_keys f es a.1 ∙ flat_map-same (before e.0) (λ q. f (q, count_in es q)) (λ q. f (q, count_in (e ∷ es) q)) (listed_keys es) a.0 (λ q b. ap (λ v. f (q, v)) (sym (later q (bytes_eq q e.0) refl b))) in
    λ i. first i ++ rest i
  where
    at_first : (b : Bool) → b ≡ true → cond b e.1 (count_in es e.0) ≡ e.1
    at_first true h = refl
    at_first false h = absurd cc

    later : (q : List ℕ) (b : Bool) → bytes_eq q e.0 ≡ b → before e.0 q ≡ true → cond b e.1 (count_in es q) ≡ count_in es q
    later q false h k = refl
    later q true h k = absurd (let s : q ≡ e.0 = (bytes_eq-Decides q e.0).0 h in let m = apart_from e.0 (q ∷ []) (and_from _ _ k refl) in let n : bytes_eq e.0 q ≡ true = (bytes_eq-Decides e.0 q).1 (sym s) in let o : (true || false) ≡ false = ap (λ b. b || false) (sym n) ∙ m in cc)

-- what gives nothing may be left out
left_out : {X Y : Type 0} (p : X → Bool) (g : X → List Y) (xs : List X) → ((x : X) → p x ≡ false → g x ≡ []) → flat_map g xs ≡ flat_map g (filter p xs)
left_out p g [] h = refl
left_out p g (x ∷ xs) h = at (p x) refl (left_out p g xs h)
  where
    at : (b : Bool) → p x ≡ b → flat_map g xs ≡ flat_map g (filter p xs) → g x ++ flat_map g xs ≡ flat_map g (cond b (x ∷ filter p xs) (filter p xs))
    at true e k = ap (λ ys. g x ++ ys) k
    at false e k = ap (λ ys. ys ++ flat_map g xs) (h x e) ∙ k

-- a value that has a line
abbrev pub is_written : ℤ → Bool
is_written v = not (int_eq v (pos 0))

nothing_written : (name q : List ℕ) (v : ℤ) → is_written v ≡ false → count_line name (q, v) ≡ []
nothing_written name q v h = let e : int_eq v (pos 0) ≡ true = grind arith in cond-true _ _ _ e

-- what fits and is listed in order has the keys of the world whose value isn't 0
written_keys : (w : World) (keys : List ℕ) (es : List (List ℕ × ℤ)) → is_rising (listed_keys es) ≡ true → list_all (fits_places w keys) (listed_keys es) ≡ true
    → filter (λ q. is_written (count_in es q)) (listed_keys es) ≡ filter (λ q. is_written (count_in es q)) (tuples w keys)
written_keys w keys es h fit =
    let p = λ (q : List ℕ). is_written (count_in es q) in
    rising_same (filter p (listed_keys es)) (filter p (tuples w keys)) (is_rising-filter p (listed_keys es) h) (is_rising-filter p (tuples w keys) (is_rising-tuples w keys))
    (λ q. is_in-filter p (listed_keys es) q
    ∙ listed (is_in q (listed_keys es)) (fits_places w keys q) (p q) (λ m. list_all-is_in (fits_places w keys) (listed_keys es) q fit m) (λ n. ap is_written (unlisted es q n))
    ∙ ap (λ b. b && p q) (sym (is_in-tuples w keys q)) ∙ sym (is_in-filter p (tuples w keys) q))
  where
    listed : (a b c : Bool) → (a ≡ true → b ≡ true) → (a ≡ false → c ≡ false) → (a && c) ≡ (b && c)
    listed true b c h k = ap (λ x. x && c) (sym (h refl))
    listed false b c h k = let e : c ≡ false = k refl in grind arith

keys_text : (w : World) (r : Reads) (c : Counter) (es : List (List ℕ × ℤ)) (from : ℕ) → is_counts es ≡ true → list_all (λ (e : List ℕ × ℤ). fits_places w c.keys e.0) es ≡ true → ((q : List ℕ) → count_in es q ≡ r.count from q)
    → flat_map (count_line c.name) es ≡ flat_map (λ q. count_line c.name (q, r.count from q)) (tuples w c.keys)
keys_text w r c es from h fit e =
    let p = λ (q : List ℕ). is_written (count_in es q) in
    let g = λ (q : List ℕ). count_line c.name (q, count_in es q) in
    let a = and_parts (is_rising (listed_keys es)) (list_all (λ (e : List ℕ × ℤ). in_state_range e.1) es) h in
    by_keys (count_line c.name) es a.0
    ∙ left_out p g (listed_keys es) (λ q n. nothing_written c.name q (count_in es q) n)
    ∙ ap (flat_map g) (written_keys w c.keys es a.0 (sym (by_key w c.keys es) ∙ fit))
    ∙ sym (left_out p g (tuples w c.keys) (λ q n. nothing_written c.name q (count_in es q) n))
    ∙ (λ i. flat_map (λ q. count_line c.name (q, e q i)) (tuples w c.keys))

counters_text : (w : World) (r : Reads) (cs : List Counter) (ls : List (List (List ℕ × ℤ))) (from : ℕ) → values_fit w cs ls ≡ true → list_all is_counts ls ≡ true
    → ((n j : ℕ) (q : List ℕ) → n ≡ from + j → r.count n q ≡ count_in (get_or ls j []) q) → count_lines cs ls ≡ counter_lines w r from cs
counters_text w r [] ls from fit h e = refl
counters_text w r (c ∷ cs) [] from fit h e = absurd cc
counters_text w r (c ∷ cs) (l ∷ ls) from fit h e =
    let a = and_parts (list_all (λ (e : List ℕ × ℤ). fits_places w c.keys e.0) l) (values_fit w cs ls) fit in
    let b = and_parts (is_counts l) (list_all is_counts ls) h in
    let one = keys_text w r c l from b.0 a.0 (λ q. sym (e from 0 q (let z : from ≡ from + 0 = omega arith in z))) in
    let rest = counters_text w r cs ls (suc from) a.1 b.1 (λ n j q k. e n (suc j) q (let z : n ≡ from + suc j = omega (arith, k) in z)) in
    λ i. one i ++ rest i

-- ---- whole states

pub text_of_readings : (d : Specification) (w : World) (s : Listing) → is_state d w s ≡ true → is_listing s ≡ true → listed_text d s ≡ state_text d w (reads s)
text_of_readings d w s fit h =
    let a = and_parts (lists_fit w d.relations s.relations) (values_fit w d.counters s.counters) fit in
    let b = and_parts (list_all is_rising s.relations) (list_all is_counts s.counters) h in
    let same : (n j : ℕ) → n ≡ 0 + j → n ≡ j = λ n j k. omega (arith, k) in
    let one = relations_text w (reads s) d.relations s.relations 0 a.0 b.0 (λ n j q k. ap (λ m. is_in q (get_or s.relations m [])) (same n j k)) in
    let other = counters_text w (reads s) d.counters s.counters 0 a.1 b.1 (λ n j q k. ap (λ m. count_in (get_or s.counters m []) q) (same n j k)) in
    λ i. one i ++ other i
