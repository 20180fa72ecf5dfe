-- How many formulas there are, counted before those on equal readings are made.
use Rattle.std.proofs.Common.{◌≡◌, ℕ, zero, suc, ◌+◌, ◌<◌, ◌≤◌, Bool, true, false, cond, List, [], ◌∷◌, ◌++◌, length, map, drop, drop-cons, get_or, length-append, refl, sym, ◌∙◌, ap, arith}
use Rattle.std.specs.Prelude.{ltb, Err}
use Rattle.std.specs.List.{filter, flat_map}
use Rattle.std.specs.Ordering.{nat_cmp, is_lt}
use Rattle.std.specs.Cmp.Lexicographic.{slice_cmp}
use Rattle.std.proofs.lemmas.Bool.{ltb-true, ltb-false}
use Rattle.std.proofs.lemmas.List.{length-map}
use Rattle.spec_core.specs.Specification.{Specification}
use Rattle.spec_core.specs.declared.update.Thing.{Thing}
use Rattle.spec_core.specs.declared.update.Thing.TheVariants as thing
use Rattle.obligation_list.specs.declared.obligation.Obligation.{Obligation}
use Rattle.obligation_list.specs.Obligations.{things}
use Rattle.effectors.specs.Effect.{is_thing}
use Rattle.ground_problem.specs.Symbols.{Symbolic}
use Rattle.ground_problem.specs.Definitions.{Reading}
use Rattle.ground_problem.specs.Equality.{congruent_pairs, insert_rising, rising, congruence}
use Rattle.ground_problem.specs.Problem.{formulas_of, most_formulas}
use Rattle.ground_atoms.specs.Formulas.{form_of}
use Rattle.ground_atoms.specs.Symbols.{reading_of}
use Rattle.ground_atoms.specs.declared.atom.NamedReading.{NamedReading}
use Rattle.ground_groups.specs.Calls.{numbered_arguments}
use Rattle.ground_groups.specs.declared.refused.GroundRefused.{GroundRefused}
use Rattle.ground_groups.specs.declared.refused.GroundRefused.TheVariants.{TooMany, Memory}
use Rattle.ground_groups.proofs.Lists.{upto_length}
use Rattle.instances.specs.Pairs.{pair_count}
use Rattle.instances.proofs.Pairs.{pairs_length}
use Rattle.instances.proofs.Whole.{few_made, many_made}
use Rattle.lazy_ground.specs.declared.front.Front.{Front}
use Rattle.lazy_ground.specs.Front.{front_of, entry_readings, IsFront}
use Rattle.lazy_ground.specs.Lazy.{IsGroundEither}
use Rattle.lazy_ground.specs.declared.pairs.ReadingPairs.{ReadingPairs}
use Rattle.lazy_ground.specs.Pairs.{pairs_of}
use Rattle.lazy_ground.specs.Named.{AreFound, known_after}
use Rattle.ground_groups.specs.declared.grounding.Grounding.{Grounding}
use Rattle.ground_groups.specs.Limited.{made_in, Makes}
use Rattle.lazy_ground.proofs.Parts.{front_then, three_parts, found_pairs}

-- ---- pairs

-- More than 250 have more pairs than there may be formulas.
pub pairs_many : (n : ℕ) → 250 < n → most_formulas < pair_count n
pairs_many zero h = absurd (omega (arith, h))
pairs_many (suc n) h = by_test (ltb 250 n) refl (pairs_many n)
  where
    by_test : (b : Bool) → ltb 250 n ≡ b → (250 < n → most_formulas < pair_count n) → most_formulas < n + pair_count n
    by_test true e g = let k = g (ltb-true 250 n e) in omega (arith, k)
    by_test false e g =
        let l = ltb-false 250 n e in
        let is : n ≡ 250 = omega (arith, l, h) in
        let p : pair_count n ≡ 31125 = ap pair_count is in
        omega (arith, is, p)

-- ---- the readings of a thing

-- how many of these readings are of a thing
abbrev pub readings_count : Thing → List NamedReading → ℕ
readings_count x rs = length (filter (λ q. is_thing q.thing x) (map reading_of rs))

-- ---- the formulas on equal readings

insert-length : (t : List ℕ) (us : List (List ℕ)) → length (insert_rising t us) ≡ suc (length us)
insert-length t [] = refl
insert-length t (u ∷ us) = by_test (is_lt (slice_cmp nat_cmp t u)) (insert-length t us)
  where
    by_test : (b : Bool) → length (insert_rising t us) ≡ suc (length us) → length (cond b (t ∷ u ∷ us) (u ∷ insert_rising t us)) ≡ suc (suc (length us))
    by_test true e = refl
    by_test false e = ap suc e

rising-length : (qs : List Reading) → length (rising qs) ≡ length qs
rising-length [] = refl
rising-length (q ∷ qs) = insert-length q.tuple (rising qs) ∙ ap suc (rising-length qs)

-- those of a thing
abbrev of_thing : List Reading → Thing → List Symbolic
of_thing qs x = congruent_pairs x (rising (filter (λ q. is_thing q.thing x) qs))

of_thing-length : (qs : List Reading) (x : Thing) → length (of_thing qs x) ≡ pair_count (length (filter (λ q. is_thing q.thing x) qs))
of_thing-length qs x =
    pairs_length x (rising (filter (λ q. is_thing q.thing x) qs)) ∙ ap pair_count (rising-length (filter (λ q. is_thing q.thing x) qs))

-- one thing more
pub equal_next : (rs : List NamedReading) (xs : List Thing) (i : ℕ) (d : Thing) (n : ℕ) → i < length xs → n ≡ readings_count (get_or xs i d) rs
    → length (congruence (map reading_of rs) (drop i xs)) ≡ pair_count n + length (congruence (map reading_of rs) (drop (i + 1) xs))
equal_next rs xs i d n h k =
    let qs = map reading_of rs in
    let x = get_or xs i d in
    let e : suc i ≡ i + 1 = omega arith in
    let p : congruence qs (drop i xs) ≡ of_thing qs x ++ congruence qs (drop (i + 1) xs) = ap (congruence qs) (drop-cons xs i d h ∙ (λ j. x ∷ drop (e j) xs)) in
    let a = ap length p ∙ length-append (of_thing qs x) (congruence qs (drop (i + 1) xs)) in
    let b = of_thing-length qs x ∙ ap pair_count (sym k) in
    omega (arith, a, b)

-- ---- pairs that are made

-- one relation more
pub count_next : (ss : List ReadingPairs) (i : ℕ) (s : ReadingPairs) (m : ℕ) → i < length ss → s ≡ get_or ss i s → m ≡ length s.tuples
    → length (flat_map pairs_of (drop i ss)) ≡ pair_count m + length (flat_map pairs_of (drop (i + 1) ss))
count_next ss i s m h is k =
    let g : suc i ≡ i + 1 = omega arith in
    let p : flat_map pairs_of (drop i ss) ≡ pairs_of s ++ flat_map pairs_of (drop (i + 1) ss) = ap (flat_map pairs_of) (drop-cons ss i s h) ∙ (λ j. pairs_of (sym is j) ++ flat_map pairs_of (drop (g j) ss)) in
    let q = ap length p ∙ length-append (pairs_of s) (flat_map pairs_of (drop (i + 1) ss)) in
    let r = pairs_length (thing.Relation s.relation) s.tuples ∙ ap pair_count (sym k) in
    omega (arith, q, r)

-- ---- the list

-- The same, where the pairs of the first things are made.
pub found_count : (d : Specification) (ob : Obligation) (f : Front) (rs : List NamedReading) (ss : List ReadingPairs) (xs ys : List Thing) → IsFront d ob f → rs ≡ f.readings
    → AreFound f.grounding.atoms.table (map reading_of f.readings) xs ss → xs ++ ys ≡ things d
    → length f.grounding.formulas + (length (flat_map pairs_of ss) + length (congruence (map reading_of rs) ys)) ≡ length (formulas_of d ob)
found_count d ob f rs ss xs ys is q found all =
    let a = upto_length [] (numbered_arguments d ob) (front_of d ob) (made_in f.grounding) is.made in
    let b = length-map f.grounding.formulas form_of in
    let c = ap length (sym (three_parts d ob xs ys all)) ∙ length-append (front_of d ob) (congruence (entry_readings d ob) xs ++ congruence (entry_readings d ob) ys) in
    let e = length-append (congruence (entry_readings d ob) xs) (congruence (entry_readings d ob) ys) in
    let g : length (flat_map pairs_of ss) ≡ length (congruence (entry_readings d ob) xs) =
    ap length (found_pairs f.grounding.atoms.table (map reading_of f.readings) xs ss found) ∙ ap (λ (qs : List Reading). length (congruence qs xs)) is.readings in
    let h : length (congruence (map reading_of rs) ys) ≡ length (congruence (entry_readings d ob) ys) = ap (λ (qs : List Reading). length (congruence qs ys)) (ap (map reading_of) q ∙ is.readings) in
    omega (arith, a, b, c, e, g, h)

-- The list has as many as the front, and those on equal readings.
pub front_count : (d : Specification) (ob : Obligation) (f : Front) (rs : List NamedReading) (xs : List Thing) → IsFront d ob f → rs ≡ f.readings → xs ≡ things d
    → length f.grounding.formulas + length (congruence (map reading_of rs) xs) ≡ length (formulas_of d ob)
front_count d ob f rs xs is q e =
    let a = upto_length [] (numbered_arguments d ob) (front_of d ob) (made_in f.grounding) is.made in
    let b = length-map f.grounding.formulas form_of in
    let c = ap length (sym (front_then d ob)) ∙ length-append (front_of d ob) (congruence (entry_readings d ob) (things d)) in
    let p : map reading_of rs ≡ entry_readings d ob = ap (map reading_of) q ∙ is.readings in
    let g : length (congruence (map reading_of rs) xs) ≡ length (congruence (entry_readings d ob) (things d)) = (λ i. length (congruence (p i) (e i))) in
    omega (arith, a, b, c, g)

-- The front has no more than there may be.
pub front_few : (d : Specification) (ob : Obligation) (f : Front) → IsFront d ob f → length f.grounding.formulas ≤ most_formulas
front_few d ob f is =
    let a = upto_length [] (numbered_arguments d ob) (front_of d ob) (made_in f.grounding) is.made in
    let b = length-map f.grounding.formulas form_of in
    let c = few_made (numbered_arguments d ob) (front_of d ob) _ is.made in
    omega (arith, a, b, c)

-- Where some of those on equal readings are too many, the list has too many.
pub behind_refused : (d : Specification) (ob : Obligation) (why : GroundRefused) (f : Front) (ps : List Symbolic) (new : Grounding) (rs : List NamedReading) (xs ys : List Thing)
    → IsFront d ob f → xs ++ ys ≡ things d → rs ≡ f.readings → Makes {A = Unit {0}} (Err why) (known_after f.grounding.atoms ps) (congruence (map reading_of rs) ys) new → IsGroundEither d ob (Err why)
behind_refused d ob TooMany f ps new rs xs ys is all e h =
    let n = many_made (known_after f.grounding.atoms ps) (congruence (map reading_of rs) ys) h in
    let q : congruence (map reading_of rs) ys ≡ congruence (entry_readings d ob) ys = ap (λ (qs : List Reading). congruence qs ys) (ap (map reading_of) e ∙ is.readings) in
    let a = ap length (sym (three_parts d ob xs ys all)) ∙ length-append (front_of d ob) (congruence (entry_readings d ob) xs ++ congruence (entry_readings d ob) ys) in
    let b = length-append (congruence (entry_readings d ob) xs) (congruence (entry_readings d ob) ys) in
    let c = ap length q in
    omega (arith, n, a, b, c)
behind_refused d ob Memory f ps new rs xs ys is all e h = tt
