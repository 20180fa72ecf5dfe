-- One of some distinct names is read as its place.
use Rattle.std.proofs.Common.{◌≡◌, ℕ, zero, suc, ◌+◌, ◌-◌, ◌<◌, ◌≤◌, Bool, true, false, not, ◌&&◌, ◌||◌, List, [], ◌∷◌, length, drop, get_or, Some, inl, inr, refl, sym, ap, subst, ◌∙◌, arith, length-drop}
use Rattle.std.specs.Prelude.{nat_lt, nat_le}
use Rattle.std.specs.Str.{bytes_eq}
use Rattle.std.proofs.lemmas.Bool.{and_parts, false≢true}
use Rattle.std.proofs.lemmas.Bool.Decides.{nat_tests}
use Rattle.std.proofs.lemmas.Option.{none-some, same_Some}
use Rattle.std.proofs.lemmas.List.{get_or-drop}
use Rattle.spec_core.specs.State.{is_in}
use Rattle.spec_core.specs.Typed.{all_distinct}
use Rattle.report_lines.specs.Formats.{IsExact, place_from, among}
use Rattle.report_lines.proofs.Exact.{chosen, same_bytes, itself, word_exact}

-- ---- found

abbrev Found : ℕ → List (List ℕ) → List ℕ → ℕ → Type 0
Found i names w k = (j : ℕ) × (k ≡ i + j) × (j < length names) × (w ≡ get_or names j [])

found : (i : ℕ) (names : List (List ℕ)) (w : List ℕ) (k : ℕ) → place_from i names w ≡ Some k → Found i names w k
found i [] w k e = absurd (none-some _ e)
found i (n ∷ names) w k e =
    elim (chosen (bytes_eq w n) (Some i) (place_from (suc i) names w) (Some k) e) [
      | inl h ↦ let s = same_Some i k h.1 in (0, omega (arith, s), omega arith, same_bytes w n h.0)
      | inr h ↦ let r = found (suc i) names w k h.1 in (suc r.0, omega (arith, r.1), omega (arith, r.2), r.3)
    ]

-- ---- found again

in_list : (names : List (List ℕ)) (j : ℕ) → j < length names → is_in (get_or names j []) names ≡ true
in_list [] j lt = absurd (omega (arith, lt))
in_list (n ∷ names) zero lt = let s = itself n in rw s refl
in_list (n ∷ names) (suc j) lt = or_right (bytes_eq (get_or names j []) n) _ (in_list names j (omega (arith, lt)))
  where
    or_right : (a b : Bool) → b ≡ true → (a || b) ≡ true
    or_right true b h = refl
    or_right false b h = h

other_name : (n w : List ℕ) (names : List (List ℕ)) → not (is_in n names) ≡ true → is_in w names ≡ true → bytes_eq w n ≡ false
other_name n w names h g = by (bytes_eq w n) refl
  where
    not_both : (b : Bool) → not b ≡ true → b ≡ true → ⊥
    not_both true h g = false≢true h
    not_both false h g = false≢true g

    by : (b : Bool) → bytes_eq w n ≡ b → bytes_eq w n ≡ false
    by true e = absurd (not_both (is_in n names) h (subst (λ (x : List ℕ). is_in x names ≡ true) (same_bytes w n e) g))
    by false e = e

pub place_again : (i : ℕ) (names : List (List ℕ)) (j : ℕ) → all_distinct names ≡ true → j < length names → place_from i names (get_or names j []) ≡ Some (i + j)
place_again i [] j h lt = absurd (omega (arith, lt))
place_again i (n ∷ names) zero h lt = let s = itself n in let z : i ≡ i + 0 = omega arith in rw s (ap Some z)
place_again i (n ∷ names) (suc j) h lt =
    let p = and_parts (not (is_in n names)) (all_distinct names) h in
    let less : j < length names = omega (arith, lt) in
    let o = other_name n (get_or names j []) names p.0 (in_list names j less) in
    let v = place_again (suc i) names j p.1 less in
    let z : suc i + j ≡ i + suc j = omega arith in
    rw o (v ∙ ap Some z)

drop_distinct : (n : ℕ) (names : List (List ℕ)) → all_distinct names ≡ true → all_distinct (drop n names) ≡ true
drop_distinct zero names h = h
drop_distinct (suc n) [] h = refl
drop_distinct (suc n) (m ∷ names) h = drop_distinct n names (and_parts (not (is_in m names)) (all_distinct names) h).1

-- ---- the format

within : (from k j n : ℕ) → k ≡ from + j → j < n - from → (nat_le from k && nat_lt k n) ≡ true
within from k j n e lt = grind (arith, nat_tests)

inside : (from k n : ℕ) → (nat_le from k && nat_lt k n) ≡ true → (from ≤ k) × (k < n)
inside from k n e = grind (arith, nat_tests)

-- the place of a word that was found
pub place_is : (from : ℕ) (names : List (List ℕ)) (w : List ℕ) (k : ℕ) → place_from from (drop from names) w ≡ Some k → (w ≡ get_or names k []) × ((nat_le from k && nat_lt k (length names)) ≡ true)
place_is from names w k e =
    let f = found from (drop from names) w k e in
    let j = f.0 in
    let at : get_or (drop from names) j [] ≡ get_or names (from + j) [] = get_or-drop from names j [] in
    let l : length (drop from names) ≡ length names - from = length-drop from names in
    let lt : j < length names - from = subst (λ (n : ℕ). j < n) l f.2 in
    (f.3 ∙ at ∙ ap (λ (n : ℕ). get_or names n []) (sym f.1), within from k j (length names) f.1 lt)

place_read : (from : ℕ) (names : List (List ℕ)) (k : ℕ) → all_distinct names ≡ true → from ≤ k → k < length names → place_from from (drop from names) (get_or names k []) ≡ Some k
place_read from names k distinct le lt =
    let j : ℕ = k - from in
    let s : from + j ≡ k = omega arith in
    let l : length (drop from names) ≡ length names - from = length-drop from names in
    let less : j < length (drop from names) = subst (λ (n : ℕ). j < n) (sym l) (omega arith) in
    let at : get_or (drop from names) j [] ≡ get_or names k [] = get_or-drop from names j [] ∙ ap (λ (n : ℕ). get_or names n []) s in
    let v = place_again from (drop from names) j (drop_distinct from names distinct) less in
    ap (place_from from (drop from names)) (sym at) ∙ v ∙ ap Some s

pub among_exact : (from : ℕ) (names : List (List ℕ)) → all_distinct names ≡ true → IsExact (among from names)
among_exact from names distinct = word_exact (place_from from (drop from names)) (λ k. get_or names k []) (λ k. nat_le from k && nat_lt k (length names)) (record {
  ok = λ w k e f. (place_is from names w k e).0;
  again = λ k f. let p = inside from k (length names) f in place_read from names k distinct p.0 p.1;
})
