-- Choices of constants and of elements.
use Rattle.std.proofs.Common.{◌≡◌, ℕ, zero, suc, ◌+◌, ◌<◌, ◌==◌, nat_lt, Bool, true, false, cond, ◌&&◌, inl, inr, List, [], ◌∷◌, ◌++◌, map, length, slice_index, bytes_eq, flat_map, refl, sym, ◌∙◌, ap, subst, arith}
use Rattle.std.specs.List.{list_any}
use Rattle.std.proofs.lemmas.Bool.{and_parts, and_from, or_cases, or_left, or_right}
use Rattle.std.proofs.lemmas.Bool.Decides.{nat_tests}
use Rattle.std.proofs.lemmas.Slice.Eq.{bytes_eq-Decides}
use Rattle.spec_core.specs.declared.world.World.{World}
use Rattle.spec_core.specs.World.{size_of}
use Rattle.spec_core.specs.State.{is_in}
use Rattle.spec_core.specs.Fits.{fits_places}
use Rattle.spec_core.proofs.Members.{nil_in-each_before, cons_in-each_before}
use Rattle.ground_problem.specs.Constants.{of_sort, choices, concatenated}

-- ---- one of some tuples

pub record Found (p : List ℕ → Bool) (ts : List (List ℕ)) : Type 0 where
  pub it : List ℕ
  pub there : is_in it ts ≡ true
  pub fine : p it ≡ true

in_here : (t : List ℕ) (ts : List (List ℕ)) → is_in t (t ∷ ts) ≡ true
in_here t ts = or_left (bytes_eq t t) (is_in t ts) ((bytes_eq-Decides t t).1 refl)

pub find_one : (p : List ℕ → Bool) (ts : List (List ℕ)) → list_any p ts ≡ true → Found p ts
find_one p [] h = absurd cc
find_one p (t ∷ ts) h = elim (or_cases (p t) (list_any p ts) h) [
  | inl e ↦ record { it = t; there = in_here t ts; fine = e }
  | inr l ↦ (let f = find_one p ts l in record { it = f.it; there = or_right (bytes_eq f.it t) (is_in f.it ts) f.there; fine = f.fine })
]

pub some_at : (p : List ℕ → Bool) (ts : List (List ℕ)) (t : List ℕ) → is_in t ts ≡ true → p t ≡ true → list_any p ts ≡ true
some_at p [] t h k = absurd cc
some_at p (u ∷ us) t h k = elim (or_cases (bytes_eq t u) (is_in t us) h) [
  | inl e ↦ or_left (p u) (list_any p us) (sym (ap p ((bytes_eq-Decides t u).0 e)) ∙ k)
  | inr l ↦ or_right (p u) (list_any p us) (some_at p us t l k)
]

-- ---- members of choices

abbrev pub one_of : ℕ → List ℕ → Bool
one_of x xs = list_any (λ e. x == e) xs

abbrev pub members : List (List ℕ) → List ℕ → Bool
members [] [] = true
members [] (x ∷ xs) = false
members (c ∷ cs) [] = false
members (c ∷ cs) (x ∷ xs) = one_of x c && members cs xs

pub in_choices : (cs : List (List ℕ)) (t : List ℕ) → is_in t (choices cs) ≡ members cs t
in_choices [] [] = refl
in_choices [] (x ∷ xs) = refl
in_choices (c ∷ cs) [] = nil_in-each_before c (choices cs)
in_choices (c ∷ cs) (x ∷ xs) = cons_in-each_before x xs c (choices cs) ∙ ap (λ (b : Bool). one_of x c && b) (in_choices cs xs)

pub members_length : (cs : List (List ℕ)) (t : List ℕ) → members cs t ≡ true → length t ≡ length cs
members_length [] [] h = refl
members_length [] (x ∷ xs) h = absurd cc
members_length (c ∷ cs) [] h = absurd cc
members_length (c ∷ cs) (x ∷ xs) h = ap suc (members_length cs xs (and_parts (one_of x c) (members cs xs) h).1)

same_number : (x y : ℕ) → (x == y) ≡ true → x ≡ y
same_number x y e = grind (arith, nat_tests)

-- a constant of a sort, by its place in the list of sorts
pub in_sort : (x n : ℕ) (sorts : List ℕ) (s : ℕ) → one_of x (of_sort n sorts s) ≡ true → (j : ℕ) × (x ≡ n + j) × (j < length sorts) × (slice_index sorts j ≡ s)
in_sort x n [] s h = absurd cc
in_sort x n (t ∷ ts) s h = by_sort (t == s) refl h (in_sort x (suc n) ts s)
  where
    shift : (j : ℕ) × (x ≡ suc n + j) × (j < length ts) × (slice_index ts j ≡ s) → (j : ℕ) × (x ≡ n + j) × (j < suc (length ts)) × (slice_index (t ∷ ts) j ≡ s)
    shift p = (let a = p.1 in let b = p.2 in (suc p.0, omega arith, omega arith, p.3))

    by_sort : (b : Bool) → (t == s) ≡ b → one_of x (cond b (n ∷ of_sort (suc n) ts s) (of_sort (suc n) ts s)) ≡ true
        → (one_of x (of_sort (suc n) ts s) ≡ true → (j : ℕ) × (x ≡ suc n + j) × (j < length ts) × (slice_index ts j ≡ s))
        → (j : ℕ) × (x ≡ n + j) × (j < suc (length ts)) × (slice_index (t ∷ ts) j ≡ s)
    by_sort true e h ih = elim (or_cases (x == n) (one_of x (of_sort (suc n) ts s)) h) [
      | inl q ↦ (let r = same_number x n q in (0, omega arith, omega arith, same_number t s e))
      | inr l ↦ shift (ih l)
    ]
    by_sort false e h ih = shift (ih h)

-- ---- values that fit their sorts

-- each value is below the size of its sort
pub record Fit (w : World) (sorts : List ℕ) (val : ℕ → ℕ) : Type 0 where
  pub below : (n : ℕ) → n < length sorts → val n < size_of w (slice_index sorts n)

-- an element for each of these sorts
abbrev pub InSorts : World → List ℕ → List ℕ → Type 0
InSorts w sorts t = fits_places w sorts t ≡ true

lt_test : (a b : ℕ) → a < b → nat_lt a b ≡ true
lt_test a b h = grind (arith, nat_tests)

test_lt : (a b : ℕ) → nat_lt a b ≡ true → a < b
test_lt a b h = grind (arith, nat_tests)

-- the values of constants of these sorts are elements of them
pub assigned_fits : (w : World) (sorts : List ℕ) (val : ℕ → ℕ) → Fit w sorts val → (vars vs : List ℕ) → members (map (of_sort 0 sorts) vars) vs ≡ true → InSorts w vars (map val vs)
assigned_fits w sorts val f [] [] h = refl
assigned_fits w sorts val f [] (x ∷ xs) h = absurd cc
assigned_fits w sorts val f (s ∷ ss) [] h = absurd cc
assigned_fits w sorts val f (s ∷ ss) (x ∷ xs) h =
    let h2 = and_parts (one_of x (of_sort 0 sorts s)) (members (map (of_sort 0 sorts) ss) xs) h in
    let p = in_sort x 0 sorts s h2.0 in
    let e : x ≡ p.0 = (let q = p.1 in omega arith) in
    let b = f.below p.0 p.2 in
    and_from (nat_lt (val x) (size_of w s)) (fits_places w ss (map val xs))
    (lt_test (val x) (size_of w s) (subst (λ (y : ℕ). val y < size_of w s) (sym e) (subst (λ (y : ℕ). val p.0 < size_of w y) p.3 b)))
    (assigned_fits w sorts val f ss xs h2.1)

pub fits_from : (w : World) (sorts vals : List ℕ) → InSorts w sorts vals → Fit w sorts (slice_index vals)
fits_from w [] [] h = record { below = λ n l. absurd (omega arith) }
fits_from w [] (x ∷ xs) h = absurd cc
fits_from w (s ∷ ss) [] h = absurd cc
fits_from w (s ∷ ss) (x ∷ xs) h = (let h2 = and_parts (nat_lt x (size_of w s)) (fits_places w ss xs) h in record { below = at (test_lt x (size_of w s) h2.0) (fits_from w ss xs h2.1) })
  where
    at : x < size_of w s → Fit w ss (slice_index xs) → (n : ℕ) → n < suc (length ss) → slice_index (x ∷ xs) n < size_of w (slice_index (s ∷ ss) n)
    at head rest zero l = head
    at head rest (suc n) l = rest.below n (omega arith)

pub in_sorts_append : (w : World) (a b t u : List ℕ) → InSorts w a t → InSorts w b u → InSorts w (a ++ b) (t ++ u)
in_sorts_append w [] b [] u h k = k
in_sorts_append w [] b (x ∷ xs) u h k = absurd cc
in_sorts_append w (s ∷ ss) b [] u h k = absurd cc
in_sorts_append w (s ∷ ss) b (x ∷ xs) u h k = (let h2 = and_parts (nat_lt x (size_of w s)) (fits_places w ss xs) h in and_from (nat_lt x (size_of w s)) (fits_places w (ss ++ b) (xs ++ u)) h2.0 (in_sorts_append w ss b xs u h2.1 k))

pub in_sorts_length : (w : World) (a t : List ℕ) → InSorts w a t → length t ≡ length a
in_sorts_length w [] [] h = refl
in_sorts_length w [] (x ∷ xs) h = absurd cc
in_sorts_length w (s ∷ ss) [] h = absurd cc
in_sorts_length w (s ∷ ss) (x ∷ xs) h = ap suc (in_sorts_length w ss xs (and_parts (nat_lt x (size_of w s)) (fits_places w ss xs) h).1)

abbrev pub InLists : World → List (List ℕ) → List (List ℕ) → Type 0
InLists w [] [] = Unit {0}
InLists w [] (t ∷ ts) = ⊥
InLists w (s ∷ ss) [] = ⊥
InLists w (s ∷ ss) (t ∷ ts) = InSorts w s t × InLists w ss ts

abbrev pub InAll : World → List (List (List ℕ)) → List (List (List ℕ)) → Type 0
InAll w [] [] = Unit {0}
InAll w [] (t ∷ ts) = ⊥
InAll w (s ∷ ss) [] = ⊥
InAll w (s ∷ ss) (t ∷ ts) = InLists w s t × InAll w ss ts

pub in_concatenated : (w : World) (ss ts : List (List ℕ)) → InLists w ss ts → InSorts w (concatenated ss) (concatenated ts)
in_concatenated w [] [] h = refl
in_concatenated w [] (t ∷ ts) h = absurd h
in_concatenated w (s ∷ ss) [] h = absurd h
in_concatenated w (s ∷ ss) (t ∷ ts) h = in_sorts_append w s (concatenated ss) t (concatenated ts) h.0 (in_concatenated w ss ts h.1)

pub in_all_concatenated : (w : World) (ss ts : List (List (List ℕ))) → InAll w ss ts → InSorts w (flat_map concatenated ss) (flat_map concatenated ts)
in_all_concatenated w [] [] h = refl
in_all_concatenated w [] (t ∷ ts) h = absurd h
in_all_concatenated w (s ∷ ss) [] h = absurd h
in_all_concatenated w (s ∷ ss) (t ∷ ts) h = in_sorts_append w (concatenated s) (flat_map concatenated ss) (concatenated t) (flat_map concatenated ts) (in_concatenated w s t h.0) (in_all_concatenated w ss ts h.1)
