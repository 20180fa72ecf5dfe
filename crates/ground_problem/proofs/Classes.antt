-- Classes of constants that are alike, each by its first member.
use Rattle.std.proofs.Common.{◌≡◌, ℕ, zero, suc, ◌+◌, ◌<◌, ◌==◌, Bool, true, false, cond, ◌||◌, inl, inr, List, [], ◌∷◌, ◌++◌, length, slice_index, refl, sym, ◌∙◌, ap, subst, arith}
use Rattle.std.proofs.lemmas.Bool.{eqb-true, or_cases, or_left, or_right}
use Rattle.std.proofs.lemmas.Bool.Decides.{nat_tests}
use Rattle.ground_problem.specs.Classes.{any_like, firsts, place_like}
use Rattle.ground_problem.proofs.Choices.{one_of}

one_of_here : (x : ℕ) (xs : List ℕ) → one_of x (x ∷ xs) ≡ true
one_of_here x xs = grind (arith, nat_tests)

pub like_append : (like : ℕ → ℕ → Bool) (c : ℕ) (xs ys : List ℕ) → any_like like c (xs ++ ys) ≡ (any_like like c xs || any_like like c ys)
like_append like c [] ys = refl
like_append like c (x ∷ xs) ys = ap (λ (b : Bool). like x c || b) (like_append like c xs ys) ∙ or_assoc (like x c) (any_like like c xs) (any_like like c ys)
  where
    or_assoc : (a b c : Bool) → (a || (b || c)) ≡ ((a || b) || c)
    or_assoc a b c = grind arith

pub firsts_in : (like : ℕ → ℕ → Bool) (seen xs : List ℕ) (c : ℕ) → one_of c (firsts like seen xs) ≡ true → one_of c xs ≡ true
firsts_in like seen [] c h = h
firsts_in like seen (x ∷ xs) c h = by_test (any_like like x seen) h (firsts_in like seen xs c) (firsts_in like (seen ++ x ∷ []) xs c)
  where
    by_test : (b : Bool) → one_of c (cond b (firsts like seen xs) (x ∷ firsts like (seen ++ x ∷ []) xs)) ≡ true → (one_of c (firsts like seen xs) ≡ true → one_of c xs ≡ true) → (one_of c (firsts like (seen ++ x ∷ []) xs) ≡ true → one_of c xs ≡ true) → ((c == x) || one_of c xs) ≡ true
    by_test true h p q = or_right (c == x) (one_of c xs) (p h)
    by_test false h p q = elim (or_cases (c == x) (one_of c (firsts like (seen ++ x ∷ []) xs)) h) [ inl e ↦ or_left (c == x) (one_of c xs) e | inr l ↦ or_right (c == x) (one_of c xs) (q l) ]

module _ (like : ℕ → ℕ → Bool) (self : (a : ℕ) → like a a ≡ true) where
  -- each is like a first, or like one seen before
  pub firsts_cover : (seen xs : List ℕ) (c : ℕ) → one_of c xs ≡ true → (any_like like c seen || any_like like c (firsts like seen xs)) ≡ true
  firsts_cover seen [] c h = absurd cc
  firsts_cover seen (x ∷ xs) c h = by_test (any_like like x seen) refl (firsts_cover seen xs c) (firsts_cover (seen ++ x ∷ []) xs c)
    where
      here : (b : Bool) → any_like like x seen ≡ b → (c == x) ≡ true → (any_like like c seen || any_like like c (cond b (firsts like seen xs) (x ∷ firsts like (seen ++ x ∷ []) xs))) ≡ true
      here true e q = or_left (any_like like c seen) _ (let s = eqb-true c x q in subst (λ (y : ℕ). any_like like y seen ≡ true) (sym s) e)
      here false e q = or_right (any_like like c seen) _ (or_left (like x c) (any_like like c (firsts like (seen ++ x ∷ []) xs)) (let s = eqb-true c x q in subst (λ (y : ℕ). like x y ≡ true) (sym s) (self x)))

      later : (b : Bool) → (any_like like c seen || any_like like c (firsts like seen xs)) ≡ true → (any_like like c (seen ++ x ∷ []) || any_like like c (firsts like (seen ++ x ∷ []) xs)) ≡ true → (any_like like c seen || any_like like c (cond b (firsts like seen xs) (x ∷ firsts like (seen ++ x ∷ []) xs))) ≡ true
      later true p q = p
      later false p q = (let e = like_append like c seen (x ∷ []) in regroup (any_like like c seen) (like x c) (any_like like c (firsts like (seen ++ x ∷ []) xs)) (any_like like c (seen ++ x ∷ [])) e q)
        where
          regroup : (a b c d : Bool) → d ≡ (a || (b || false)) → (d || c) ≡ true → (a || (b || c)) ≡ true
          regroup a b c d e h = grind arith

      by_test : (b : Bool) → any_like like x seen ≡ b → (one_of c xs ≡ true → (any_like like c seen || any_like like c (firsts like seen xs)) ≡ true) → (one_of c xs ≡ true → (any_like like c (seen ++ x ∷ []) || any_like like c (firsts like (seen ++ x ∷ []) xs)) ≡ true)
          → (any_like like c seen || any_like like c (cond b (firsts like seen xs) (x ∷ firsts like (seen ++ x ∷ []) xs))) ≡ true
      by_test b e p q = elim (or_cases (c == x) (one_of c xs) h) [ inl s ↦ here b e s | inr l ↦ later b (p l) (q l) ]

  pub place_below : (c : ℕ) (xs : List ℕ) → any_like like c xs ≡ true → place_like like c xs < length xs
  place_below c [] h = absurd cc
  place_below c (x ∷ xs) h = by_test (like x c) h (place_below c xs)
    where
      by_test : (b : Bool) → (b || any_like like c xs) ≡ true → (any_like like c xs ≡ true → place_like like c xs < length xs) → cond b 0 (suc (place_like like c xs)) < suc (length xs)
      by_test true h p = omega arith
      by_test false h p = (let q = p h in omega arith)

  pub place_is_like : (c : ℕ) (xs : List ℕ) → any_like like c xs ≡ true → like (slice_index xs (place_like like c xs)) c ≡ true
  place_is_like c [] h = absurd cc
  place_is_like c (x ∷ xs) h = by_test (like x c) refl h (place_is_like c xs)
    where
      by_test : (b : Bool) → like x c ≡ b → (b || any_like like c xs) ≡ true → (any_like like c xs ≡ true → like (slice_index xs (place_like like c xs)) c ≡ true) → like (slice_index (x ∷ xs) (cond b 0 (suc (place_like like c xs)))) c ≡ true
      by_test true e h p = e
      by_test false e h p = p h

  -- those that are like the same have one place
  pub place_same : (a b : ℕ) (xs : List ℕ) → ((x : ℕ) → one_of x xs ≡ true → like x a ≡ like x b) → place_like like a xs ≡ place_like like b xs
  place_same a b [] h = refl
  place_same a b (x ∷ xs) h = (let e = h x (one_of_here x xs) in let q = place_same a b xs (λ y l. h y (or_right (y == x) (one_of y xs) l)) in cc)

  -- no first is like one before it
  abbrev pub Apart : List ℕ → List ℕ → Type 0
  Apart seen [] = Unit {0}
  Apart seen (x ∷ xs) = (any_like like x seen ≡ false) × Apart (seen ++ x ∷ []) xs

  pub firsts_apart : (seen xs : List ℕ) → Apart seen (firsts like seen xs)
  firsts_apart seen [] = tt
  firsts_apart seen (x ∷ xs) = by_test (any_like like x seen) refl (firsts_apart seen xs) (firsts_apart (seen ++ x ∷ []) xs)
    where
      by_test : (b : Bool) → any_like like x seen ≡ b → Apart seen (firsts like seen xs) → Apart (seen ++ x ∷ []) (firsts like (seen ++ x ∷ []) xs) → Apart seen (cond b (firsts like seen xs) (x ∷ firsts like (seen ++ x ∷ []) xs))
      by_test true e p q = p
      by_test false e p q = (e, q)

  -- where one seen is left out, the others stay apart
  place_in : (seen : List ℕ) (c : ℕ) (xs : List ℕ) → any_like like c seen ≡ false → place_like like c (seen ++ c ∷ xs) ≡ length seen
  place_in [] c xs h = ap (λ (b : Bool). cond b 0 (suc (place_like like c xs))) (self c)
  place_in (x ∷ seen) c xs h = (let p = left_false (like x c) (any_like like c seen) h in ap (λ (b : Bool). cond b 0 (suc (place_like like c (seen ++ c ∷ xs)))) p.0 ∙ ap suc (place_in seen c xs p.1))
    where
      left_false : (a b : Bool) → (a || b) ≡ false → (a ≡ false) × (b ≡ false)
      left_false a b h = grind arith

  -- the place of each first is its own
  pub place_of_first : (seen xs : List ℕ) (e : ℕ) → Apart seen xs → e < length xs → place_like like (slice_index xs e) (seen ++ xs) ≡ length seen + e
  place_of_first seen [] e h k = absurd (omega arith)
  place_of_first seen (x ∷ xs) zero h k = place_in seen x xs h.0 ∙ (let q : length seen ≡ length seen + 0 = omega arith in q)
  place_of_first seen (x ∷ xs) (suc e) h k = ap (place_like like (slice_index xs e)) (moved seen x xs) ∙ place_of_first (seen ++ x ∷ []) xs e h.1 (omega arith) ∙ (let q = longer seen x in omega arith)
    where
      moved : (seen : List ℕ) (x : ℕ) (xs : List ℕ) → seen ++ x ∷ xs ≡ (seen ++ x ∷ []) ++ xs
      moved [] x xs = refl
      moved (y ∷ seen) x xs = ap (λ (l : List ℕ). y ∷ l) (moved seen x xs)

      longer : (seen : List ℕ) (x : ℕ) → length (seen ++ x ∷ []) ≡ length seen + 1
      longer [] x = omega arith
      longer (y ∷ seen) x = (let q = longer seen x in omega arith)

pub one_of_index : (xs : List ℕ) (e : ℕ) → e < length xs → one_of (slice_index xs e) xs ≡ true
one_of_index [] e h = absurd (omega arith)
one_of_index (x ∷ xs) zero h = one_of_here x xs
one_of_index (x ∷ xs) (suc e) h = or_right (slice_index xs e == x) (one_of (slice_index xs e) xs) (one_of_index xs e (omega arith))
