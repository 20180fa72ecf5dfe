use Rattle.std.proofs.Common.{◌≡◌, ℕ, zero, suc, ◌+◌, ◌<◌, ◌≤◌, Bool, true, false, not, ◌&&◌, ◌||◌, ◌⊎◌, inl, inr, nat_lt, List, [], ◌∷◌, ◌++◌, length, get_or, drop, map, refl, sym, ◌∙◌, ap, append_assoc, append-nil, drop-cons, arith}
use Rattle.std.proofs.lemmas.Bool.Decides.{nat_tests}
use Rattle.std.proofs.lemmas.List.Folds.{list_all-append, list_all-map}
use Rattle.std.proofs.lemmas.Grind.{common_steps}
use Rattle.std.specs.List.{list_all, list_any}
use Rattle.spec_core.specs.declared.world.World.{World}
use Rattle.spec_core.specs.World.{size_of, below, each_before, tuples}
use Rattle.spec_core.specs.Fits.{fits_places}
use Rattle.spec_core.specs.Choices.{all_below, all_choices}
use Rattle.std.proofs.lemmas.Bool.{and_parts, and_from, cases_Bool}

-- ---- a test of all tuples, sort by sort

pub list_all-each_before : (p : List ℕ → Bool) (es : List ℕ) (ts : List (List ℕ)) → list_all p (each_before es ts) ≡ list_all (λ e. list_all (λ t. p (e ∷ t)) ts) es
list_all-each_before p [] ts = refl
list_all-each_before p (e ∷ es) ts =
    list_all-append p (map (λ t. e ∷ t) ts) (each_before es ts)
    ∙ ap (λ b. b && list_all p (each_before es ts)) (list_all-map p (λ t. e ∷ t) ts)
    ∙ ap (λ b. list_all (λ t. p (e ∷ t)) ts && b) (list_all-each_before p es ts)

one_more : (a b : Bool) → (a && (b && true)) ≡ (a && b)
one_more a b = grind arith

pub list_all-below : (p : ℕ → Bool) (n : ℕ) → list_all p (below n) ≡ all_below n p
list_all-below p zero = refl
list_all-below p (suc n) = list_all-append p (below n) (n ∷ []) ∙ one_more (list_all p (below n)) (p n) ∙ ap (λ b. b && p n) (list_all-below p n)

pub all_choices-cons : (w : World) (chosen : List ℕ) (s : ℕ) (ss : List ℕ) (p : List ℕ → Bool)
    → all_choices w chosen (s ∷ ss) p ≡ all_below (size_of w s) (λ e. all_choices w (chosen ++ e ∷ []) ss p)
all_choices-cons w chosen s ss p =
    list_all-each_before (λ t. p (chosen ++ t)) (below (size_of w s)) (tuples w ss)
    ∙ list_all-below (λ e. list_all (λ t. p (chosen ++ (e ∷ t))) (tuples w ss)) (size_of w s)
    ∙ (λ i. all_below (size_of w s) (λ e. list_all (λ t. p (sym (append_assoc chosen (e ∷ []) t) i)) (tuples w ss)))

pub all_choices-nil : (w : World) (chosen : List ℕ) (p : List ℕ → Bool) → all_choices w chosen [] p ≡ (p (chosen ++ []) && true)
all_choices-nil w chosen p = refl

pub all_below-at : (n : ℕ) (p : ℕ → Bool) (k : ℕ) → k < n → all_below n p ≡ true → p k ≡ true
all_below-at zero p k lt h = absurd (omega arith)
all_below-at (suc n) p k lt h = elim (split k n lt) [
  | inl l ↦ all_below-at n p k l (and_parts (all_below n p) (p n) h).0
  | inr e ↦ ap p e ∙ (and_parts (all_below n p) (p n) h).1
]
  where
    split : (k n : ℕ) → k < suc n → (k < n) ⊎ (k ≡ n)
    split k n h = grind arith

pub all_below-fails : (n : ℕ) (p : ℕ → Bool) (k : ℕ) → k < n → p k ≡ false → all_below n p ≡ false
all_below-fails n p k lt h = elim (cases_Bool (all_below n p)) [ inl t ↦ absurd (let u = all_below-at n p k lt t in cc) | inr f ↦ f ]

pub all_below-from : (n : ℕ) (p : ℕ → Bool) → ((k : ℕ) → k < n → p k ≡ true) → all_below n p ≡ true
all_below-from zero p h = refl
all_below-from (suc n) p h = and_from (all_below n p) (p n) (all_below-from n p (λ k lt. h k (omega arith))) (h n (omega arith))

-- ---- what a test of all tuples says

module _ (w : World) where
  pub all_tuples : (ss : List ℕ) (p : List ℕ → Bool) → ((t : List ℕ) → fits_places w ss t ≡ true → p t ≡ true) → list_all p (tuples w ss) ≡ true
  all_tuples [] p h = and_from (p []) true (h [] refl) refl
  all_tuples (s ∷ ss) p h = list_all-each_before p (below (size_of w s)) (tuples w ss) ∙ list_all-below (λ e. list_all (λ t. p (e ∷ t)) (tuples w ss)) (size_of w s)
      ∙ all_below-from (size_of w s) (λ e. list_all (λ t. p (e ∷ t)) (tuples w ss)) (λ e lt. all_tuples ss (λ t. p (e ∷ t)) (λ t k. h (e ∷ t) (and_from (nat_lt e (size_of w s)) (fits_places w ss t) (test e (size_of w s) lt) k)))
    where
      test : (e n : ℕ) → e < n → nat_lt e n ≡ true
      test e n lt = grind (arith, nat_tests)

pub list_any-not : {X : Type 0} (p : X → Bool) (xs : List X) → list_any p xs ≡ not (list_all (λ x. not (p x)) xs)
list_any-not p [] = refl
list_any-not p (x ∷ xs) = ap (λ b. p x || b) (list_any-not p xs) ∙ or_not (p x) (list_all (λ x. not (p x)) xs)
  where
    or_not : (a b : Bool) → (a || not b) ≡ not (not a && b)
    or_not a b = grind arith

-- ---- a test of each choice, one more element chosen

module _ (w : World) (chosen : List ℕ) (s : ℕ) (p : List ℕ → Bool) where
  pub choices_at : (ss : List ℕ) (e : ℕ) → e < size_of w s → all_choices w chosen (s ∷ ss) p ≡ true → all_choices w (chosen ++ e ∷ []) ss p ≡ true
  choices_at ss e lt h = all_below-at (size_of w s) (λ e. all_choices w (chosen ++ e ∷ []) ss p) e lt (sym (all_choices-cons w chosen s ss p) ∙ h)

  pub choices_fail : (ss : List ℕ) (e : ℕ) → e < size_of w s → all_choices w (chosen ++ e ∷ []) ss p ≡ false → all_choices w chosen (s ∷ ss) p ≡ false
  choices_fail ss e lt h = all_choices-cons w chosen s ss p ∙ all_below-fails (size_of w s) (λ e. all_choices w (chosen ++ e ∷ []) ss p) e lt h

  pub choices_all : (ss : List ℕ) → all_below (size_of w s) (λ e. all_choices w (chosen ++ e ∷ []) ss p) ≡ true → all_choices w chosen (s ∷ ss) p ≡ true
  choices_all ss h = all_choices-cons w chosen s ss p ∙ h

  whole : (e : ℕ) → all_choices w (chosen ++ e ∷ []) [] p ≡ p (chosen ++ e ∷ [])
  whole e = and_one (p ((chosen ++ e ∷ []) ++ [])) ∙ ap p (append-nil (chosen ++ e ∷ []))
    where
      and_one : (b : Bool) → (b && true) ≡ b
      and_one true = refl
      and_one false = refl

  pub last_at : (e : ℕ) → e < size_of w s → all_choices w chosen (s ∷ []) p ≡ true → p (chosen ++ e ∷ []) ≡ true
  last_at e lt h = sym (whole e) ∙ choices_at [] e lt h

  pub last_fail : (e : ℕ) → e < size_of w s → p (chosen ++ e ∷ []) ≡ false → all_choices w chosen (s ∷ []) p ≡ false
  last_fail e lt h = choices_fail [] e lt (whole e ∙ h)

  pub last_all : all_below (size_of w s) (λ e. p (chosen ++ e ∷ [])) ≡ true → all_choices w chosen (s ∷ []) p ≡ true
  last_all h = choices_all [] ((λ i. all_below (size_of w s) (λ e. whole e i)) ∙ h)

-- ---- tuples, one more element or sort at a time

each_before-append : (es : List ℕ) (e : ℕ) (ts : List (List ℕ)) → each_before (es ++ e ∷ []) ts ≡ each_before es ts ++ map (λ t. e ∷ t) ts
each_before-append [] e ts = append-nil (map (λ t. e ∷ t) ts)
each_before-append (x ∷ xs) e ts = ap (λ us. map (λ t. x ∷ t) ts ++ us) (each_before-append xs e ts) ∙ sym (append_assoc (map (λ t. x ∷ t) ts) (each_before xs ts) (map (λ t. e ∷ t) ts))

pub each_before-below : (n : ℕ) (ts : List (List ℕ)) → each_before (below (n + 1)) ts ≡ each_before (below n) ts ++ map (λ t. n ∷ t) ts
each_before-below n ts = (let e : n + 1 ≡ suc n = omega arith in ap (λ m. each_before (below m) ts) e) ∙ each_before-append (below n) n ts

pub tuples-drop : (w : World) (ss : List ℕ) (k j : ℕ) → k < length ss → j ≡ k + 1 → tuples w (drop k ss) ≡ each_before (below (size_of w (get_or ss k 0))) (tuples w (drop j ss))
tuples-drop w ss k j lt e = ap (tuples w) (drop-cons ss k 0 lt) ∙ (let f : suc k ≡ j = omega arith in ap (λ n. each_before (below (size_of w (get_or ss k 0))) (tuples w (drop n ss))) f)

pub tuples-end : (w : World) (ss : List ℕ) (k : ℕ) → length ss ≤ k → tuples w (drop k ss) ≡ [] ∷ []
tuples-end w ss k le = ap (tuples w) (past ss k le)
  where
    past : (ss : List ℕ) (k : ℕ) → length ss ≤ k → drop k ss ≡ []
    past ss k le = grind (arith, common_steps)
