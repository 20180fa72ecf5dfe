-- The elements that an interpretation gives: the classes of equal constants of a sort.
use Rattle.std.proofs.Common.{◌≡◌, ℕ, zero, suc, ◌+◌, ◌<◌, ltb, ◌==◌, Bool, true, false, not, cond, ◌&&◌, ◌||◌, ◌⊎◌, inl, inr, List, [], ◌∷◌, ◌++◌, length, slice_get, slice_index, flat_map, refl, sym, ◌∙◌, ap, subst, arith}
use Rattle.std.proofs.lemmas.Bool.{eqb-false, eq-eqb, eqb-true, and_parts, and_from}
use Rattle.std.proofs.lemmas.Bool.Decides.{nat_tests}
use Rattle.spec_core.specs.Typed.{is_sort}
use Rattle.ground_problem.specs.Symbols.{Symbolic, always, same, Interpretation, is_true, all_true, same_const}
use Rattle.ground_problem.specs.Constants.{of_sort}
use Rattle.ground_problem.specs.Classes.{any_like, firsts, place_like}
use Rattle.ground_problem.specs.Equality.{three_agree, agree_with_pairs, equality}
use Rattle.ground_problem.proofs.Choices.{one_of, in_sort}
use Rattle.ground_problem.proofs.Classes.{firsts_in, firsts_cover, place_below, place_is_like, place_same, firsts_apart, place_of_first, one_of_index}

-- the constant at this place has this sort
abbrev pub HasSort : List ℕ → ℕ → ℕ → Type 0
HasSort sorts s n = is_sort (slice_get sorts n) s ≡ true

-- ---- a place and its sort
pub has_sort : (sorts : List ℕ) (s n : ℕ) → n < length sorts → slice_index sorts n ≡ s → HasSort sorts s n
has_sort [] s n h e = absurd (omega arith)
has_sort (x ∷ xs) s zero h e = subst (λ (y : ℕ). (x == y) ≡ true) e (eq-eqb x x refl)
has_sort (x ∷ xs) s (suc n) h e = has_sort xs s n (omega arith) e

pub sort_of : (sorts : List ℕ) (s n : ℕ) → HasSort sorts s n → (n < length sorts) × (slice_index sorts n ≡ s)
sort_of [] s n h = absurd cc
sort_of (x ∷ xs) s zero h = (omega arith, (eqb-true x s h))
sort_of (x ∷ xs) s (suc n) h = (let p = sort_of xs s n h in let a = p.0 in (omega arith, p.1))

pub sort_one_of : (from : ℕ) (sorts : List ℕ) (s n : ℕ) → HasSort sorts s n → one_of (from + n) (of_sort from sorts s) ≡ true
sort_one_of from [] s n h = absurd cc
sort_one_of from (x ∷ xs) s zero h = by_test (x == s) refl
  where
    same_place : from + 0 ≡ from
    same_place = omega arith

    by_test : (b : Bool) → (x == s) ≡ b → one_of (from + 0) (cond b (from ∷ of_sort (suc from) xs s) (of_sort (suc from) xs s)) ≡ true
    by_test true e = let q = same_place in here (from + 0) from q (one_of (from + 0) (of_sort (suc from) xs s))
      where
        here : (a b : ℕ) → a ≡ b → (c : Bool) → ((a == b) || c) ≡ true
        here a b e c = grind (arith, nat_tests)
    by_test false e = absurd (eqb-false x s e (eqb-true x s h))
sort_one_of from (x ∷ xs) s (suc n) h = by_test (x == s) (let e : suc from + n ≡ from + suc n = omega arith in subst (λ (y : ℕ). one_of y (of_sort (suc from) xs s) ≡ true) e (sort_one_of (suc from) xs s n h))
  where
    by_test : (b : Bool) → one_of (from + suc n) (of_sort (suc from) xs s) ≡ true → one_of (from + suc n) (cond b (from ∷ of_sort (suc from) xs s) (of_sort (suc from) xs s)) ≡ true
    by_test true k = or_right (from + suc n == from) (one_of (from + suc n) (of_sort (suc from) xs s)) k
      where
        or_right : (a b : Bool) → b ≡ true → (a || b) ≡ true
        or_right a b h = grind arith
    by_test false k = k

-- ---- the axioms of equality
module _ (m : Interpretation) where
  pub append_left : (xs ys : List Symbolic) → all_true m (xs ++ ys) ≡ true → all_true m xs ≡ true
  append_left [] ys h = refl
  append_left (x ∷ xs) ys h = (let h2 = and_parts (is_true m x) (all_true m (xs ++ ys)) h in and_from (is_true m x) (all_true m xs) h2.0 (append_left xs ys h2.1))

  pub append_right : (xs ys : List Symbolic) → all_true m (xs ++ ys) ≡ true → all_true m ys ≡ true
  append_right [] ys h = h
  append_right (x ∷ xs) ys h = append_right xs ys (and_parts (is_true m x) (all_true m (xs ++ ys)) h).1

  piece_at : (g : ℕ → List Symbolic) (xs : List ℕ) (x : ℕ) → one_of x xs ≡ true → all_true m (flat_map g xs) ≡ true → all_true m (g x) ≡ true
  piece_at g [] x k h = absurd cc
  piece_at g (y ∷ ys) x k h = by_test (x == y) refl k (λ l. piece_at g ys x l (append_right (g y) (flat_map g ys) h))
    where
      by_test : (b : Bool) → (x == y) ≡ b → (b || one_of x ys) ≡ true → (one_of x ys ≡ true → all_true m (g x) ≡ true) → all_true m (g x) ≡ true
      by_test true e k ih = (let q = eqb-true x y e in subst (λ (v : ℕ). all_true m (g v) ≡ true) (sym q) (append_left (g y) (flat_map g ys) h))
      by_test false e k ih = ih k

  -- a constant and a later one in a rising list
  second_at : (a from : ℕ) (ts : List ℕ) (s i k : ℕ) → i < k → HasSort ts s i → HasSort ts s k → all_true m (agree_with_pairs a (of_sort from ts s)) ≡ true → all_true m (three_agree a (from + i) (from + k)) ≡ true
  second_at a from [] s i k l hi hk h = absurd cc
  second_at a from (t ∷ ts) s zero zero l hi hk h = absurd (omega arith)
  second_at a from (t ∷ ts) s zero (suc k) l hi hk h = by_test (t == s) refl h
    where
      by_test : (b : Bool) → (t == s) ≡ b → all_true m (agree_with_pairs a (cond b (from ∷ of_sort (suc from) ts s) (of_sort (suc from) ts s))) ≡ true → all_true m (three_agree a (from + 0) (from + suc k)) ≡ true
      by_test true e h = (let p : from ≡ from + 0 = omega arith in let q : suc from + k ≡ from + suc k = omega arith in
          subst (λ (x : ℕ). all_true m (three_agree a x (from + suc k)) ≡ true) p (subst (λ (x : ℕ). all_true m (three_agree a from x) ≡ true) q
          (piece_at (three_agree a from) (of_sort (suc from) ts s) (suc from + k) (sort_one_of (suc from) ts s k hk) (append_left (flat_map (three_agree a from) (of_sort (suc from) ts s)) (agree_with_pairs a (of_sort (suc from) ts s)) h))))
      by_test false e h = absurd (eqb-false t s e (eqb-true t s hi))
  second_at a from (t ∷ ts) s (suc i) zero l hi hk h = absurd (omega arith)
  second_at a from (t ∷ ts) s (suc i) (suc k) l hi hk h =
      (let p : suc from + i ≡ from + suc i = omega arith in let q : suc from + k ≡ from + suc k = omega arith in
      subst (λ (x : ℕ). all_true m (three_agree a x (from + suc k)) ≡ true) p (subst (λ (x : ℕ). all_true m (three_agree a (suc from + i) x) ≡ true) q
      (second_at a (suc from) ts s i k (omega arith) hi hk (by_test (t == s) h))))
    where
      by_test : (b : Bool) → all_true m (agree_with_pairs a (cond b (from ∷ of_sort (suc from) ts s) (of_sort (suc from) ts s))) ≡ true → all_true m (agree_with_pairs a (of_sort (suc from) ts s)) ≡ true
      by_test true h = append_right (flat_map (three_agree a from) (of_sort (suc from) ts s)) (agree_with_pairs a (of_sort (suc from) ts s)) h
      by_test false h = h

  equality_at : (from : ℕ) (ts : List ℕ) (s i j k : ℕ) → i < j → j < k → HasSort ts s i → HasSort ts s j → HasSort ts s k → all_true m (equality from ts) ≡ true → all_true m (three_agree (from + i) (from + j) (from + k)) ≡ true
  equality_at from [] s i j k l o hi hj hk h = absurd cc
  equality_at from (t ∷ ts) s i zero k l o hi hj hk h = absurd (omega arith)
  equality_at from (t ∷ ts) s i (suc j) zero l o hi hj hk h = absurd (omega arith)
  equality_at from (t ∷ ts) s zero (suc j) (suc k) l o hi hj hk h =
      (let p : suc from + j ≡ from + suc j = omega arith in let q : suc from + k ≡ from + suc k = omega arith in let r : from ≡ from + 0 = omega arith in
      subst (λ (x : ℕ). all_true m (three_agree x (from + suc j) (from + suc k)) ≡ true) r (subst (λ (x : ℕ). all_true m (three_agree from x (from + suc k)) ≡ true) p (subst (λ (x : ℕ). all_true m (three_agree from (suc from + j) x) ≡ true) q
      (second_at from (suc from) ts s j k (omega arith) hj hk
      (let e : t ≡ s = (eqb-true t s hi) in subst (λ (x : ℕ). all_true m (agree_with_pairs from (of_sort (suc from) ts x)) ≡ true) e (append_left (agree_with_pairs from (of_sort (suc from) ts t)) (equality (suc from) ts) h))))))
  equality_at from (t ∷ ts) s (suc i) (suc j) (suc k) l o hi hj hk h =
      (let p : suc from + j ≡ from + suc j = omega arith in let q : suc from + k ≡ from + suc k = omega arith in let r : suc from + i ≡ from + suc i = omega arith in
      subst (λ (x : ℕ). all_true m (three_agree x (from + suc j) (from + suc k)) ≡ true) r (subst (λ (x : ℕ). all_true m (three_agree (suc from + i) x (from + suc k)) ≡ true) p (subst (λ (x : ℕ). all_true m (three_agree (suc from + i) (suc from + j) x) ≡ true) q
      (equality_at (suc from) ts s i j k (omega arith) (omega arith) hi hj hk (append_right (agree_with_pairs from (of_sort (suc from) ts t)) (equality (suc from) ts) h)))))

  -- ---- equality of constants is an equivalence on each sort
  abbrev pub like : ℕ → ℕ → Bool
  like a b = is_true m (same_const a b)

  pub like_self : (a : ℕ) → like a a ≡ true
  like_self a = by_test (a == a) (eq_same a)
    where
      eq_same : (a : ℕ) → (a == a) ≡ true
      eq_same a = grind (arith, nat_tests)

      by_test : (b : Bool) → b ≡ true → is_true m (cond b (always true) (cond (ltb a a) (same a a) (same a a))) ≡ true
      by_test true e = refl
      by_test false e = absurd cc

  like_less : (a b : ℕ) → a < b → like a b ≡ m.same a b
  like_less a b h = by_tests (a == b) (ltb a b) (differ a b h) (less a b h)
    where
      differ : (a b : ℕ) → a < b → (a == b) ≡ false
      differ a b h = grind (arith, nat_tests)

      less : (a b : ℕ) → a < b → ltb a b ≡ true
      less a b h = grind (arith, nat_tests)

      by_tests : (p q : Bool) → p ≡ false → q ≡ true → is_true m (cond p (always true) (cond q (same a b) (same b a))) ≡ m.same a b
      by_tests true q e f = absurd cc
      by_tests false true e f = refl
      by_tests false false e f = absurd cc

  like_more : (a b : ℕ) → b < a → like a b ≡ m.same b a
  like_more a b h = by_tests (a == b) (ltb a b) (differ a b h) (more a b h)
    where
      differ : (a b : ℕ) → b < a → (a == b) ≡ false
      differ a b h = grind (arith, nat_tests)

      more : (a b : ℕ) → b < a → ltb a b ≡ false
      more a b h = grind (arith, nat_tests)

      by_tests : (p q : Bool) → p ≡ false → q ≡ false → is_true m (cond p (always true) (cond q (same a b) (same b a))) ≡ m.same b a
      by_tests true q e f = absurd cc
      by_tests false true e f = absurd cc
      by_tests false false e f = refl

  compare : (a b : ℕ) → (a < b) ⊎ ((a ≡ b) ⊎ (b < a))
  compare a b = grind arith

  pub like_swap : (a b : ℕ) → like a b ≡ like b a
  like_swap a b = elim (compare a b) [
    | inl l ↦ like_less a b l ∙ sym (like_more b a l)
    | inr (inl e) ↦ ap (λ (x : ℕ). like x b) e ∙ ap (λ (x : ℕ). like b x) (sym e)
    | inr (inr l) ↦ like_more a b l ∙ sym (like_less b a l)
  ]

  module _ (sorts : List ℕ) (axioms : all_true m (equality 0 sorts) ≡ true) where
    three_at : (s a b c : ℕ) → a < b → b < c → HasSort sorts s a → HasSort sorts s b → HasSort sorts s c → all_true m (three_agree a b c) ≡ true
    three_at s a b c l o x y v = (let p : 0 + a ≡ a = omega arith in let q : 0 + b ≡ b = omega arith in let r : 0 + c ≡ c = omega arith in
        subst (λ (i : ℕ). all_true m (three_agree i b c) ≡ true) p (subst (λ (i : ℕ). all_true m (three_agree (0 + a) i c) ≡ true) q (subst (λ (i : ℕ). all_true m (three_agree (0 + a) (0 + b) i) ≡ true) r (equality_at 0 sorts s a b c l o x y v axioms))))

    -- for three_agree that rise, by their three_agree equations
    by_three : (ab bc ac : Bool) → ((not (ab && bc) || ac) && ((not (ab && ac) || bc) && ((not (ac && bc) || ab) && true))) ≡ true → ((ab ≡ true → bc ≡ true → ac ≡ true) × (ab ≡ true → ac ≡ true → bc ≡ true) × (ac ≡ true → bc ≡ true → ab ≡ true))
    by_three ab bc ac h = grind arith

    pub like_trans : (s a b c : ℕ) → HasSort sorts s a → HasSort sorts s b → HasSort sorts s c → like a b ≡ true → like b c ≡ true → like a c ≡ true
    like_trans s a b c x y v p q = elim (compare a b) [
      | inr (inl e) ↦ subst (λ (w : ℕ). like w c ≡ true) (sym e) q
      | inl ab ↦ elim (compare b c) [
        | inr (inl e) ↦ subst (λ (w : ℕ). like a w ≡ true) e p
        | inl bc ↦ (let t = by_three (m.same a b) (m.same b c) (m.same a c) (three_at s a b c ab bc x y v) in like_less a c (omega arith) ∙ t.0 (sym (like_less a b ab) ∙ p) (sym (like_less b c bc) ∙ q))
        | inr (inr cb) ↦ elim (compare a c) [
          | inr (inl e) ↦ subst (λ (w : ℕ). like a w ≡ true) e (like_self a)
          | inl ac ↦ (let t = by_three (m.same a c) (m.same c b) (m.same a b) (three_at s a c b ac cb x v y) in like_less a c ac ∙ t.2 (sym (like_less a b ab) ∙ p) (sym (like_more b c cb) ∙ q))
          | inr (inr ca) ↦ (let t = by_three (m.same c a) (m.same a b) (m.same c b) (three_at s c a b ca ab v x y) in like_more a c ca ∙ t.2 (sym (like_more b c cb) ∙ q) (sym (like_less a b ab) ∙ p))
        ]
      ]
      | inr (inr ba) ↦ elim (compare b c) [
        | inr (inl e) ↦ subst (λ (w : ℕ). like a w ≡ true) e p
        | inr (inr cb) ↦ (let t = by_three (m.same c b) (m.same b a) (m.same c a) (three_at s c b a cb ba v y x) in like_more a c (omega arith) ∙ t.0 (sym (like_more b c cb) ∙ q) (sym (like_more a b ba) ∙ p))
        | inl bc ↦ elim (compare a c) [
          | inr (inl e) ↦ subst (λ (w : ℕ). like a w ≡ true) e (like_self a)
          | inl ac ↦ (let t = by_three (m.same b a) (m.same a c) (m.same b c) (three_at s b a c ba ac y x v) in like_less a c ac ∙ t.1 (sym (like_more a b ba) ∙ p) (sym (like_less b c bc) ∙ q))
          | inr (inr ca) ↦ (let t = by_three (m.same b c) (m.same c a) (m.same b a) (three_at s b c a bc ca y v x) in like_more a c ca ∙ t.1 (sym (like_less b c bc) ∙ q) (sym (like_more a b ba) ∙ p))
        ]
      ]
    ]

    -- ---- the elements are the classes
    abbrev pub firsts_of : ℕ → List ℕ
    firsts_of s = firsts like [] (of_sort 0 sorts s)

    -- the element of a constant
    abbrev pub element : ℕ → ℕ
    element c = place_like like c (firsts_of (slice_index sorts c))

    first_sorted : (s x : ℕ) → one_of x (firsts_of s) ≡ true → HasSort sorts s x
    first_sorted s x h = (let p = in_sort x 0 sorts s (firsts_in like [] (of_sort 0 sorts s) x h) in let e : p.0 ≡ x = (let q = p.1 in omega arith) in subst (λ (y : ℕ). HasSort sorts s y) e (has_sort sorts s p.0 p.2 p.3))

    covered : (s c : ℕ) → HasSort sorts s c → any_like like c (firsts_of s) ≡ true
    covered s c h = (let z : 0 + c ≡ c = omega arith in firsts_cover like like_self [] (of_sort 0 sorts s) c (subst (λ (y : ℕ). one_of y (of_sort 0 sorts s) ≡ true) z (sort_one_of 0 sorts s c h)))

    element_at : (s c : ℕ) → HasSort sorts s c → element c ≡ place_like like c (firsts_of s)
    element_at s c h = ap (λ (x : ℕ). place_like like c (firsts_of x)) (sort_of sorts s c h).1

    pub element_below : (s c : ℕ) → HasSort sorts s c → element c < length (firsts_of s)
    element_below s c h = (let e = element_at s c h in let l = place_below like like_self c (firsts_of s) (covered s c h) in omega arith)

    like_both : (s a b x : ℕ) → HasSort sorts s a → HasSort sorts s b → HasSort sorts s x → like a b ≡ true → like x a ≡ like x b
    like_both s a b x ha hb hx h = by_both (like x a) (like x b) (λ p. like_trans s x a b hx ha hb p h) (λ p. like_trans s x b a hx hb ha p (like_swap b a ∙ h))
      where
        by_both : (p q : Bool) → (p ≡ true → q ≡ true) → (q ≡ true → p ≡ true) → p ≡ q
        by_both p q f g = grind arith

    pub element_same : (s a b : ℕ) → HasSort sorts s a → HasSort sorts s b → (element a == element b) ≡ like a b
    element_same s a b ha hb = by_both (element a) (element b) (like a b) back forth
      where
        by_both : (x y : ℕ) (q : Bool) → (q ≡ true → x ≡ y) → (x ≡ y → q ≡ true) → (x == y) ≡ q
        by_both x y q f g = by_tests (x == y) q (λ e. g (eqb-true x y e)) (λ e. eq_true x y (f e))
          where
            eq_true : (x y : ℕ) → x ≡ y → (x == y) ≡ true
            eq_true x y e = grind (arith, nat_tests)

            by_tests : (p q : Bool) → (p ≡ true → q ≡ true) → (q ≡ true → p ≡ true) → p ≡ q
            by_tests p q f g = grind arith

        back : like a b ≡ true → element a ≡ element b
        back h = element_at s a ha ∙ place_same like like_self a b (firsts_of s) (λ x l. like_both s a b x ha hb (first_sorted s x l) h) ∙ sym (element_at s b hb)

        forth : element a ≡ element b → like a b ≡ true
        forth e =
            let la = place_below like like_self a (firsts_of s) (covered s a ha) in
            let r = slice_index (firsts_of s) (place_like like a (firsts_of s)) in
            let hr = first_sorted s r (one_of_index (firsts_of s) (place_like like a (firsts_of s)) la) in
            let pa = place_is_like like like_self a (firsts_of s) (covered s a ha) in
            let pb = place_is_like like like_self b (firsts_of s) (covered s b hb) in
            let same_place : place_like like a (firsts_of s) ≡ place_like like b (firsts_of s) = sym (element_at s a ha) ∙ e ∙ element_at s b hb in
            like_trans s a r b ha hr hb (like_swap a r ∙ pa) (ap (λ (x : ℕ). like (slice_index (firsts_of s) x) b) same_place ∙ pb)

    -- each element is a constant's
    pub constant_of : (s e : ℕ) → e < length (firsts_of s) → (c : ℕ) × HasSort sorts s c × (element c ≡ e)
    constant_of s e h =
        let c = slice_index (firsts_of s) e in
        let hc = first_sorted s c (one_of_index (firsts_of s) e h) in
        (c, hc, element_at s c hc ∙ place_of_first like like_self [] (firsts_of s) e (firsts_apart like like_self [] (of_sort 0 sorts s)) h ∙ (let q : 0 + e ≡ e = omega arith in q))
