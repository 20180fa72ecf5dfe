-- What the row of two sums says is what is said of the sums.
use Rattle.std.proofs.Common.{◌≡◌, ℕ, zero, suc, ℤ, pos, negsuc, ◌+ℤ◌, ◌*ℤ◌, Bool, true, false, cond, List, [], ◌∷◌, ◌++◌, refl, ◌∙◌, ap, arith}
use Rattle.std.specs.Prelude.{◌-ℤ◌, neg_ℤ, int_le, nat_lt}
use Rattle.std.specs.List.{fold}
use Rattle.std.proofs.lemmas.Bool.Decides.{nat_tests}
use Rattle.std.proofs.lemmas.Int.{ints}
use Rattle.lin_rows.specs.declared.term.RowTerm.{RowTerm}
use Rattle.lin_rows.specs.Numbers.{is_zero}
use Rattle.lin_rows.specs.Rows.{value_at}
use Rattle.lin_rows.specs.Sums.{put}
use Rattle.lin_rows.proofs.Ring.{mul_add, mul_neg}
use Rattle.proof_lines.specs.Problems.{row_true}
use Rattle.ground_problem.specs.Symbols.{Integer, Part, number, multiple, Interpretation, sum_value}
use Rattle.ground_numbers.specs.Numbers.{Table, has_integer, integer_of, terms_of, plain_of, with_term, added_up, bound_of, row_of}
use Rattle.ground_numbers.proofs.Growing.{IntegersIn}

-- ---- terms added up

module _ (x : ℕ → ℤ) where
  put-value : (u : RowTerm) (ts : List RowTerm) → value_at x (put u ts) ≡ u.coef *ℤ x u.place +ℤ value_at x ts
  put-value u ts = by_coef u.coef
    where
      none : (v z : ℤ) → z ≡ pos 0 *ℤ v +ℤ z
      none v z = omega (arith, ints)

      by_coef : (k : ℤ) → value_at x (cond (is_zero k) ts (record { place = u.place; coef = k } ∷ ts)) ≡ k *ℤ x u.place +ℤ value_at x ts
      by_coef (pos zero) = none (x u.place) (value_at x ts)
      by_coef (pos (suc n)) = refl
      by_coef (negsuc n) = refl

  with_term-value : (ts : List RowTerm) (u : RowTerm) → value_at x (with_term ts u) ≡ u.coef *ℤ x u.place +ℤ value_at x ts
  with_term-value [] u = put-value u []
  with_term-value (t ∷ ts) u = by_tests (nat_lt t.place u.place) (nat_lt u.place t.place) refl refl (with_term-value ts u)
    where
      both_not : (a b : ℕ) → nat_lt a b ≡ false → nat_lt b a ≡ false → a ≡ b
      both_not a b p q = grind (arith, nat_tests)

      swapped : (a b c : ℤ) → a +ℤ (b +ℤ c) ≡ b +ℤ (a +ℤ c)
      swapped a b c = omega (arith, ints)

      grouped : (a b c : ℤ) → (a +ℤ b) +ℤ c ≡ b +ℤ (a +ℤ c)
      grouped a b c = omega (arith, ints)

      by_tests : (b c : Bool) → nat_lt t.place u.place ≡ b → nat_lt u.place t.place ≡ c → value_at x (with_term ts u) ≡ u.coef *ℤ x u.place +ℤ value_at x ts
          → value_at x (cond b (t ∷ with_term ts u) (cond c (put u (t ∷ ts)) (put (record { place = t.place; coef = t.coef +ℤ u.coef }) ts))) ≡ u.coef *ℤ x u.place +ℤ (t.coef *ℤ x t.place +ℤ value_at x ts)
      by_tests true c p q ih = ap (λ (z : ℤ). t.coef *ℤ x t.place +ℤ z) ih ∙ swapped (t.coef *ℤ x t.place) (u.coef *ℤ x u.place) (value_at x ts)
      by_tests false true p q ih = put-value u (t ∷ ts)
      by_tests false false p q ih =
          put-value (record { place = t.place; coef = t.coef +ℤ u.coef }) ts
          ∙ ap (λ (z : ℤ). z +ℤ value_at x ts) (mul_add t.coef u.coef (x t.place))
          ∙ ap (λ (n : ℕ). (t.coef *ℤ x t.place +ℤ u.coef *ℤ x n) +ℤ value_at x ts) (both_not t.place u.place p q)
          ∙ grouped (t.coef *ℤ x t.place) (u.coef *ℤ x u.place) (value_at x ts)

  fold-value : (so_far ts : List RowTerm) → value_at x (fold with_term so_far ts) ≡ value_at x ts +ℤ value_at x so_far
  fold-value so_far [] = none (value_at x so_far)
    where
      none : (z : ℤ) → z ≡ pos 0 +ℤ z
      none z = omega (arith, ints)
  fold-value so_far (t ∷ ts) = fold-value (with_term so_far t) ts ∙ ap (λ (z : ℤ). value_at x ts +ℤ z) (with_term-value so_far t) ∙ moved (value_at x ts) (t.coef *ℤ x t.place) (value_at x so_far)
    where
      moved : (a b c : ℤ) → a +ℤ (b +ℤ c) ≡ (b +ℤ a) +ℤ c
      moved a b c = omega (arith, ints)

  pub added_up-value : (ts : List RowTerm) → value_at x (added_up ts) ≡ value_at x ts
  added_up-value ts = fold-value [] ts ∙ none (value_at x ts)
    where
      none : (z : ℤ) → z +ℤ pos 0 ≡ z
      none z = omega (arith, ints)

  pub append-value : (ts us : List RowTerm) → value_at x (ts ++ us) ≡ value_at x ts +ℤ value_at x us
  append-value [] us = none (value_at x us)
    where
      none : (z : ℤ) → z ≡ pos 0 +ℤ z
      none z = omega (arith, ints)
  append-value (t ∷ ts) us = ap (λ (z : ℤ). t.coef *ℤ x t.place +ℤ z) (append-value ts us) ∙ grouped (t.coef *ℤ x t.place) (value_at x ts) (value_at x us)
    where
      grouped : (a b c : ℤ) → a +ℤ (b +ℤ c) ≡ (a +ℤ b) +ℤ c
      grouped a b c = omega (arith, ints)

-- ---- sums through a table

-- the numbers of names have the values of the names
abbrev pub Valued : Table → (ℕ → ℤ) → (Integer → ℤ) → Type 0
Valued o x int = (y : Integer) → has_integer o y ≡ true → x (integer_of o y) ≡ int y

module _ (o : Table) (x : ℕ → ℤ) (m : Interpretation) (v : Valued o x m.int) where
  left-value : (ps : List Part) → IntegersIn o ps → value_at x (terms_of o true ps) +ℤ plain_of ps ≡ sum_value m ps
  left-value [] h = refl
  left-value (number n ∷ ps) h = plus (value_at x (terms_of o true ps)) (plain_of ps) (sum_value m ps) n (left-value ps h)
    where
      plus : (a b c n : ℤ) → a +ℤ b ≡ c → a +ℤ (n +ℤ b) ≡ n +ℤ c
      plus a b c n e = omega (arith, ints)
  left-value (multiple k y ∷ ps) h = ap (λ (z : ℤ). (k *ℤ z +ℤ value_at x (terms_of o true ps)) +ℤ plain_of ps) (v y h.0) ∙ plus (k *ℤ m.int y) (value_at x (terms_of o true ps)) (plain_of ps) (sum_value m ps) (left-value ps h.1)
    where
      plus : (k a b c : ℤ) → a +ℤ b ≡ c → (k +ℤ a) +ℤ b ≡ k +ℤ c
      plus k a b c e = omega (arith, ints)

  right-value : (ps : List Part) → IntegersIn o ps → value_at x (terms_of o false ps) +ℤ sum_value m ps ≡ plain_of ps
  right-value [] h = refl
  right-value (number n ∷ ps) h = plus (value_at x (terms_of o false ps)) (sum_value m ps) (plain_of ps) n (right-value ps h)
    where
      plus : (a b c n : ℤ) → a +ℤ b ≡ c → a +ℤ (n +ℤ b) ≡ n +ℤ c
      plus a b c n e = omega (arith, ints)
  right-value (multiple k y ∷ ps) h =
      ap (λ (z : ℤ). (z +ℤ value_at x (terms_of o false ps)) +ℤ (k *ℤ m.int y +ℤ sum_value m ps)) (mul_neg k (x (integer_of o y)) ∙ ap (λ (z : ℤ). neg_ℤ (k *ℤ z)) (v y h.0))
      ∙ plus (k *ℤ m.int y) (value_at x (terms_of o false ps)) (sum_value m ps) (plain_of ps) (right-value ps h.1)
    where
      plus : (k a b c : ℤ) → a +ℤ b ≡ c → (neg_ℤ k +ℤ a) +ℤ (k +ℤ b) ≡ c
      plus k a b c e = omega (arith, ints)

  pub row_of-true : (t u : List Part) (n : ℤ) → IntegersIn o t → IntegersIn o u → row_true x (row_of o t u n) ≡ int_le (sum_value m t) (sum_value m u +ℤ n)
  row_of-true t u n h k =
      ap (λ (z : ℤ). int_le z (bound_of t u n)) (added_up-value x (terms_of o true t ++ terms_of o false u) ∙ append-value x (terms_of o true t) (terms_of o false u))
      ∙ by_numbers (value_at x (terms_of o true t)) (plain_of t) (sum_value m t) (value_at x (terms_of o false u)) (sum_value m u) (plain_of u) n (left-value t h) (right-value u k)
    where
      by_numbers : (a p s b q r n : ℤ) → a +ℤ p ≡ s → b +ℤ q ≡ r → int_le (a +ℤ b) ((n +ℤ r) -ℤ p) ≡ int_le s (q +ℤ n)
      by_numbers a p s b q r n e f = by_gap (a +ℤ b) ((n +ℤ r) -ℤ p) s (q +ℤ n) (gap a p s b q r n e f)
        where
          gap : (a p s b q r n : ℤ) → a +ℤ p ≡ s → b +ℤ q ≡ r → (a +ℤ b) +ℤ (q +ℤ n) ≡ s +ℤ ((n +ℤ r) -ℤ p)
          gap a p s b q r n e f = omega (arith, ints)

          by_gap : (a b c d : ℤ) → a +ℤ d ≡ c +ℤ b → int_le a b ≡ int_le c d
          by_gap a b c d e = grind (arith, ints)
