use Rattle.std.proofs.Common.{◌≡◌, ◌≢◌, ℕ, suc, ◌<◌, ℤ, pos, negsuc, neg_ℤ, ◌+ℤ◌, ◌-ℤ◌, ◌*ℤ◌, ◌≤ℤ◌, ◌<ℤ◌, true, cond, ◌&&◌, List, [], ◌∷◌, length, sym, ◌∙◌, ap, subst, arith, unsigned_abs, Some, Ok, Err, ◌⊎◌, inl, inr}
use Rattle.std.proofs.lemmas.Bool.{and_from, lt-ltb}
use Rattle.std.specs.Prelude.{◌==◌, nat_lt, int_lt, int_le}
use Rattle.std.proofs.lemmas.Int.{ints}
use Rattle.std.proofs.lemmas.List.{length-map}
use Rattle.std.proofs.Math.IntN.{*ℤ_comm}
use Rattle.lin_rows.specs.Rows.{Row, is_row, value_at, coefficient_at}
use Rattle.lin_rows.proofs.Ring.{mul_neg}
use Rattle.lin_rows.proofs.Points.{sum_from-value}
use Rattle.lin_rows.proofs.Kept.{rises_of}
use Rattle.lin_rows.proofs.CancellingLemmas.{size_positive}
use Rattle.proof_lines.specs.declared.line.RowStep.{RowStep}
use Rattle.proof_lines.specs.declared.line.Why.TheVariants.{Place, SplitCause}
use Rattle.proof_lines.specs.Problems.{row_true}
use Rattle.line_rows.specs.Splits.{is_in_gap, in_gap, size_at, with_rests, rest_at, split_point, split_cause, split_fits, other_names}
use Rattle.line_rows.specs.Steps.{is_negative, is_positive, held_rows, row_at}
use Rattle.line_rows.specs.Refusals.{then_}
use Rattle.proof_lines.proofs.Sets.{same_nat-refl}
use Rattle.linear_ints.specs.Fractions.{floor_of, size, IsInGap, Between}
use Rattle.linear_ints.specs.Points.{with_value, values_of}
use Rattle.linear_ints.specs.Splitting.{Meet, highest, WholeOrSplit}
use Rattle.linear_ints.proofs.Fractions.{between}
use Rattle.linear_ints.proofs.Combining.{in_order}
use Rattle.linear_ints.proofs.Points.{sum_from-agree, value_at-with_value, agree-low, agree-high}
use Rattle.elimination.proofs.Signs.{lt_so}

pub le_so : (a b : ℤ) → a ≤ℤ b → int_le a b ≡ true
le_so a b h = grind (arith, ints)

pub le_is : (a b : ℤ) → int_le a b ≡ true → a ≤ℤ b
le_is a b h = grind (arith, ints)

pub gap_so : (k n : ℤ) (d : ℕ) → IsInGap k n d → is_in_gap k n (pos d) ≡ true
gap_so k n d h = and_from (int_lt (k *ℤ pos d) n) (int_lt n ((k +ℤ pos 1) *ℤ pos d)) (lt_so (k *ℤ pos d) n h.0) (lt_so n ((k +ℤ pos 1) *ℤ pos d) h.1)

not_zero_below : (a : ℤ) → a <ℤ pos 0 → a ≢ pos 0
not_zero_below a h e = omega (arith, ints)

not_zero_above : (a : ℤ) → pos 0 <ℤ a → a ≢ pos 0
not_zero_above a h e = omega (arith, ints)

-- a coefficient as its sign and its size
pub above-size : (a v : ℤ) → pos 0 <ℤ a → a *ℤ v ≡ v *ℤ pos (unsigned_abs a)
above-size (pos n) v h = *ℤ_comm (pos n) v
above-size (negsuc n) v h = absurd (omega (arith, ints))

pub below-size : (a v : ℤ) → a <ℤ pos 0 → a *ℤ v ≡ neg_ℤ (v *ℤ pos (unsigned_abs a))
below-size (pos n) v h = absurd (omega (arith, ints))
below-size (negsuc n) v h = mul_neg (pos (suc n)) v ∙ ap neg_ℤ (*ℤ_comm (pos (suc n)) v)

-- a value for a place satisfies an upper or a lower row
pub high-allows : (x : ℕ → ℤ) (place : ℕ) (v : ℤ) (r : Row) → is_row r ≡ true → x place ≡ pos 0 → pos 0 <ℤ coefficient_at r.terms place → (v *ℤ pos (size r place)) ≤ℤ (r.bound -ℤ value_at x r.terms)
    → row_true (with_value x place v) r ≡ true
high-allows x place v r k z s h =
    let e = value_at-with_value x place v 0 r.terms z (rises_of r k) in
    let f = above-size (coefficient_at r.terms place) v s in
    le_so (value_at (with_value x place v) r.terms) r.bound (omega (arith, ints))

pub low-allows : (x : ℕ → ℤ) (place : ℕ) (v : ℤ) (r : Row) → is_row r ≡ true → x place ≡ pos 0 → coefficient_at r.terms place <ℤ pos 0 → (value_at x r.terms -ℤ r.bound) ≤ℤ (v *ℤ pos (size r place))
    → row_true (with_value x place v) r ≡ true
low-allows x place v r k z s h =
    let e = value_at-with_value x place v 0 r.terms z (rises_of r k) in
    let f = below-size (coefficient_at r.terms place) v s in
    le_so (value_at (with_value x place v) r.terms) r.bound (omega (arith, ints))

pub rest_is : (x : ℕ → ℤ) (r : Row) (v : ℤ) → rest_at x r ≡ Some v → v ≡ value_at x r.terms
rest_is x r v h = let e = sum_from-value x (pos 0) r.terms v h in omega (arith, ints)

-- the greatest whole number that the upper row allows: both rows allow it, or both fractions lie strictly between it and the next
pub whole_or_gap : {x : ℕ → ℤ} {place : ℕ} {low high : Row} (m : Meet x place low high)
    → ((row_true (with_value x place (highest m)) low ≡ true) × (row_true (with_value x place (highest m)) high ≡ true))
    ⊎ (IsInGap (highest m) (value_at x low.terms -ℤ low.bound) (size low place) × IsInGap (highest m) (high.bound -ℤ value_at x high.terms) (size high place))
whole_or_gap {x} {place} {low} {high} m =
    subst (λ (k : ℤ). ((row_true (with_value x place k) low ≡ true) × (row_true (with_value x place k) high ≡ true))
    ⊎ (IsInGap k (value_at x low.terms -ℤ low.bound) (size low place) × IsInGap k (high.bound -ℤ value_at x high.terms) (size high place)))
    (ap (λ (v : ℤ). floor_of (high.bound -ℤ v) (size high place)) (sym (rest_is x high m.high_rest m.high_rest_is)))
    (by_gap (between (value_at x low.terms -ℤ low.bound) (high.bound -ℤ value_at x high.terms) (size low place) (size high place) some_low some_high
    (in_order x high low m.sum place m.high_row m.low_row m.high_sign m.low_sign m.sum_is (le_is (value_at x m.sum.terms) m.sum.bound m.sum_true))))
  where
    some_low : 0 < size low place
    some_low = size_positive (coefficient_at low.terms place) (not_zero_below (coefficient_at low.terms place) m.low_sign)

    some_high : 0 < size high place
    some_high = size_positive (coefficient_at high.terms place) (not_zero_above (coefficient_at high.terms place) m.high_sign)

    by_gap : Between (value_at x low.terms -ℤ low.bound) (size low place) (high.bound -ℤ value_at x high.terms) (size high place)
        → ((row_true (with_value x place (floor_of (high.bound -ℤ value_at x high.terms) (size high place))) low ≡ true) × (row_true (with_value x place (floor_of (high.bound -ℤ value_at x high.terms) (size high place))) high ≡ true))
        ⊎ (IsInGap (floor_of (high.bound -ℤ value_at x high.terms) (size high place)) (value_at x low.terms -ℤ low.bound) (size low place)
        × IsInGap (floor_of (high.bound -ℤ value_at x high.terms) (size high place)) (high.bound -ℤ value_at x high.terms) (size high place))
    by_gap (inl h) = inl (
      low-allows x place (floor_of (high.bound -ℤ value_at x high.terms) (size high place)) low m.low_row m.no_value m.low_sign h.0,
      high-allows x place (floor_of (high.bound -ℤ value_at x high.terms) (size high place)) high m.high_row m.no_value m.high_sign h.1,
    )
    by_gap (inr h) = inr h

-- a gap keeps the kernel's cause of a split
pub gap-cause : {x : ℕ → ℤ} {place : ℕ} {low high : Row} (m : Meet x place low high) (at : ℤ) → IsInGap at (value_at x low.terms -ℤ low.bound) (size low place) → IsInGap at (high.bound -ℤ value_at x high.terms) (size high place)
    → split_cause place at low high (values_of x place (low ∷ high ∷ [])) ≡ Ok tt
gap-cause {x} {place} {low} {high} m at g h =
    (λ i. cond (signs i) (with_rests at place low (rest_low i) high (rest_high i)) (Err SplitCause))
    ∙ (λ i. cond (both_in i) (Ok tt) (Err SplitCause))
  where
    signs : (is_negative (coefficient_at low.terms place) && is_positive (coefficient_at high.terms place)) ≡ true
    signs = and_from (is_negative (coefficient_at low.terms place)) (is_positive (coefficient_at high.terms place)) (lt_so (coefficient_at low.terms place) (pos 0) m.low_sign) (lt_so (pos 0) (coefficient_at high.terms place) m.high_sign)

    rest_low : rest_at (split_point place low high (values_of x place (low ∷ high ∷ []))) low ≡ Some m.low_rest
    rest_low = sum_from-agree (split_point place low high (values_of x place (low ∷ high ∷ []))) x (pos 0) low.terms (agree-low x place low high m.no_value) ∙ m.low_rest_is

    rest_high : rest_at (split_point place low high (values_of x place (low ∷ high ∷ []))) high ≡ Some m.high_rest
    rest_high = sum_from-agree (split_point place low high (values_of x place (low ∷ high ∷ []))) x (pos 0) high.terms (agree-high x place low high m.no_value) ∙ m.high_rest_is

    both_in : in_gap at place low m.low_rest high m.high_rest ≡ true
    both_in = and_from (is_in_gap at (m.low_rest -ℤ low.bound) (size_at low place)) (is_in_gap at (high.bound -ℤ m.high_rest) (size_at high place))
        (gap_so at (m.low_rest -ℤ low.bound) (size low place) (subst (λ (v : ℤ). IsInGap at (v -ℤ low.bound) (size low place)) (sym (rest_is x low m.low_rest m.low_rest_is)) g))
        (gap_so at (high.bound -ℤ m.high_rest) (size high place) (subst (λ (v : ℤ). IsInGap at (high.bound -ℤ v) (size high place)) (sym (rest_is x high m.high_rest m.high_rest_is)) h))

pub cause : {x : ℕ → ℤ} {place : ℕ} {low high : Row} (m : Meet x place low high)
    → ((row_true (with_value x place (highest m)) low ≡ true) × (row_true (with_value x place (highest m)) high ≡ true))
    ⊎ (split_cause place (highest m) low high (values_of x place (low ∷ high ∷ [])) ≡ Ok tt)
cause m = elim (whole_or_gap m) [ inl w ↦ inl w | inr g ↦ inr (gap-cause m (highest m) g.0 g.1) ]

-- the same by the kernel's rule over given rows
pub whole_or_split : {x : ℕ → ℤ} {place : ℕ} {low high : Row} (m : Meet x place low high) (given : List Row) (steps : List RowStep) (held : List Row) (i j : ℕ)
    → held_rows given steps ≡ Ok held → i < length held → j < length held → row_at held i ≡ low → row_at held j ≡ high → WholeOrSplit m given steps i j
whole_or_split {x} {place} {low} {high} m given steps held i j h p q a b = elim (cause m) [
  | inl w ↦ inl w
  | inr s ↦ inr (
      (λ k. then_ (h k) (λ rows. cond (split_fits rows place i j (values_of x place (low ∷ high ∷ []))) (split_cause place (highest m) (row_at rows i) (row_at rows j) (values_of x place (low ∷ high ∷ []))) (Err Place)))
      ∙ (λ k. cond (fits k) (split_cause place (highest m) (a k) (b k) (values_of x place (low ∷ high ∷ []))) (Err Place))
      ∙ s)
]
  where
    long : (length (values_of x place (low ∷ high ∷ [])) == length (other_names place (row_at held i ∷ row_at held j ∷ []))) ≡ true
    long =
        (λ k. length-map (other_names place (low ∷ high ∷ [])) x k == length (other_names place (a k ∷ b k ∷ [])))
        ∙ same_nat-refl (length (other_names place (low ∷ high ∷ [])))

    fits : split_fits held place i j (values_of x place (low ∷ high ∷ [])) ≡ true
    fits = and_from (nat_lt i (length held)) (nat_lt j (length held) && (length (values_of x place (low ∷ high ∷ [])) == length (other_names place (row_at held i ∷ row_at held j ∷ [])))) (lt-ltb i (length held) p)
        (and_from (nat_lt j (length held)) (length (values_of x place (low ∷ high ∷ [])) == length (other_names place (row_at held i ∷ row_at held j ∷ []))) (lt-ltb j (length held) q) long)
