use Rattle.std.proofs.Common.{◌≡◌, ℕ, ◌<◌, ◌^◌, ℤ, pos, neg_ℤ, ◌+ℤ◌, ◌-ℤ◌, ◌*ℤ◌, ◌≤ℤ◌, ◌<ℤ◌, Bool, true, false, cond, List, [], ◌∷◌, refl, sym, ◌∙◌, ap, subst, arith, Ok, inl, inr}
use Rattle.std.specs.Prelude.{int_lt, int_le}
use Rattle.std.proofs.lemmas.Int.{ints}
use Rattle.std.proofs.Math.IntN.{zero-*ℤ}
use Rattle.lin_rows.specs.Rows.{Row, is_row, value_at, coefficient_at}
use Rattle.lin_rows.proofs.Ring.{mul_neg}
use Rattle.lin_rows.proofs.Kept.{rises_of}
use Rattle.lin_rows.proofs.CancellingLemmas.{size_positive}
use Rattle.proof_lines.specs.Problems.{row_true}
use Rattle.line_rows.specs.Steps.{row_at}
use Rattle.line_rows.specs.Splits.{split_cause}
use Rattle.theory_api.specs.Chosen.{Choice, is_named, chosen_point, is_driven}
use Rattle.linear_ints.specs.Fractions.{size, floor_of, IsInGap}
use Rattle.linear_ints.specs.Points.{with_value, values_of}
use Rattle.linear_ints.specs.Driven.{IsCeiling, IsFloor}
use Rattle.linear_ints.specs.Ceilings.{IsBound}
use Rattle.linear_ints.specs.Splitting.{Meet, highest}
use Rattle.linear_ints.specs.Deciding.{nearest, Says, Lowest, Highest}
use Rattle.linear_ints.proofs.Fractions.{le_times, lt_of_times, floor-low, floor-high}
use Rattle.linear_ints.proofs.Points.{value_at-with_value, chosen-unnamed}
use Rattle.linear_ints.proofs.Splitting.{high-allows, low-allows, rest_is, whole_or_gap, gap-cause}
use Rattle.linear_ints.proofs.Driven.{low-refuses, driven-zero, driven-up, driven-down}

abbrev least_state : ℤ
least_state = neg_ℤ (pos (10 ^ 15))

-- a value for a new place keeps the rows that don't name the place
pub keeps : (x : ℕ → ℤ) (place : ℕ) (v : ℤ) (r : Row) → is_row r ≡ true → x place ≡ pos 0 → coefficient_at r.terms place ≡ pos 0 → row_true (with_value x place v) r ≡ row_true x r
keeps x place v r k z c =
    let e = value_at-with_value x place v 0 r.terms z (rises_of r k) in
    let f = ap (λ a. a *ℤ v) c ∙ zero-*ℤ v in
    let same : value_at (with_value x place v) r.terms ≡ value_at x r.terms = omega (arith, ints) in
    ap (λ (a : ℤ). int_le a r.bound) same

-- the floor of a fraction is the opposite of the ceiling of its opposite
pub floor_of_ceiling : (v n m : ℤ) (d : ℕ) → n ≡ neg_ℤ m → IsCeiling (neg_ℤ v) n d → IsFloor v m d
floor_of_ceiling v n m d e c =
    let p = mul_neg v (pos d) in
    let f : neg_ℤ v -ℤ pos 1 ≡ neg_ℤ (v +ℤ pos 1) = omega (arith, ints) in
    let q = ap (λ z. z *ℤ pos d) f ∙ mul_neg (v +ℤ pos 1) (pos d) in
    (omega (arith, ints, c.0, p), omega (arith, ints, c.1, q))

pub floor-one : (v m : ℤ) (d : ℕ) → 0 < d → IsFloor v m d → floor_of m d ≡ v
floor-one v m d h f =
    let a = floor-low m d h in
    let b = floor-high m d h in
    let p = lt_of_times d (floor_of m d) (v +ℤ pos 1) h (omega (arith, ints, a, f.1)) in
    let q = lt_of_times d v (floor_of m d +ℤ pos 1) h (omega (arith, ints, b, f.0)) in
    omega (arith, ints, p, q)

-- THE CHOSEN VALUE

pub nearest-within : (low high : ℤ) → low ≤ℤ high → (low ≤ℤ nearest low high) × (nearest low high ≤ℤ high)
nearest-within low high h = by_low (int_lt (pos 0) low) (int_lt high (pos 0)) refl refl
  where
    by_low : (a b : Bool) → int_lt (pos 0) low ≡ a → int_lt high (pos 0) ≡ b → (low ≤ℤ cond a low (cond b high (pos 0))) × (cond a low (cond b high (pos 0)) ≤ℤ high)
    by_low true b e f = (omega (arith, ints), h)
    by_low false true e f = (h, omega (arith, ints))
    by_low false false e f = (omega (arith, ints, e), omega (arith, ints, f))

-- it satisfies each lower row whose bound is at most the lowest value, and each upper row
pub low-satisfied : (held : List Row) (earlier : List Choice) (place i : ℕ) (bound low v : ℤ) → is_named earlier place ≡ false → coefficient_at (row_at held i).terms place <ℤ pos 0
    → Says held earlier place i bound → bound ≤ℤ low → low ≤ℤ v → row_true (with_value (chosen_point earlier) place v) (row_at held i) ≡ true
low-satisfied held earlier place i bound low v n s b l k =
    let m = le_times (size (row_at held i) place) bound v (omega (arith, ints)) in
    low-allows (chosen_point earlier) place v (row_at held i) b.row (chosen-unnamed earlier place n) s (omega (arith, ints, m, b.bound_is.above))

pub high-satisfied : (held : List Row) (earlier : List Choice) (place j : ℕ) (bound high v : ℤ) → is_named earlier place ≡ false → pos 0 <ℤ coefficient_at (row_at held j).terms place
    → Says held earlier place j bound → high ≤ℤ neg_ℤ bound → v ≤ℤ high → row_true (with_value (chosen_point earlier) place v) (row_at held j) ≡ true
high-satisfied held earlier place j bound high v n s b l k =
    let m = le_times (size (row_at held j) place) v (neg_ℤ bound) (omega (arith, ints)) in
    let e = mul_neg bound (pos (size (row_at held j) place)) in
    high-allows (chosen_point earlier) place v (row_at held j) b.row (chosen-unnamed earlier place n) s (omega (arith, ints, m, e, b.bound_is.above))

ceiling_of : (v n : ℤ) (d : ℕ) → IsBound v n d → least_state <ℤ v → IsCeiling v n d
ceiling_of v n d b l = elim b.least [ inl c ↦ c | inr e ↦ absurd (omega (arith, ints)) ]

opposite_of : (a b : ℤ) → a -ℤ b ≡ neg_ℤ (b -ℤ a)
opposite_of a b = omega (arith, ints)

-- an upper row's bound below 10^15 is its floor
highest_floor : (v value bound : ℤ) (d : ℕ) → IsBound (neg_ℤ v) (value -ℤ bound) d → v <ℤ pos (10 ^ 15) → IsFloor v (bound -ℤ value) d
highest_floor v value bound d b l = floor_of_ceiling v (value -ℤ bound) (bound -ℤ value) d (opposite_of value bound) (ceiling_of (neg_ℤ v) (value -ℤ bound) d b (omega (arith, ints)))

-- the rows drive the chosen value
pub nearest-driven : (held : List Row) (earlier : List Choice) (place : ℕ) (low high : ℤ) → is_named earlier place ≡ false → Lowest held earlier place low → Highest held earlier place high
    → is_driven held earlier (record { place = place; value = nearest low high }) ≡ true
nearest-driven held earlier place low high n l h = by_low (int_lt (pos 0) low) (int_lt high (pos 0)) refl refl
  where
    by_lowest : Lowest held earlier place low → pos 0 <ℤ low → is_driven held earlier (record { place = place; value = low }) ≡ true
    by_lowest (inl e) p = absurd (omega (arith, ints))
    by_lowest (inr (i, s, b)) p =
        driven-up held earlier (record { place = place; value = low }) i p b.below
        (record { row = b.row; new = n; sign = s; filled = b.filled; ceiling = ceiling_of low (value_at (chosen_point earlier) (row_at held i).terms -ℤ (row_at held i).bound) (size (row_at held i) place) b.bound_is (omega (arith, ints)) })

    by_highest : Highest held earlier place high → high <ℤ pos 0 → is_driven held earlier (record { place = place; value = high }) ≡ true
    by_highest (inl e) p = absurd (omega (arith, ints))
    by_highest (inr (j, s, b)) p =
        driven-down held earlier (record { place = place; value = high }) j p b.below
        (record {
          row = b.row;
          new = n;
          sign = s;
          filled = b.filled;
          floor = highest_floor high (value_at (chosen_point earlier) (row_at held j).terms) (row_at held j).bound (size (row_at held j) place) b.bound_is (omega (arith, ints));
        })

    by_low : (a b : Bool) → int_lt (pos 0) low ≡ a → int_lt high (pos 0) ≡ b → is_driven held earlier (record { place = place; value = cond a low (cond b high (pos 0)) }) ≡ true
    by_low true b e f = by_lowest l (omega (arith, ints, e))
    by_low false true e f = by_highest h (omega (arith, ints, f))
    by_low false false e f = driven-zero held earlier (record { place = place; value = pos 0 }) refl

-- THE SPLIT: where the lowest value is above the highest, both fractions lie strictly between the highest and the next

pub gap-apart : (held : List Row) (earlier : List Choice) (place i j : ℕ) (low high : ℤ) → is_named earlier place ≡ false
    → Says held earlier place i low → Says held earlier place j (neg_ℤ high) → least_state ≤ℤ high → low ≤ℤ pos (10 ^ 15) → high <ℤ low
    → Meet (chosen_point earlier) place (row_at held i) (row_at held j)
    → IsInGap high (value_at (chosen_point earlier) (row_at held i).terms -ℤ (row_at held i).bound) (size (row_at held i) place)
    × IsInGap high ((row_at held j).bound -ℤ value_at (chosen_point earlier) (row_at held j).terms) (size (row_at held j) place)
gap-apart held earlier place i j low high n b c p q a m =
    subst (λ (k : ℤ). IsInGap k (value_at (chosen_point earlier) (row_at held i).terms -ℤ (row_at held i).bound) (size (row_at held i) place)
    × IsInGap k ((row_at held j).bound -ℤ value_at (chosen_point earlier) (row_at held j).terms) (size (row_at held j) place)) high_is
    (elim (whole_or_gap m) [ inl w ↦ absurd (clash w.0) | inr s ↦ s ])
  where
    some : 0 < size (row_at held j) place
    some = size_positive (coefficient_at (row_at held j).terms place) (λ e. let s = m.high_sign in omega (arith, ints))

    floor : IsFloor high ((row_at held j).bound -ℤ value_at (chosen_point earlier) (row_at held j).terms) (size (row_at held j) place)
    floor = highest_floor high (value_at (chosen_point earlier) (row_at held j).terms) (row_at held j).bound (size (row_at held j) place) c.bound_is (omega (arith, ints))

    high_is : highest m ≡ high
    high_is =
        ap (λ (v : ℤ). floor_of ((row_at held j).bound -ℤ v) (size (row_at held j) place)) (rest_is (chosen_point earlier) (row_at held j) m.high_rest m.high_rest_is)
        ∙ floor-one high ((row_at held j).bound -ℤ value_at (chosen_point earlier) (row_at held j).terms) (size (row_at held j) place) some floor

    clash : row_true (with_value (chosen_point earlier) place (highest m)) (row_at held i) ≡ true → ⊥
    clash t =
        let k = ceiling_of low (value_at (chosen_point earlier) (row_at held i).terms -ℤ (row_at held i).bound) (size (row_at held i) place) b.bound_is (omega (arith, ints)) in
        let l = le_times (size (row_at held i) place) high (low -ℤ pos 1) (omega (arith, ints)) in
        let f = low-refuses (chosen_point earlier) place high (row_at held i) b.row (chosen-unnamed earlier place n) m.low_sign (omega (arith, ints, l, k.1)) in
        let e = ap (λ (v : ℤ). row_true (with_value (chosen_point earlier) place v) (row_at held i)) high_is in
        let no_ : true ≡ false = sym t ∙ e ∙ f in cc

-- so they keep the kernel's cause of a split at the highest
pub split-apart : (held : List Row) (earlier : List Choice) (place i j : ℕ) (low high : ℤ) → is_named earlier place ≡ false
    → Says held earlier place i low → Says held earlier place j (neg_ℤ high) → least_state ≤ℤ high → low ≤ℤ pos (10 ^ 15) → high <ℤ low
    → Meet (chosen_point earlier) place (row_at held i) (row_at held j)
    → split_cause place high (row_at held i) (row_at held j) (values_of (chosen_point earlier) place (row_at held i ∷ row_at held j ∷ [])) ≡ Ok tt
split-apart held earlier place i j low high n b c p q a m = let g = gap-apart held earlier place i j low high n b c p q a m in gap-cause m high g.0 g.1
