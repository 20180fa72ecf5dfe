use Rattle.std.proofs.Common.{◌≡◌, ℕ, ◌<◌, ℤ, pos, ◌+ℤ◌, ◌-ℤ◌, ◌*ℤ◌, ◌≤ℤ◌, ◌<ℤ◌, true, false, not, ◌&&◌, ◌||◌, List, length, ap, arith}
use Rattle.std.proofs.lemmas.Bool.{and_from, or_left, or_right}
use Rattle.std.specs.Prelude.{int_le}
use Rattle.std.specs.List.{list_any}
use Rattle.std.proofs.lemmas.Int.{ints}
use Rattle.std.proofs.lemmas.List.Folds.{list_any_at}
use Rattle.lin_rows.specs.Numbers.{is_zero}
use Rattle.lin_rows.specs.Rows.{Row, is_row, value_at, coefficient_at}
use Rattle.lin_rows.proofs.Kept.{rises_of}
use Rattle.proof_lines.specs.Problems.{row_true}
use Rattle.line_rows.specs.Steps.{no_row, row_at, is_negative, is_positive}
use Rattle.theory_api.specs.Chosen.{Choice, chosen_point, allows, is_least, is_greatest, is_driven}
use Rattle.linear_ints.specs.Fractions.{size}
use Rattle.linear_ints.specs.Points.{with_value, is_filled_but}
use Rattle.linear_ints.specs.Driven.{IsCeiling, IsFloor, Raises, Lowers}
use Rattle.linear_ints.proofs.Fractions.{le_times}
use Rattle.linear_ints.proofs.Points.{value_at-with_value, chosen-unnamed}
use Rattle.elimination.proofs.Signs.{lt_so}
use Rattle.linear_ints.proofs.Splitting.{above-size, below-size, high-allows, low-allows}

not_le : (a b : ℤ) → b <ℤ a → int_le a b ≡ false
not_le a b h = grind (arith, ints)

-- a value for a place breaks an upper or a lower row
pub high-refuses : (x : ℕ → ℤ) (place : ℕ) (v : ℤ) (r : Row) → is_row r ≡ true → x place ≡ pos 0 → pos 0 <ℤ coefficient_at r.terms place → (r.bound -ℤ value_at x r.terms) <ℤ (v *ℤ pos (size r place))
    → row_true (with_value x place v) r ≡ false
high-refuses x place v r k z s h =
    let e = value_at-with_value x place v 0 r.terms z (rises_of r k) in
    let f = above-size (coefficient_at r.terms place) v s in
    not_le (value_at (with_value x place v) r.terms) r.bound (omega (arith, ints))

pub low-refuses : (x : ℕ → ℤ) (place : ℕ) (v : ℤ) (r : Row) → is_row r ≡ true → x place ≡ pos 0 → coefficient_at r.terms place <ℤ pos 0 → (v *ℤ pos (size r place)) <ℤ (value_at x r.terms -ℤ r.bound)
    → row_true (with_value x place v) r ≡ false
low-refuses x place v r k z s h =
    let e = value_at-with_value x place v 0 r.terms z (rises_of r k) in
    let f = below-size (coefficient_at r.terms place) v s in
    not_le (value_at (with_value x place v) r.terms) r.bound (omega (arith, ints))

pub least : (earlier : List Choice) (c : Choice) (r : Row) → Raises earlier c r → is_least earlier c r ≡ true
least earlier c r h =
    let z = chosen-unnamed earlier c.place h.new in
    and_from (is_filled_but earlier c.place r) (allows earlier c.place r c.value && not (allows earlier c.place r (c.value -ℤ pos 1))) h.filled
    (and_from (allows earlier c.place r c.value) (not (allows earlier c.place r (c.value -ℤ pos 1)))
    (low-allows (chosen_point earlier) c.place c.value r h.row z h.sign h.ceiling.0)
    (ap not (low-refuses (chosen_point earlier) c.place (c.value -ℤ pos 1) r h.row z h.sign h.ceiling.1)))

pub greatest : (earlier : List Choice) (c : Choice) (r : Row) → Lowers earlier c r → is_greatest earlier c r ≡ true
greatest earlier c r h =
    let z = chosen-unnamed earlier c.place h.new in
    and_from (is_filled_but earlier c.place r) (allows earlier c.place r c.value && not (allows earlier c.place r (c.value +ℤ pos 1))) h.filled
    (and_from (allows earlier c.place r c.value) (not (allows earlier c.place r (c.value +ℤ pos 1)))
    (high-allows (chosen_point earlier) c.place c.value r h.row z h.sign h.floor.0)
    (ap not (high-refuses (chosen_point earlier) c.place (c.value +ℤ pos 1) r h.row z h.sign h.floor.1)))

-- driven values: 0, a positive ceiling of a held row, a negative floor of one
pub driven-zero : (rows : List Row) (earlier : List Choice) (c : Choice) → c.value ≡ pos 0 → is_driven rows earlier c ≡ true
driven-zero rows earlier c h =
    or_left (is_zero c.value) ((is_positive c.value && list_any (is_least earlier c) rows) || (is_negative c.value && list_any (is_greatest earlier c) rows)) (ap is_zero h)

pub driven-up : (rows : List Row) (earlier : List Choice) (c : Choice) (i : ℕ) → pos 0 <ℤ c.value → i < length rows → Raises earlier c (row_at rows i) → is_driven rows earlier c ≡ true
driven-up rows earlier c i p l h =
    or_right (is_zero c.value) ((is_positive c.value && list_any (is_least earlier c) rows) || (is_negative c.value && list_any (is_greatest earlier c) rows))
    (or_left (is_positive c.value && list_any (is_least earlier c) rows) (is_negative c.value && list_any (is_greatest earlier c) rows)
    (and_from (is_positive c.value) (list_any (is_least earlier c) rows) (lt_so (pos 0) c.value p) (list_any_at (is_least earlier c) rows i no_row l (least earlier c (row_at rows i) h))))

pub driven-down : (rows : List Row) (earlier : List Choice) (c : Choice) (i : ℕ) → c.value <ℤ pos 0 → i < length rows → Lowers earlier c (row_at rows i) → is_driven rows earlier c ≡ true
driven-down rows earlier c i p l h =
    or_right (is_zero c.value) ((is_positive c.value && list_any (is_least earlier c) rows) || (is_negative c.value && list_any (is_greatest earlier c) rows))
    (or_right (is_positive c.value && list_any (is_least earlier c) rows) (is_negative c.value && list_any (is_greatest earlier c) rows)
    (and_from (is_negative c.value) (list_any (is_greatest earlier c) rows) (lt_so c.value (pos 0) p) (list_any_at (is_greatest earlier c) rows i no_row l (greatest earlier c (row_at rows i) h))))

-- a value that is at least a row's ceiling satisfies the lower row, one that is at most a row's floor the upper row
pub above-ceiling : (x : ℕ → ℤ) (place : ℕ) (v k : ℤ) (r : Row) → is_row r ≡ true → x place ≡ pos 0 → coefficient_at r.terms place <ℤ pos 0 → IsCeiling k (value_at x r.terms -ℤ r.bound) (size r place) → k ≤ℤ v
    → row_true (with_value x place v) r ≡ true
above-ceiling x place v k r h z s c l =
    let m = le_times (size r place) k v l in
    low-allows x place v r h z s (omega (arith, ints, m, c.0))

pub below-floor : (x : ℕ → ℤ) (place : ℕ) (v k : ℤ) (r : Row) → is_row r ≡ true → x place ≡ pos 0 → pos 0 <ℤ coefficient_at r.terms place → IsFloor k (r.bound -ℤ value_at x r.terms) (size r place) → v ≤ℤ k
    → row_true (with_value x place v) r ≡ true
below-floor x place v k r h z s c l =
    let m = le_times (size r place) v k l in
    high-allows x place v r h z s (omega (arith, ints, m, c.0))
