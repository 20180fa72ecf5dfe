use Rattle.std.proofs.Common.{◌≡◌, ℕ, ℤ, pos, negsuc, ◌+ℤ◌, ◌*ℤ◌, ◌≤ℤ◌, true, List, ap, subst, arith, Option, Some, None}
use Rattle.std.proofs.lemmas.Bool.{and_from}
use Rattle.std.specs.Option.{option_map, option_and_then}
use Rattle.std.proofs.lemmas.Int.{ints}
use Rattle.lin_rows.specs.Numbers.{fit, in_range}
use Rattle.lin_rows.specs.declared.term.RowTerm.{RowTerm}
use Rattle.lin_rows.specs.Rows.{Row, rises_from, is_row, value_at, Satisfies}
use Rattle.lin_rows.specs.Divisors.{tightened}
use Rattle.lin_rows.specs.Sums.{scaled, merged, row_fit, times_row, plus_row, row_sum}
use Rattle.lin_rows.proofs.Points.{fit-is, in_range-fit, some_is, option_map-went, option_and_then-went, value_at-scaled, value_at-merged}
use Rattle.lin_rows.proofs.Kept.{rises_of, rises-scaled, rises-merged}
use Rattle.lin_rows.proofs.Rounding.{mul_le, is_row-tightened, satisfies-tightened}

pub row_fit-went : (o : Option (List RowTerm)) (b : Option ℤ) (out : Row) → row_fit o b ≡ Some out → (o ≡ Some out.terms) × (b ≡ Some out.bound)
row_fit-went (Some ts) (Some b) out h = let e = some_is h in (ap (λ (r : Row). Some r.terms) e, ap (λ (r : Row). Some r.bound) e)
row_fit-went (Some ts) None out h = absurd cc
row_fit-went None b out h = absurd cc

-- multiples and sums are rows
pub is_row-times : (by : ℤ) (r out : Row) → is_row r ≡ true → times_row by r ≡ Some out → is_row out ≡ true
is_row-times by r out k h =
    let w = row_fit-went (scaled by r.terms) (fit (by *ℤ r.bound)) out h in
    and_from (rises_from 0 out.terms) (in_range out.bound) (rises-scaled 0 by r.terms out.terms (rises_of r k) w.0) (in_range-fit (by *ℤ r.bound) out.bound w.1)

pub is_row-plus : (l r out : Row) → is_row l ≡ true → is_row r ≡ true → plus_row l r ≡ Some out → is_row out ≡ true
is_row-plus l r out j k h =
    let w = row_fit-went (merged l.terms r.terms) (fit (l.bound +ℤ r.bound)) out h in
    and_from (rises_from 0 out.terms) (in_range out.bound) (rises-merged 0 l.terms r.terms out.terms (rises_of l j) (rises_of r k) w.0) (in_range-fit (l.bound +ℤ r.bound) out.bound w.1)

-- what a sum of rows was made of
pub record Summed (l : Row) (first : ℤ) (r : Row) (second : ℤ) (out : Row) : Type 0 where
  pub left : Row
  pub right : Row
  pub loose : Row
  pub left_is : times_row first l ≡ Some left
  pub right_is : times_row second r ≡ Some right
  pub loose_is : plus_row left right ≡ Some loose
  pub tight_is : tightened loose ≡ out

pub row_sum-went : (l : Row) (first : ℤ) (r : Row) (second : ℤ) (out : Row) → row_sum l first r second ≡ Some out → Summed l first r second out
row_sum-went l first r second out h =
    let a = option_and_then-went (λ p. option_and_then (λ q. option_map tightened (plus_row p q)) (times_row second r)) (times_row first l) out h in
    let b = option_and_then-went (λ q. option_map tightened (plus_row a.0 q)) (times_row second r) out a.2 in
    let c = option_map-went tightened (plus_row a.0 b.0) out b.2 in
    record { left = a.0; right = b.0; loose = c.0; left_is = a.1; right_is = b.1; loose_is = c.1; tight_is = c.2 }

-- a sum of rows is a row
pub is_row-sum : (l : Row) (first : ℤ) (r : Row) (second : ℤ) (out : Row) → is_row l ≡ true → is_row r ≡ true → row_sum l first r second ≡ Some out → is_row out ≡ true
is_row-sum l first r second out j k h =
    let s = row_sum-went l first r second out h in
    let p = is_row-times first l s.left j s.left_is in
    let q = is_row-times second r s.right k s.right_is in
    subst (λ (z : Row). is_row z ≡ true) s.tight_is (is_row-tightened s.loose (is_row-plus s.left s.right s.loose p q s.loose_is))

satisfies-times : (x : ℕ → ℤ) (by : ℤ) (r out : Row) → pos 0 ≤ℤ by → times_row by r ≡ Some out → Satisfies x r → Satisfies x out
satisfies-times x (pos n) r out p h m =
    let w = row_fit-went (scaled (pos n) r.terms) (fit (pos n *ℤ r.bound)) out h in
    let v = value_at-scaled x (pos n) r.terms out.terms w.0 in
    let b = fit-is (pos n *ℤ r.bound) out.bound w.1 in
    let l = mul_le n (value_at x r.terms) r.bound m in omega (arith, ints)
satisfies-times x (negsuc n) r out p h m = absurd (omega (arith, ints))

satisfies-plus : (x : ℕ → ℤ) (l r out : Row) → plus_row l r ≡ Some out → Satisfies x l → Satisfies x r → Satisfies x out
satisfies-plus x l r out h m n =
    let w = row_fit-went (merged l.terms r.terms) (fit (l.bound +ℤ r.bound)) out h in
    let v = value_at-merged x l.terms r.terms out.terms w.0 in
    let b = fit-is (l.bound +ℤ r.bound) out.bound w.1 in omega (arith, ints)

-- a point that satisfies two rows satisfies each sum of them
pub satisfies-sum : (x : ℕ → ℤ) (l : Row) (first : ℤ) (r : Row) (second : ℤ) (out : Row) → is_row l ≡ true → is_row r ≡ true → pos 0 ≤ℤ first → pos 0 ≤ℤ second
    → row_sum l first r second ≡ Some out → Satisfies x l → Satisfies x r → Satisfies x out
satisfies-sum x l first r second out j k f g h m n =
    let s = row_sum-went l first r second out h in
    let p = is_row-times first l s.left j s.left_is in
    let q = is_row-times second r s.right k s.right_is in
    let u = satisfies-times x first l s.left f s.left_is m in
    let v = satisfies-times x second r s.right g s.right_is n in
    subst (λ (z : Row). Satisfies x z) s.tight_is (satisfies-tightened x s.loose (is_row-plus s.left s.right s.loose p q s.loose_is) (satisfies-plus x s.left s.right s.loose s.loose_is u v))
