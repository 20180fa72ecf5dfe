-- When a row drives a value: as the least whole number above a fraction, or the greatest below one.
use Rattle.std.specs.Prelude.{◌≡◌, ℕ, ℤ, pos, ◌+ℤ◌, ◌-ℤ◌, ◌*ℤ◌, ◌≤ℤ◌, ◌<ℤ◌, true, false, List}
use Rattle.lin_rows.specs.Rows.{Row, is_row, value_at, coefficient_at}
use Rattle.theory_api.specs.Chosen.{Choice, is_named, chosen_point}
use Rattle.linear_ints.specs.Fractions.{size}
use Rattle.linear_ints.specs.Points.{is_filled_but}

-- the least whole number that is at least n / d
abbrev pub IsCeiling : ℤ → ℤ → ℕ → Type 0
IsCeiling v n d = (n ≤ℤ (v *ℤ pos d)) × (((v -ℤ pos 1) *ℤ pos d) <ℤ n)

-- the greatest whole number that is at most m / e
abbrev pub IsFloor : ℤ → ℤ → ℕ → Type 0
IsFloor v m e = ((v *ℤ pos e) ≤ℤ m) × (m <ℤ ((v +ℤ pos 1) *ℤ pos e))

-- a row whose names but the choice's place have values gives the choice's value as its ceiling
pub record Raises (earlier : List Choice) (c : Choice) (r : Row) : Type 0 where
  pub row : is_row r ≡ true
  pub new : is_named earlier c.place ≡ false
  pub sign : coefficient_at r.terms c.place <ℤ pos 0
  pub filled : is_filled_but earlier c.place r ≡ true
  pub ceiling : IsCeiling c.value (value_at (chosen_point earlier) r.terms -ℤ r.bound)
      (size r c.place)

-- a row whose names but the choice's place have values gives the choice's value as its floor
pub record Lowers (earlier : List Choice) (c : Choice) (r : Row) : Type 0 where
  pub row : is_row r ≡ true
  pub new : is_named earlier c.place ≡ false
  pub sign : pos 0 <ℤ coefficient_at r.terms c.place
  pub filled : is_filled_but earlier c.place r ≡ true
  pub floor : IsFloor c.value (r.bound -ℤ value_at (chosen_point earlier) r.terms) (size r c.place)
