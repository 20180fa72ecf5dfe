-- What is known while values are chosen. It mirrors src/bounds and src/descend: values stand in a list by place, as the code keeps them.
use Rattle.std.specs.Prelude.{◌≡◌, ℕ, ◌<◌, length, ℤ, pos, neg_ℤ, ◌-ℤ◌, Bool, true, false, List, [], take, Some, None}
use Rattle.std.specs.List.{list_all}
use Rattle.lin_rows.specs.Rows.{Row, point_of}
use Rattle.line_rows.specs.Steps.{row_at}
use Rattle.line_rows.specs.Splits.{rest_at}
use Rattle.line_rows.specs.Evidence.{in_state}
use Rattle.theory_api.specs.Chosen.{Choice, chosen_point}
use Rattle.elimination.specs.declared.tableau.Tableau.{Tableau}
use Rattle.linear_ints.specs.declared.bounds.Fault.{Fault}
use Rattle.linear_ints.specs.declared.bounds.Fault.TheVariants.{Sum, Value}
use Rattle.linear_ints.specs.declared.bounds.FaultAt.{FaultAt}
use Rattle.linear_ints.specs.Fractions.{size}
use Rattle.linear_ints.specs.Ceilings.{is_beyond}
use Rattle.theory_api.specs.Ends.{after}
use Rattle.linear_ints.specs.Descent.{Descended}
use Rattle.elimination.specs.Pairs.{place_at}
use Rattle.elimination.specs.Sides.{is_on}
use Rattle.linear_ints.specs.Bounds.{IsGreatest}

-- THE DESCENT, as values listed by place: from a stage on, all places of the order have the values that the choices give them.
pub record IsDescent (t : Tableau) (k : ℕ) (values : List ℤ) : Type 0 where
  pub choices : List Choice
  pub descended : Descended t.order t.held k choices
  pub whole : length values ≡ t.ints
  pub in_range : list_all in_state values ≡ true
  pub agrees : (q : ℕ) → point_of values q ≡ chosen_point (after [] choices) q

-- why a row gives no bound for a place. Sum: putting the values in leaves the range of a row. Value: the row allows the place no number
-- in the range of a state
abbrev pub IsFault : List ℤ → ℕ → Row → Fault → Type 0
IsFault values place r Sum = rest_at (point_of values) r ≡ None
IsFault values place r Value =
    (rest : ℤ) × (rest_at (point_of values) r ≡ Some rest)
    × (is_beyond (rest -ℤ r.bound) (size r place) ≡ true)

-- a held row at the place gives no bound
pub record IsFaultAt (before : List ℕ) (place : ℕ) (held : List Row) (values : List ℤ)
    (f : FaultAt) : Type 0 where
  pub below : f.row < length held
  pub upper : Bool
  pub on : is_on upper before place (row_at held f.row) ≡ true
  pub fault : IsFault values place (row_at held f.row) f.fault

-- the bounds of both sides of a stage
pub record AreBounds (t : Tableau) (k : ℕ) (values : List ℤ) (low_row : ℕ) (low : ℤ) (high_row : ℕ)
    (high : ℤ) : Type 0 where
  pub lows : IsGreatest false (take k t.order) (place_at t.order k) t.held values
      (length t.held) low_row low
  pub highs : IsGreatest true (take k t.order) (place_at t.order k) t.held values
      (length t.held) high_row (neg_ℤ high)

-- as many zeros as there are names
pub record AreZeros (n : ℕ) (values : List ℤ) : Type 0 where
  pub whole : length values ≡ n
  pub zero : (q : ℕ) → point_of values q ≡ pos 0
  pub in_range : list_all in_state values ≡ true
