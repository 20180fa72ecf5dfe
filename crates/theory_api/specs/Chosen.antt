-- Values that a solver chooses for names one by one, each driven by a row.
use Rattle.std.specs.Prelude.{◌≡◌, ℕ, ◌==◌, ℤ, pos, ◌+ℤ◌, ◌-ℤ◌, Bool, true, false, not, cond, ◌&&◌, ◌||◌, List, [], ◌∷◌}
use Rattle.std.specs.List.{list_any, list_all}
use Rattle.std.specs.Ordering.{int_eq}
use Rattle.lin_rows.specs.Numbers.{is_zero}
use Rattle.lin_rows.specs.Rows.{Row, is_contradiction}
use Rattle.proof_lines.specs.Problems.{row_true}
use Rattle.line_rows.specs.Steps.{is_negative, is_positive}

-- CHOSEN VALUES: a solver puts whole numbers for names one by one, each of them 0 or no further from 0 than a row drives it.

-- A name with the value that was chosen for it.
pub record Choice : Type 0 where
  pub place : ℕ
  pub value : ℤ

-- a name has a value
abbrev pub is_named : List Choice → ℕ → Bool
is_named choices place = list_any (λ c. c.place == place) choices

-- the point of the chosen values; other names have 0
abbrev pub chosen_point : List Choice → ℕ → ℤ
chosen_point [] place = pos 0
chosen_point (c ∷ choices) place = cond (c.place == place) c.value (chosen_point choices place)

-- all names of a row have values
abbrev pub is_filled : List Choice → Row → Bool
is_filled choices r = list_all (λ t. is_named choices t.place) r.terms

-- with the earlier values put in, a row that names nothing else allows a value for a name
abbrev pub allows : List Choice → ℕ → Row → ℤ → Bool
allows earlier place r value =
    row_true (chosen_point (record { place = place; value = value } ∷ earlier)) r

-- the value is the least whole number that the row allows
abbrev pub is_least : List Choice → Choice → Row → Bool
is_least earlier c r =
    is_filled (c ∷ earlier) r
    && (allows earlier c.place r c.value && not (allows earlier c.place r (c.value -ℤ pos 1)))

-- the value is the greatest whole number that the row allows
abbrev pub is_greatest : List Choice → Choice → Row → Bool
is_greatest earlier c r =
    is_filled (c ∷ earlier) r
    && (allows earlier c.place r c.value && not (allows earlier c.place r (c.value +ℤ pos 1)))

-- a value is 0, or positive and the least that one row allows, or negative and the greatest that one row allows
abbrev pub is_driven : List Row → List Choice → Choice → Bool
is_driven rows earlier c =
    is_zero c.value
    || ((is_positive c.value && list_any (is_least earlier c) rows)
    || (is_negative c.value && list_any (is_greatest earlier c) rows))

-- different names, each with a value that the rows drive it to once the values before it are put in
abbrev pub are_driven : List Row → List Choice → List Choice → Bool
are_driven rows earlier [] = true
are_driven rows earlier (c ∷ choices) =
    not (is_named earlier c.place)
    && (is_driven rows earlier c && are_driven rows (c ∷ earlier) choices)

-- the name has that value
abbrev pub is_among : List Choice → ℕ → ℤ → Bool
is_among choices place value = list_any (λ c. (c.place == place) && int_eq c.value value) choices

-- the names have these values, in their order
abbrev pub are_among : List Choice → List ℕ → List ℤ → Bool
are_among choices [] [] = true
are_among choices [] (v ∷ values) = false
are_among choices (n ∷ names) [] = false
are_among choices (n ∷ names) (v ∷ values) = is_among choices n v && are_among choices names values

-- the values of some names are among those of a list of choices that the rows drive, and no row is a contradiction
pub record AreChosen (rows : List Row) (names : List ℕ) (values : List ℤ) : Type 0 where
  pub consistent : list_any is_contradiction rows ≡ false
  pub choices : List Choice
  pub driven : are_driven rows [] choices ≡ true
  pub among : are_among choices names values ≡ true
