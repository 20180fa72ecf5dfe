-- The rule of a Split line: two rows that leave no whole number for a place but a gap between two neighbours.
use Rattle.std.specs.Prelude.{ℕ, ◌==◌, nat_lt, ℤ, pos, negsuc, ◌+ℤ◌, ◌-ℤ◌, ◌*ℤ◌, int_lt, unsigned_abs, Bool, true, false, not, cond, ◌&&◌, List, [], ◌∷◌, length, map, Option, Some, None, Result, Ok, Err}
use Rattle.std.specs.List.{filter, fold}
use Rattle.std.specs.Ordering.{int_eq}
use Rattle.lin_rows.specs.declared.term.RowTerm.{RowTerm}
use Rattle.lin_rows.specs.Rows.{Row, coefficient_at, sum_from}
use Rattle.proof_lines.specs.declared.problem.AtomKind.{AtomKind}
use Rattle.proof_lines.specs.declared.problem.AtomKind.TheVariants.{Plain, Row as OfRow}
use Rattle.proof_lines.specs.declared.line.RowStep.{RowStep}
use Rattle.proof_lines.specs.declared.line.Why.{Why}
use Rattle.proof_lines.specs.declared.line.Why.TheVariants.{Place, Range, SplitCause}
use Rattle.line_rows.specs.Refusals.{need, then_}
use Rattle.line_rows.specs.Steps.{row_at, is_negative, is_positive, held_rows}

-- THE CAUSE OF A SPLIT: with values for their other names, one row says `place >= p` and another `place <= q`, and both fractions
-- lie strictly between `at` and `at + 1`.

-- a number in a rising list of different ones
abbrev pub put_rising : List ℕ → ℕ → List ℕ
put_rising [] n = n ∷ []
put_rising (m ∷ ms) n =
    cond (nat_lt n m) (n ∷ m ∷ ms) (cond (n == m) (m ∷ ms) (m ∷ put_rising ms n))

-- the terms at other names than one
abbrev pub other_terms : ℕ → List RowTerm → List RowTerm
other_terms place ts = filter (λ t. not (t.place == place)) ts

-- the places that some terms name, in their order
abbrev pub places_of : List RowTerm → List ℕ
places_of ts = map (λ t. t.place) ts

-- the names other than one of some rows, in rising order
abbrev pub other_names : ℕ → List Row → List ℕ
other_names place rows =
    fold (λ names r. fold put_rising names (places_of (other_terms place r.terms))) [] rows

-- the values of names, one for each; other names have 0
abbrev pub point : List ℕ → List ℤ → ℕ → ℤ
point [] vs p = pos 0
point (n ∷ ns) [] p = pos 0
point (n ∷ ns) (v ∷ vs) p = cond (n == p) v (point ns vs p)

-- the sum of a row's terms at the other names, where each product and each partial sum is in the range of a row; the place
-- itself has 0 in the point, and so counts for nothing
abbrev pub rest_at : (ℕ → ℤ) → Row → Option ℤ
rest_at x r = sum_from x (pos 0) r.terms

-- the fraction n / d lies strictly between the whole number `at` and the next one; so it isn't whole, and `at` is the greatest
-- whole number below it
abbrev pub is_in_gap : ℤ → ℤ → ℤ → Bool
is_in_gap at n d = int_lt (at *ℤ d) n && int_lt n ((at +ℤ pos 1) *ℤ d)

-- the greatest whole number below a fraction that isn't whole, tested by its sign and the quotient of its size
abbrev pub is_floor : ℤ → Bool → ℕ → Bool
is_floor (pos k) true quotient = k == quotient
is_floor (negsuc k) true quotient = false
is_floor (pos k) false quotient = false
is_floor (negsuc k) false quotient = k == quotient

-- the size of a row's coefficient at a place
abbrev pub size_at : Row → ℕ → ℤ
size_at r place = pos (unsigned_abs (coefficient_at r.terms place))

-- with rests of the two rows the fractions p and q. In `low` the coefficient is negative, so that p = (rest - bound) / size; in
-- `high` it is positive, so that q = (bound - rest) / size
abbrev pub in_gap : ℤ → ℕ → Row → ℤ → Row → ℤ → Bool
in_gap at place low rest_low high rest_high =
    is_in_gap at (rest_low -ℤ low.bound) (size_at low place)
    && is_in_gap at (high.bound -ℤ rest_high) (size_at high place)

-- the last two tests of a Split, with the rests of its two rows: both are in range, and both fractions lie in the gap
abbrev pub with_rests : ℤ → ℕ → Row → Option ℤ → Row → Option ℤ → Result (Unit {0}) Why
with_rests at place low (Some l) high (Some h) =
    need (in_gap at place low l high h) SplitCause (Ok tt)
with_rests at place low (Some l) high None = Err Range
with_rests at place low None high h = Err Range

-- the values of the names other than the place in the two rows
abbrev pub split_point : ℕ → Row → Row → List ℤ → ℕ → ℤ
split_point place low high values = point (other_names place (low ∷ high ∷ [])) values

-- SplitCause: the place's coefficient isn't negative in `low`, or isn't positive in `high`. Range: putting the values in leaves
-- the range of a row. SplitCause: the fractions don't lie strictly between `at` and the next whole number
abbrev pub split_cause : ℕ → ℤ → Row → Row → List ℤ → Result (Unit {0}) Why
split_cause place at low high values =
    need
    (is_negative (coefficient_at low.terms place)
    && is_positive (coefficient_at high.terms place)) SplitCause
    (with_rests at place
    low (rest_at (split_point place low high values) low)
    high (rest_at (split_point place low high values) high))

-- `low` and `high` are rows, and there is one value for each name other than the place in the two rows
abbrev pub split_fits : List Row → ℕ → ℕ → ℕ → List ℤ → Bool
split_fits rows place low high values =
    nat_lt low (length rows)
    && (nat_lt high (length rows)
    && (length values == length (other_names place (row_at rows low ∷ row_at rows high ∷ []))))

-- the rule of a Split over given rows, but for what it says of atoms and of the number of integer names
abbrev pub splits : List Row → List RowStep → ℕ → ℤ → ℕ → ℕ → List ℤ → Result (Unit {0}) Why
splits given steps place at low high values =
    then_ (held_rows given steps)
    (λ rows. need (split_fits rows place low high values) Place
    (split_cause place at (row_at rows low) (row_at rows high) values))

-- THE ROW OF A SPLIT.

-- the row `place <= at`
abbrev pub at_most : ℕ → ℤ → Row
at_most place at = record { terms = record { place = place; coef = pos 1 } ∷ []; bound = at }

-- the term `1 * place`, and no other
abbrev pub is_alone : ℕ → List RowTerm → Bool
is_alone place [] = false
is_alone place (t ∷ []) = (t.place == place) && int_eq t.coef (pos 1)
is_alone place (t ∷ u ∷ ts) = false

-- the atom has the row `place <= at`
abbrev pub is_at_most : ℕ → ℤ → AtomKind → Bool
is_at_most place at Plain = false
is_at_most place at (OfRow r) = is_alone place r.terms && int_eq r.bound at
