-- The rows of a line keep what the type of rows keeps, and so does the row of a Split line.
use Rattle.std.proofs.Common.{◌≡◌, ℕ, zero, suc, ◌<◌, Bool, true, false, not, cond, ◌&&◌, ◌||◌, List, [], ◌∷◌, ◌++◌, length, map, refl, sym, subst, arith, Option, Some, None, Result, Ok, Err}
use Rattle.std.specs.Prelude.{nat_lt, nat_le, ℤ, ◌-ℤ◌, unsigned_abs}
use Rattle.std.specs.List.{list_all}
use Rattle.std.specs.Option.{option_map, option_and_then}
use Rattle.std.proofs.lemmas.Int.{ints}
use Rattle.std.proofs.lemmas.Bool.{and_parts, and_from, le-leb}
use Rattle.std.proofs.lemmas.List.Folds.{list_all-append}
use Rattle.lin_rows.specs.Numbers.{in_range}
use Rattle.lin_rows.specs.Rows.{Row, is_row, negated, rises_from, coefficient_at}
use Rattle.lin_rows.specs.Divisors.{tightened}
use Rattle.lin_rows.specs.Sums.{row_sum}
use Rattle.lin_rows.proofs.Points.{option_and_then-went, some_is}
use Rattle.lin_rows.proofs.Kept.{is_row-negated}
use Rattle.lin_rows.proofs.Rounding.{is_row-tightened}
use Rattle.lin_rows.proofs.Sums.{is_row-sum}
use Rattle.proof_lines.specs.declared.clause.Lit.{Lit}
use Rattle.proof_lines.specs.declared.problem.AtomKind.{AtomKind}
use Rattle.proof_lines.specs.declared.line.RowStep.{RowStep}
use Rattle.proof_lines.specs.declared.line.Why.{Why}
use Rattle.proof_lines.specs.declared.line.Why.TheVariants.{Place, Range, Multiplier, SplitCause}
use Rattle.proof_lines.specs.Problems.{has_good_row}
use Rattle.line_rows.specs.Refusals.{then_, or_broken}
use Rattle.line_rows.specs.Steps.{atom_row, has_row, lit_row, lit_rows, with_row, row_at, is_negative, is_positive, step_row, with_steps, line_rows, held_rows, is_some_literal}
use Rattle.line_rows.specs.Splits.{at_most, rest_at, split_point, split_cause, split_fits, splits, with_rests, in_gap, is_in_gap, size_at}
use Rattle.line_rows.proofs.Sound.{row-good, ok_is}
use Rattle.line_rows.proofs.Gap.{gap_told}
use Rattle.line_rows.proofs.Points.{rest-fits}

-- the row of a literal
lit-is_row : (atoms : List AtomKind) (l : Lit) (r : Row) → list_all has_good_row atoms ≡ true → lit_row atoms l ≡ Some r → is_row r ≡ true
lit-is_row atoms l r g h = by_sign l.positive h
  where
    by_sign : (p : Bool) → cond p (atom_row atoms l.atom) (option_and_then negated (atom_row atoms l.atom)) ≡ Some r → is_row r ≡ true
    by_sign true h = row-good atoms l.atom r h g
    by_sign false h =
        let w = option_and_then-went negated (atom_row atoms l.atom) r h in
        is_row-negated w.0 r (row-good atoms l.atom w.0 w.1 g) w.2

lits-are_rows : (atoms : List AtomKind) (used : List Lit) (rows : List Row) → list_all has_good_row atoms ≡ true → lit_rows atoms used ≡ Some rows → list_all is_row rows ≡ true
lits-are_rows atoms [] rows g h = subst (λ (z : List Row). list_all is_row z ≡ true) (some_is h) refl
lits-are_rows atoms (l ∷ used) rows g h = by_case (λ rs f. lits-are_rows atoms used rs g f) (lit_row atoms l) (lit_rows atoms used) refl refl h
  where
    by_case : ((rs : List Row) → lit_rows atoms used ≡ Some rs → list_all is_row rs ≡ true) → (o : Option Row) (q : Option (List Row)) → lit_row atoms l ≡ o → lit_rows atoms used ≡ q
        → with_row (option_map tightened o) q ≡ Some rows → list_all is_row rows ≡ true
    by_case rest (Some r) (Some rs) e f h =
        subst (λ (z : List Row). list_all is_row z ≡ true) (some_is h)
        (and_from (is_row (tightened r)) (list_all is_row rs) (is_row-tightened r (lit-is_row atoms l r g e)) (rest rs f))
    by_case rest (Some r) None e f h = absurd cc
    by_case rest None q e f h = absurd cc

pub row_at-is_row : (rows : List Row) (i : ℕ) → list_all is_row rows ≡ true → is_row (row_at rows i) ≡ true
row_at-is_row [] i h = refl
row_at-is_row (r ∷ rows) zero h = (and_parts (is_row r) (list_all is_row rows) h).0
row_at-is_row (r ∷ rows) (suc i) h = row_at-is_row rows i (and_parts (is_row r) (list_all is_row rows) h).1

-- the row of a step
step-is_row : (rows : List Row) (s : RowStep) (r : Row) → list_all is_row rows ≡ true → step_row rows s ≡ Ok r → is_row r ≡ true
step-is_row rows s r g h = by_case (nat_lt s.left (length rows) && nat_lt s.right (length rows)) (is_negative s.first || is_negative s.second) (row_sum (row_at rows s.left) s.first (row_at rows s.right) s.second) refl h
  where
    by_case : (p n : Bool) (o : Option Row) → row_sum (row_at rows s.left) s.first (row_at rows s.right) s.second ≡ o
        → cond p (cond (not n) (or_broken Range o) (Err Multiplier)) (Err Place) ≡ Ok r → is_row r ≡ true
    by_case true false (Some q) k h =
        subst (λ (z : Row). is_row z ≡ true) (ok_is q r (Ok q) refl h)
        (is_row-sum (row_at rows s.left) s.first (row_at rows s.right) s.second q (row_at-is_row rows s.left g) (row_at-is_row rows s.right g) k)
    by_case true false None k h = absurd cc
    by_case true true o k h = absurd cc
    by_case false n o k h = absurd cc

pub steps-are_rows : (rows : List Row) (steps : List RowStep) (all : List Row) → list_all is_row rows ≡ true → with_steps rows steps ≡ Ok all → list_all is_row all ≡ true
steps-are_rows rows [] all g h = subst (λ (z : List Row). list_all is_row z ≡ true) (ok_is rows all (Ok rows) refl h) g
steps-are_rows rows (s ∷ steps) all g h = by_case (λ r a k. steps-are_rows (rows ++ r ∷ []) steps all a k) (step_row rows s) refl h
  where
    by_case : ((r : Row) → list_all is_row (rows ++ r ∷ []) ≡ true → with_steps (rows ++ r ∷ []) steps ≡ Ok all → list_all is_row all ≡ true) → (o : Result Row Why) → step_row rows s ≡ o
        → then_ o (λ r. with_steps (rows ++ r ∷ []) steps) ≡ Ok all → list_all is_row all ≡ true
    by_case rest (Ok r) e h =
        rest r (rw list_all-append (and_from (list_all is_row rows) (is_row r && true) g (and_from (is_row r) true (step-is_row rows s r g e) refl))) h
    by_case rest (Err w) e h = absurd cc

-- all rows of a line
pub line-are_rows : (atoms : List AtomKind) (used : List Lit) (steps : List RowStep) (rows : List Row) → list_all has_good_row atoms ≡ true → line_rows atoms used steps ≡ Ok rows → list_all is_row rows ≡ true
line-are_rows atoms used steps rows g h = by_case (is_some_literal used && list_all (has_row atoms) used) (lit_rows atoms used) refl h
  where
    by_case : (p : Bool) (o : Option (List Row)) → lit_rows atoms used ≡ o → then_ (cond p (or_broken Range o) (Err Place)) (λ rows. with_steps rows steps) ≡ Ok rows → list_all is_row rows ≡ true
    by_case true (Some first) e h = steps-are_rows first steps rows (lits-are_rows atoms used first g e) h
    by_case true None e h = absurd cc
    by_case false o e h = absurd cc

tightened-are_rows : (rows : List Row) → list_all is_row rows ≡ true → list_all is_row (map tightened rows) ≡ true
tightened-are_rows [] h = refl
tightened-are_rows (r ∷ rows) h =
    let b = and_parts (is_row r) (list_all is_row rows) h in
    and_from (is_row (tightened r)) (list_all is_row (map tightened rows)) (is_row-tightened r b.0) (tightened-are_rows rows b.1)

pub held-are_rows : (given : List Row) (steps : List RowStep) (all : List Row) → list_all is_row given ≡ true → held_rows given steps ≡ Ok all → list_all is_row all ≡ true
held-are_rows given steps all g h = steps-are_rows (map tightened given) steps all (tightened-are_rows given g) h

abbrev fine : Result (Unit {0}) Why
fine = Ok tt

-- the number of a Split line is in the range of a row
pub split-in_range : (place : ℕ) (at : ℤ) (low high : Row) (values : List ℤ) → is_row low ≡ true → split_cause place at low high values ≡ Ok tt → in_range at ≡ true
split-in_range place at low high values g h =
    by_signs (is_negative (coefficient_at low.terms place)) (is_positive (coefficient_at high.terms place)) refl (rest_at x low) (rest_at x high) refl h
  where
    x : ℕ → ℤ
    x = split_point place low high values

    some_size : (c : ℤ) → is_negative c ≡ true → 0 < unsigned_abs c
    some_size c h = omega (arith, ints, h)

    by_gap : (l hi : ℤ) (b : Bool) → is_negative (coefficient_at low.terms place) ≡ true → rest_at x low ≡ Some l → in_gap at place low l high hi ≡ b → cond b fine (Err SplitCause) ≡ fine → in_range at ≡ true
    by_gap l hi false n e i h = absurd cc
    by_gap l hi true n e i h =
        let p = and_parts (is_in_gap at (l -ℤ low.bound) (size_at low place)) (is_in_gap at (high.bound -ℤ hi) (size_at high place)) i in
        gap_told true at l low.bound (unsigned_abs (coefficient_at low.terms place)) (some_size (coefficient_at low.terms place) n) (sym p.0) refl
        (rest-fits x low.terms (Some l) (sym e)) (and_parts (rises_from 0 low.terms) (in_range low.bound) g).1

    by_signs : (n p : Bool) → is_negative (coefficient_at low.terms place) ≡ n → (l hi : Option ℤ) → rest_at x low ≡ l → cond (n && p) (with_rests at place low l high hi) (Err SplitCause) ≡ fine → in_range at ≡ true
    by_signs true true n (Some l) (Some hi) e h = by_gap l hi (in_gap at place low l high hi) n e refl h
    by_signs true true n (Some l) None e h = absurd cc
    by_signs true true n None hi e h = absurd cc
    by_signs true false n l hi e h = absurd cc
    by_signs false p n l hi e h = absurd cc

pub splits-in_range : (given : List Row) (steps : List RowStep) (place : ℕ) (at : ℤ) (low high : ℕ) (values : List ℤ) → list_all is_row given ≡ true → splits given steps place at low high values ≡ Ok tt → in_range at ≡ true
splits-in_range given steps place at low high values g h = by_rows (held_rows given steps) refl h
  where
    by_fits : (all : List Row) (f : Bool) → list_all is_row all ≡ true → cond f (split_cause place at (row_at all low) (row_at all high) values) (Err Place) ≡ fine → in_range at ≡ true
    by_fits all true k h = split-in_range place at (row_at all low) (row_at all high) values (row_at-is_row all low k) h
    by_fits all false k h = absurd cc

    by_rows : (o : Result (List Row) Why) → held_rows given steps ≡ o → then_ o (λ rows. cond (split_fits rows place low high values) (split_cause place at (row_at rows low) (row_at rows high) values) (Err Place)) ≡ fine → in_range at ≡ true
    by_rows (Ok all) e h = by_fits all (split_fits all place low high values) (held-are_rows given steps all g e) h
    by_rows (Err w) e h = absurd cc

pub is_row-at_most : (place : ℕ) (at : ℤ) → in_range at ≡ true → is_row (at_most place at) ≡ true
is_row-at_most place at h = and_from (rises_from 0 (at_most place at).terms) (in_range at) (and_from (nat_le 0 place) true (le-leb 0 place (omega arith)) refl) h
