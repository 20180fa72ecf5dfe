-- What a line says at its end, from the rows that are kept for it.
use Rattle.std.proofs.Common.{◌≡◌, ℕ, suc, ◌<◌, ◌≤◌, ◌+◌, ◌-◌, Bool, true, false, cond, ◌&&◌, List, [], ◌∷◌, ◌++◌, length, length-append, refl, sym, ◌∙◌, ap, arith, Option, Some, None, Result, Ok, Err, ◌⊎◌, inl, inr}
use Rattle.std.specs.Prelude.{slice_get}
use Rattle.std.specs.Option.{option_map}
use Rattle.std.specs.List.{list_all}
use Rattle.std.proofs.lemmas.Bool.{cases_lt, lt-ltb, le-ltb}
use Rattle.std.proofs.lemmas.Option.{slice_get-get_or}
use Rattle.lin_rows.specs.Rows.{Row}
use Rattle.lin_rows.specs.Divisors.{tightened}
use Rattle.lin_rows.proofs.Points.{some_is}
use Rattle.proof_lines.specs.declared.clause.Lit.{Lit}
use Rattle.proof_lines.specs.declared.problem.AtomKind.{AtomKind}
use Rattle.proof_lines.specs.declared.line.RowStep.{RowStep}
use Rattle.proof_lines.specs.declared.line.RangeWhat.{RangeWhat}
use Rattle.proof_lines.specs.declared.line.RangeWhat.TheVariants.{Product, Value, Sum}
use Rattle.proof_lines.specs.declared.line.Why.{Why}
use Rattle.proof_lines.specs.declared.line.Why.TheVariants.{Place, Range}
use Rattle.line_rows.specs.Refusals.{or_broken, then_}
use Rattle.line_rows.specs.Steps.{has_row, is_some_literal, lit_row, lit_rows, with_row, row_at, no_row, step_row, with_steps, line_rows, ends_badly}
use Rattle.line_rows.specs.Evidence.{all_cancel, is_beyond, range_shown}
use Rattle.line_rows.specs.Kept.{kept_at, HasKept, is_bad, Ends, all_cancel_in, first_named, second_named, beyond_in}
use Rattle.line_rows.proofs.Sound.{ok_is}
use Rattle.line_rows.proofs.Keeping.{found}

-- how many rows a line has
lits-length : (atoms : List AtomKind) (used : List Lit) (rows : List Row) → lit_rows atoms used ≡ Some rows → length rows ≡ length used
lits-length atoms [] rows h = ap (λ (l : List Row). length l) (sym (some_is h))
lits-length atoms (l ∷ used) rows h = by_case (option_map tightened (lit_row atoms l)) (lit_rows atoms used) (lits-length atoms used) h
  where
    by_case : (o : Option Row) (q : Option (List Row)) → ((rs : List Row) → q ≡ Some rs → length rs ≡ length used) → with_row o q ≡ Some rows → length rows ≡ suc (length used)
    by_case (Some r) (Some rs) rest h = ap (λ (z : List Row). length z) (sym (some_is h)) ∙ ap (λ (n : ℕ). suc n) (rest rs refl)
    by_case (Some r) None rest h = absurd cc
    by_case None q rest h = absurd cc

pub length-with_steps : (rows : List Row) (steps : List RowStep) (all : List Row) → with_steps rows steps ≡ Ok all → length all ≡ length rows + length steps
length-with_steps rows [] all h = let e = ap (λ (l : List Row). length l) (ok_is rows all (Ok rows) refl h) in omega arith
length-with_steps rows (s ∷ steps) all h = by_row (step_row rows s) h (λ r. length-with_steps (rows ++ r ∷ []) steps all)
  where
    by_row : (o : Result Row Why) → then_ o (λ r. with_steps (rows ++ r ∷ []) steps) ≡ Ok all
        → ((r : Row) → with_steps (rows ++ r ∷ []) steps ≡ Ok all → length all ≡ length (rows ++ r ∷ []) + length steps) → length all ≡ length rows + suc (length steps)
    by_row (Ok r) h rest = let e = rest r h in let f = length-append rows (r ∷ []) in omega arith
    by_row (Err w) h rest = absurd cc

line-length : (atoms : List AtomKind) (used : List Lit) (steps : List RowStep) (rows : List Row) → line_rows atoms used steps ≡ Ok rows → length rows ≡ length used + length steps
line-length atoms used steps rows h = by_case (is_some_literal used && list_all (has_row atoms) used) (lit_rows atoms used) (lits-length atoms used) h
  where
    by_case : (p : Bool) (o : Option (List Row)) → ((rs : List Row) → o ≡ Some rs → length rs ≡ length used)
        → then_ (cond p (or_broken Range o) (Err Place)) (λ first. with_steps first steps) ≡ Ok rows → length rows ≡ length used + length steps
    by_case true (Some first) rest h = let a = length-with_steps first steps rows h in let b = rest first refl in omega arith
    by_case true None rest h = absurd cc
    by_case false o rest h = absurd cc

-- the last row
pub ends-kept : (rows : List Row) (kept : Option Row) (last : ℕ) → last ≡ length rows - 1 → kept ≡ slice_get rows last → ends_badly rows ≡ is_bad kept
ends-kept [] kept last e k = sym (ap is_bad k)
ends-kept (r ∷ rows) kept last e k =
    let lt : length (r ∷ rows) - 1 < length (r ∷ rows) = omega arith in
    sym (ap is_bad (k ∙ ap (slice_get (r ∷ rows)) e ∙ slice_get-get_or (r ∷ rows) (length (r ∷ rows) - 1) no_row lt))

pub ends-line : (atoms : List AtomKind) (used : List Lit) (steps : List RowStep) (kept : List (Option Row)) (last : ℕ) (b : Bool) → last ≡ (length used + length steps) - 1
    → HasKept (line_rows atoms used steps) (last ∷ []) kept → b ≡ is_bad (kept_at kept last) → Ends b (line_rows atoms used steps)
ends-line atoms used steps kept last b e h i =
    let n = line-length atoms used steps h.0 h.1 in
    let f : last ≡ length h.0 - 1 = omega arith in
    let lt : 0 < length (last ∷ []) = omega arith in
    (h.0, h.1, ends-kept h.0 (kept_at kept last) last f (h.2.there 0 lt) ∙ sym i)

-- a number beyond the range
beyond-kept : (rows : List Row) (what : RangeWhat) (a b : Option Row) → a ≡ slice_get rows (first_named what) → b ≡ slice_get rows (second_named what)
    → beyond_in a b what ≡ is_beyond rows what
beyond-kept rows (Product left right place) a b e f = by_case (found rows a left e (cases_lt left (length rows))) (found rows b right f (cases_lt right (length rows)))
  where
    by_case : ((left < length rows) × (a ≡ Some (row_at rows left))) ⊎ ((length rows ≤ left) × (a ≡ None))
        → ((right < length rows) × (b ≡ Some (row_at rows right))) ⊎ ((length rows ≤ right) × (b ≡ None))
        → beyond_in a b (Product left right place) ≡ is_beyond rows (Product left right place)
    by_case (inl p) (inl q) = rw (lt-ltb left (length rows) p.0) (rw (lt-ltb right (length rows) q.0) (ap (λ (x : Option Row). beyond_in x b (Product left right place)) p.1 ∙ ap (λ (x : Option Row). beyond_in (Some (row_at rows left)) x (Product left right place)) q.1))
    by_case (inl p) (inr q) = rw (lt-ltb left (length rows) p.0) (rw (le-ltb right (length rows) q.0) (ap (λ (x : Option Row). beyond_in x b (Product left right place)) p.1 ∙ ap (λ (x : Option Row). beyond_in (Some (row_at rows left)) x (Product left right place)) q.1))
    by_case (inr p) q = rw (le-ltb left (length rows) p.0) (ap (λ (x : Option Row). beyond_in x b (Product left right place)) p.1)
beyond-kept rows (Value i place values) a b e f = by_case (found rows a i e (cases_lt i (length rows)))
  where
    by_case : ((i < length rows) × (a ≡ Some (row_at rows i))) ⊎ ((length rows ≤ i) × (a ≡ None))
        → beyond_in a b (Value i place values) ≡ is_beyond rows (Value i place values)
    by_case (inl p) = rw (lt-ltb i (length rows) p.0) (ap (λ (x : Option Row). beyond_in x b (Value i place values)) p.1)
    by_case (inr p) = rw (le-ltb i (length rows) p.0) (ap (λ (x : Option Row). beyond_in x b (Value i place values)) p.1)
beyond-kept rows (Sum i place values) a b e f = by_case (found rows a i e (cases_lt i (length rows)))
  where
    by_case : ((i < length rows) × (a ≡ Some (row_at rows i))) ⊎ ((length rows ≤ i) × (a ≡ None))
        → beyond_in a b (Sum i place values) ≡ is_beyond rows (Sum i place values)
    by_case (inl p) = rw (lt-ltb i (length rows) p.0) (ap (λ (x : Option Row). beyond_in x b (Sum i place values)) p.1)
    by_case (inr p) = rw (le-ltb i (length rows) p.0) (ap (λ (x : Option Row). beyond_in x b (Sum i place values)) p.1)

pub shown-kept : (given : Result (List Row) Why) (steps : List RowStep) (what : RangeWhat) (first second : ℕ) (kept : List (Option Row)) → HasKept given (first ∷ second ∷ []) kept
    → all_cancel_in given steps ≡ true → first ≡ first_named what → second ≡ second_named what
    → beyond_in (kept_at kept first) (kept_at kept second) what ≡ range_shown steps what given
shown-kept given steps what first second kept h c e f =
    let one : 0 < length (first ∷ second ∷ []) = omega arith in
    let two : 1 < length (first ∷ second ∷ []) = omega arith in
    let a : kept_at kept first ≡ slice_get h.0 (first_named what) = h.2.there 0 one ∙ ap (slice_get h.0) e in
    let b : kept_at kept second ≡ slice_get h.0 (second_named what) = h.2.there 1 two ∙ ap (slice_get h.0) f in
    let all : all_cancel h.0 steps ≡ true = ap (λ (o : Result (List Row) Why). all_cancel_in o steps) (sym h.1) ∙ c in
    beyond-kept h.0 what (kept_at kept first) (kept_at kept second) a b
    ∙ sym (ap (λ (o : Result (List Row) Why). range_shown steps what o) h.1 ∙ ap (λ (v : Bool). v && is_beyond h.0 what) all)
