-- A Split line, from the two rows that are kept for it.
use Rattle.std.proofs.Common.{◌≡◌, ℕ, ◌<◌, ◌≤◌, ℤ, List, [], ◌∷◌, length, refl, sym, ◌∙◌, ap, arith, Option, Some, None, Result, Ok, Err, ◌⊎◌, inl, inr}
use Rattle.std.specs.Prelude.{slice_get}
use Rattle.std.proofs.lemmas.Bool.{cases_lt, lt-ltb, le-ltb}
use Rattle.lin_rows.specs.Rows.{Row}
use Rattle.lin_rows.proofs.Points.{some_is}
use Rattle.proof_lines.specs.declared.clause.Lit.{Lit}
use Rattle.proof_lines.specs.declared.line.RowStep.{RowStep}
use Rattle.proof_lines.specs.declared.line.Why.{Why}
use Rattle.proof_lines.specs.declared.line.Why.TheVariants.{Place}
use Rattle.line_rows.specs.Refusals.{then_}
use Rattle.line_rows.specs.Steps.{line_rows, row_at}
use Rattle.line_rows.specs.Kept.{kept_at, HasKept}
use Rattle.line_rows.proofs.Keeping.{found}
use Rattle.proof_kernel.specs.Rules.{State, split, split_after}

-- the row that is kept under a number is the row of that number
abbrev Reads : List Row → ℕ → Option Row → Type 0
Reads rows i o = ((i < length rows) × (o ≡ Some (row_at rows i))) ⊎ ((length rows ≤ i) × (o ≡ None))

two-there : (s : State) (place : ℕ) (at : ℤ) (rows : List Row) (low high : ℕ) (values : List ℤ) (l h : Row) → Reads rows low (Some l) → Reads rows high (Some h)
    → split_after s place at rows low high values ≡ split_after s place at (l ∷ h ∷ []) 0 1 values
two-there s place at rows low high values l h (inl p) (inl q) =
    rw (lt-ltb low (length rows) p.0) (rw (lt-ltb high (length rows) q.0)
    (ap (λ (r : Row). split_after s place at (r ∷ row_at rows high ∷ []) 0 1 values) (sym (some_is p.1)) ∙ ap (λ (r : Row). split_after s place at (l ∷ r ∷ []) 0 1 values) (sym (some_is q.1))))
two-there s place at rows low high values l h (inl p) (inr q) = absurd cc
two-there s place at rows low high values l h (inr p) q = absurd cc

no-low : (s : State) (place : ℕ) (at : ℤ) (rows : List Row) (low high : ℕ) (values : List ℤ) → Reads rows low None
    → split_after s place at rows low high values ≡ Err Place
no-low s place at rows low high values (inl p) = absurd cc
no-low s place at rows low high values (inr p) = rw (le-ltb low (length rows) p.0) refl

no-high : (s : State) (place : ℕ) (at : ℤ) (rows : List Row) (low high : ℕ) (values : List ℤ) (l : Row) → Reads rows low (Some l) → Reads rows high None
    → split_after s place at rows low high values ≡ Err Place
no-high s place at rows low high values l (inl p) (inl q) = absurd cc
no-high s place at rows low high values l (inl p) (inr q) = rw (lt-ltb low (length rows) p.0) (rw (le-ltb high (length rows) q.0) refl)
no-high s place at rows low high values l (inr p) q = absurd cc

reads : (rows : List Row) (kept : List (Option Row)) (i : ℕ) (o : Option Row) → kept_at kept i ≡ slice_get rows i → o ≡ kept_at kept i → Reads rows i o
reads rows kept i o k e = found rows o i (e ∙ k) (cases_lt i (length rows))

-- a Split after its place is tested
then-split : (s : State) (place : ℕ) (at : ℤ) (used : List Lit) (steps : List RowStep) (low high : ℕ) (values : List ℤ) (rows : List Row) → place < s.ints
    → line_rows s.atoms used steps ≡ Ok rows → split s place at used steps low high values ≡ split_after s place at rows low high values
then-split s place at used steps low high values rows p e =
    rw (lt-ltb place s.ints p) (ap (λ (o : Result (List Row) Why). then_ o (λ rs. split_after s place at rs low high values)) e)

pub split-there : (s : State) (place : ℕ) (at : ℤ) (used : List Lit) (steps : List RowStep) (low high : ℕ) (values : List ℤ) (kept : List (Option Row)) (l h : Row) → place < s.ints
    → HasKept (line_rows s.atoms used steps) (low ∷ high ∷ []) kept → Some l ≡ kept_at kept low → Some h ≡ kept_at kept high
    → split s place at used steps low high values ≡ split_after s place at (l ∷ h ∷ []) 0 1 values
split-there s place at used steps low high values kept l h p k e f =
    let one : 0 < length (low ∷ high ∷ []) = omega arith in
    let two : 1 < length (low ∷ high ∷ []) = omega arith in
    then-split s place at used steps low high values k.0 p k.1
    ∙ two-there s place at k.0 low high values l h (reads k.0 kept low (Some l) (k.2.there 0 one) e) (reads k.0 kept high (Some h) (k.2.there 1 two) f)

pub split-no-low : (s : State) (place : ℕ) (at : ℤ) (used : List Lit) (steps : List RowStep) (low high : ℕ) (values : List ℤ) (kept : List (Option Row)) → place < s.ints
    → HasKept (line_rows s.atoms used steps) (low ∷ high ∷ []) kept → None ≡ kept_at kept low
    → split s place at used steps low high values ≡ Err Place
split-no-low s place at used steps low high values kept p k e =
    let one : 0 < length (low ∷ high ∷ []) = omega arith in
    then-split s place at used steps low high values k.0 p k.1 ∙ no-low s place at k.0 low high values (reads k.0 kept low None (k.2.there 0 one) e)

pub split-no-high : (s : State) (place : ℕ) (at : ℤ) (used : List Lit) (steps : List RowStep) (low high : ℕ) (values : List ℤ) (kept : List (Option Row)) (l : Row) → place < s.ints
    → HasKept (line_rows s.atoms used steps) (low ∷ high ∷ []) kept → Some l ≡ kept_at kept low → None ≡ kept_at kept high
    → split s place at used steps low high values ≡ Err Place
split-no-high s place at used steps low high values kept l p k e f =
    let one : 0 < length (low ∷ high ∷ []) = omega arith in
    let two : 1 < length (low ∷ high ∷ []) = omega arith in
    then-split s place at used steps low high values k.0 p k.1
    ∙ no-high s place at k.0 low high values l (reads k.0 kept low (Some l) (k.2.there 0 one) e) (reads k.0 kept high None (k.2.there 1 two) f)
