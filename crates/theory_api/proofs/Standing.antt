use Rattle.std.proofs.Common.{◌≡◌, ℕ, zero, suc, ◌<◌, Bool, true, false, cond, List, [], ◌∷◌, length, map, get_or, refl, arith, Option, Some, None, Err, is_some, nat_lt}
use Rattle.std.specs.List.{list_all}
use Rattle.std.specs.Option.{option_map, option_and_then}
use Rattle.lin_rows.specs.Rows.{Row, negated}
use Rattle.lin_rows.specs.Divisors.{tightened}
use Rattle.proof_lines.specs.declared.clause.Lit.{Lit}
use Rattle.proof_lines.specs.declared.problem.AtomKind.{AtomKind}
use Rattle.proof_lines.specs.declared.line.RowStep.{RowStep}
use Rattle.proof_lines.specs.declared.line.Why.TheVariants.{Place, Range}
use Rattle.line_rows.specs.Refusals.{then_, or_broken}
use Rattle.line_rows.specs.Steps.{atom_row, has_row, lit_row, lit_rows, with_row, is_some_literal, with_steps, line_rows, held_rows, row_at}
use Rattle.std.proofs.lemmas.Bool.{and_parts, and_from, ltb-true}
use Rattle.theory_api.specs.Laws.{rows_at}

-- rows that stand for literals, one for each
abbrev pub Stand : List AtomKind → List Lit → List Row → Type 0
Stand atoms [] [] = Unit {0}
Stand atoms [] (r ∷ rows) = ⊥
Stand atoms (l ∷ lits) [] = ⊥
Stand atoms (l ∷ lits) (r ∷ rows) = (lit_row atoms l ≡ Some r) × Stand atoms lits rows

lit_has : (atoms : List AtomKind) (l : Lit) (r : Row) → lit_row atoms l ≡ Some r → has_row atoms l ≡ true
lit_has atoms l r h = by_case l.positive (atom_row atoms l.atom) h
  where
    by_case : (p : Bool) (o : Option Row) → cond p o (option_and_then negated o) ≡ Some r → is_some o ≡ true
    by_case p (Some q) h = refl
    by_case true None h = absurd cc
    by_case false None h = absurd cc

pub stand-have : (atoms : List AtomKind) (lits : List Lit) (rows : List Row) → Stand atoms lits rows → list_all (has_row atoms) lits ≡ true
stand-have atoms [] rows s = refl
stand-have atoms (l ∷ lits) [] s = absurd s
stand-have atoms (l ∷ lits) (r ∷ rows) s = and_from (has_row atoms l) (list_all (has_row atoms) lits) (lit_has atoms l r s.0) (stand-have atoms lits rows s.1)

pub stand-rows : (atoms : List AtomKind) (lits : List Lit) (rows : List Row) → Stand atoms lits rows → lit_rows atoms lits ≡ Some (map tightened rows)
stand-rows atoms [] [] s = refl
stand-rows atoms [] (r ∷ rows) s = absurd s
stand-rows atoms (l ∷ lits) [] s = absurd s
stand-rows atoms (l ∷ lits) (r ∷ rows) s = λ i. with_row (option_map tightened (s.0 i)) (stand-rows atoms lits rows s.1 i)

-- the rows of a line over such literals are those of its steps over the rows
pub stand-line : (atoms : List AtomKind) (lits : List Lit) (rows : List Row) (steps : List RowStep) → Stand atoms lits rows → is_some_literal lits ≡ true
    → line_rows atoms lits steps ≡ held_rows rows steps
stand-line atoms lits rows steps s h =
    λ i. then_ (cond (is_some_and (and_from (is_some_literal lits) (list_all (has_row atoms) lits) h (stand-have atoms lits rows s)) i) (or_broken Range (stand-rows atoms lits rows s i)) (Err Place)) (λ first. with_steps first steps)
  where
    is_some_and : {b : Bool} → b ≡ true → b ≡ true
    is_some_and e = e

-- the literals with some numbers
abbrev pub lit_at : List Lit → ℕ → Lit
lit_at lits u = get_or lits u (record { atom = 0; positive = true })

stand-at : (atoms : List AtomKind) (lits : List Lit) (rows : List Row) (u : ℕ) → Stand atoms lits rows → u < length rows → lit_row atoms (lit_at lits u) ≡ Some (row_at rows u)
stand-at atoms [] [] u s l = absurd (omega arith)
stand-at atoms [] (r ∷ rows) u s l = absurd s
stand-at atoms (k ∷ lits) [] u s l = absurd s
stand-at atoms (k ∷ lits) (r ∷ rows) zero s l = s.0
stand-at atoms (k ∷ lits) (r ∷ rows) (suc u) s l = stand-at atoms lits rows u s.1 (omega arith)

-- rows picked by numbers stand for the literals picked by them
pub stand-used : (atoms : List AtomKind) (lits : List Lit) (rows : List Row) (used : List ℕ) → Stand atoms lits rows → list_all (λ u. nat_lt u (length rows)) used ≡ true
    → Stand atoms (map (lit_at lits) used) (rows_at rows used)
stand-used atoms lits rows [] s h = tt
stand-used atoms lits rows (u ∷ used) s h =
    let b = and_parts (nat_lt u (length rows)) (list_all (λ u. nat_lt u (length rows)) used) h in
    (stand-at atoms lits rows u s (ltb-true u (length rows) b.0), stand-used atoms lits rows used s b.1)
