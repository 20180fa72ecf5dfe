use Rattle.std.proofs.Common.{◌≡◌, ℕ, zero, suc, ◌<◌, ℤ, Bool, true, false, List, [], ◌∷◌, length, map, refl, sym, ◌∙◌, ap, arith, Some, Result, Ok, Err, nat_lt, slice_get}
use Rattle.std.specs.List.{list_all}
use Rattle.lin_rows.specs.Rows.{Row, is_row}
use Rattle.proof_lines.specs.declared.clause.Lit.{Lit}
use Rattle.proof_lines.specs.declared.problem.AtomKind.{AtomKind}
use Rattle.proof_lines.specs.declared.problem.AtomKind.TheVariants.{Row as OfRow}
use Rattle.proof_lines.specs.declared.line.RowStep.{RowStep}
use Rattle.proof_lines.specs.declared.line.Why.{Why}
use Rattle.proof_lines.specs.Problems.{Meaning, has_good_row, row_true, atom_true, kind_true}
use Rattle.proof_lines.specs.Clauses.{lit_true, same_bool}
use Rattle.line_rows.specs.Steps.{is_some_literal, row_of_kind, held_rows, refutes_so, row_at}
use Rattle.std.proofs.lemmas.Bool.{and_parts, and_from, ltb-true}
use Rattle.line_rows.proofs.Sound.{refuted-apart}
use Rattle.theory_api.specs.Laws.{IsConflict, AreUnsatisfiable, all_satisfied, is_some_row, rows_at}
use Rattle.theory_api.proofs.Standing.{Stand, stand-line}

-- rows as atoms, and the used ones as literals

abbrev atoms_of : List Row → List AtomKind
atoms_of rows = map (λ r. OfRow r) rows

abbrev lits_of : List ℕ → List Lit
lits_of used = map (λ u. record { atom = u; positive = true }) used

atom_at : (rows : List Row) (u : ℕ) → u < length rows → slice_get (atoms_of rows) u ≡ Some (OfRow (row_at rows u))
atom_at [] u l = absurd (omega arith)
atom_at (r ∷ rows) zero l = refl
atom_at (r ∷ rows) (suc u) l = atom_at rows u (omega arith)

atoms_good : (rows : List Row) → list_all is_row rows ≡ true → list_all has_good_row (atoms_of rows) ≡ true
atoms_good [] h = refl
atoms_good (r ∷ rows) h =
    let b = and_parts (is_row r) (list_all is_row rows) h in
    and_from (is_row r) (list_all has_good_row (atoms_of rows)) b.0 (atoms_good rows b.1)

stands : (rows : List Row) (used : List ℕ) → list_all (λ u. nat_lt u (length rows)) used ≡ true → Stand (atoms_of rows) (lits_of used) (rows_at rows used)
stands rows [] h = tt
stands rows (u ∷ used) h =
    let b = and_parts (nat_lt u (length rows)) (list_all (λ u. nat_lt u (length rows)) used) h in
    (ap row_of_kind (atom_at rows u (ltb-true u (length rows) b.0)), stands rows used b.1)

abbrev meaning : (ℕ → ℤ) → Meaning
meaning x = record { truth = λ _. false; number = x }

row_at-satisfied : (x : ℕ → ℤ) (rows : List Row) (u : ℕ) → u < length rows → all_satisfied x rows ≡ true → row_true x (row_at rows u) ≡ true
row_at-satisfied x [] u l h = absurd (omega arith)
row_at-satisfied x (r ∷ rows) zero l h = (and_parts (row_true x r) (all_satisfied x rows) h).0
row_at-satisfied x (r ∷ rows) (suc u) l h = row_at-satisfied x rows u (omega arith) (and_parts (row_true x r) (all_satisfied x rows) h).1

same_true : (b : Bool) → b ≡ true → same_bool b true ≡ true
same_true true h = refl
same_true false h = absurd cc

lits-true : (x : ℕ → ℤ) (rows : List Row) (used : List ℕ) → list_all (λ u. nat_lt u (length rows)) used ≡ true → all_satisfied x rows ≡ true
    → list_all (lit_true (atom_true (meaning x) (atoms_of rows))) (lits_of used) ≡ true
lits-true x rows [] h s = refl
lits-true x rows (u ∷ used) h s =
    let b = and_parts (nat_lt u (length rows)) (list_all (λ u. nat_lt u (length rows)) used) h in
    let l = ltb-true u (length rows) b.0 in
    and_from (same_bool (atom_true (meaning x) (atoms_of rows) u) true) (list_all (lit_true (atom_true (meaning x) (atoms_of rows))) (lits_of used))
    (same_true (atom_true (meaning x) (atoms_of rows) u) (ap (kind_true (meaning x) u) (atom_at rows u l) ∙ row_at-satisfied x rows u l s))
    (lits-true x rows used b.1 s)

some_lits : (used : List ℕ) → is_some_row used ≡ true → is_some_literal (lits_of used) ≡ true
some_lits [] h = absurd cc
some_lits (u ∷ used) h = refl

-- rows in conflict have no point
pub conflict-unsatisfiable : (rows : List Row) (used : List ℕ) (steps : List RowStep) → list_all is_row rows ≡ true → IsConflict rows used steps → AreUnsatisfiable rows
conflict-unsatisfiable rows used steps g c x s = by_case (held_rows (rows_at rows used) steps) refl
  where
    given : (is_some_row used ≡ true) × (list_all (λ u. nat_lt u (length rows)) used ≡ true)
    given = and_parts (is_some_row used) (list_all (λ u. nat_lt u (length rows)) used) c.given

    by_case : (o : Result (List Row) Why) → held_rows (rows_at rows used) steps ≡ o → ⊥
    by_case (Ok all) e =
        refuted-apart (meaning x) (atoms_of rows) (lits_of used) steps all (atoms_good rows g)
        (stand-line (atoms_of rows) (lits_of used) (rows_at rows used) steps (stands rows used given.1) (some_lits used given.0) ∙ e)
        (sym (ap refutes_so e) ∙ c.refuted) (lits-true x rows used given.1 s)
    by_case (Err w) e = absurd (let q = sym (ap refutes_so e) ∙ c.refuted in cc)
