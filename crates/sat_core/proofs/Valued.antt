use Rattle.std.proofs.Common.{◌≡◌, ℕ, zero, suc, ℤ, pos, Bool, true, false, not, cond, ◌&&◌, ◌||◌, ◌==◌, List, [], ◌∷◌, map, refl, sym, ◌∙◌, ap, subst, arith, Option, Some, inl, inr, slice_get}
use Rattle.std.proofs.lemmas.Int.{ints}
use Rattle.std.specs.List.{list_any, list_all}
use Rattle.std.specs.Option.{option_and_then}
use Rattle.std.specs.Ordering.{int_eq}
use Rattle.std.proofs.lemmas.Bool.Decides.{Decides-int_eq, Decides-eqb}
use Rattle.lin_rows.specs.declared.term.RowTerm.{RowTerm}
use Rattle.lin_rows.specs.Rows.{Row, Satisfies, negated as opposite}
use Rattle.lin_rows.proofs.Points.{satisfies-negated}
use Rattle.proof_lines.specs.declared.clause.Lit.{Lit}
use Rattle.proof_lines.specs.declared.problem.AtomKind.{AtomKind}
use Rattle.proof_lines.specs.declared.problem.AtomKind.TheVariants.{Plain, Row as OfRow}
use Rattle.proof_lines.specs.Clauses.{lit_of}
use Rattle.proof_lines.specs.Problems.{row_true}
use Rattle.line_rows.specs.Steps.{row_of_kind, atom_row, lit_row}
use Rattle.line_rows.specs.Splits.{at_most, is_alone, is_at_most}
use Rattle.line_rows.specs.Evidence.{same_row}
use Rattle.std.proofs.lemmas.Bool.{and_parts, or_cases, or_left, or_right, eqb-true, not-true}
use Rattle.line_rows.proofs.Certificates.{same_row-refl}
use Rattle.theory_api.specs.Laws.{all_satisfied, settles, is_that}
use Rattle.theory_api.proofs.Standing.{Stand}
use Rattle.sat_core.specs.declared.trail.Entry.{Entry}
use Rattle.sat_core.specs.Trails.{in_trail, IsTrail}
use Rattle.sat_core.proofs.Trails.{one-way}

-- What the rows of a trail's literals say of its atoms.

-- rows that stand for literals, as lists
pub stand-of : (atoms : List AtomKind) (lits : List Lit) (rows : List Row) → map (lit_row atoms) lits ≡ map (λ r. Some r) rows → Stand atoms lits rows
stand-of atoms [] [] h = tt
stand-of atoms [] (r ∷ rows) h = absurd cc
stand-of atoms (l ∷ lits) [] h = absurd cc
stand-of atoms (l ∷ lits) (r ∷ rows) h = (cc, stand-of atoms lits rows (cc))

-- one of some literals, with its row, is over an atom with a row: the row is the atom's, or its negation
pub record Sided (pl : Lit → Bool) (pr : Row → Bool) (a : ℕ) (r q : Row) (p : Bool) : Type 0 where
  pub lit : pl (lit_of a p) ≡ true
  pub row : pr q ≡ true
  pub is : cond p (Some r) (opposite r) ≡ Some q

pub sided : (pl : Lit → Bool) (pr : Row → Bool) (atoms : List AtomKind) (lits : List Lit) (rows : List Row) (a : ℕ) (r : Row) → Stand atoms lits rows → list_all pl lits ≡ true → list_all pr rows ≡ true
    → atom_row atoms a ≡ Some r → list_any (λ l. l.atom == a) lits ≡ true → (q : Row) × (p : Bool) × Sided pl pr a r q p
sided pl pr atoms [] rows a r s i v h c = absurd cc
sided pl pr atoms (l ∷ lits) [] a r s i v h c = absurd s
sided pl pr atoms (l ∷ lits) (q ∷ rows) a r s i v h c =
    let m = and_parts (pl l) (list_all pl lits) i in
    let w = and_parts (pr q) (list_all pr rows) v in
    elim (or_cases (l.atom == a) (list_any (λ k. k.atom == a) lits) c) [
      | inl e ↦ (let d = eqb-true l.atom a e in
          let o : atom_row atoms l.atom ≡ Some r = ap (atom_row atoms) d ∙ h in (
            q,
            l.positive,
            record {
              lit = subst (λ (z : ℕ). pl (lit_of z l.positive) ≡ true) d m.0;
              row = w.0;
              is = sym (λ j. cond l.positive (o j) (option_and_then opposite (o j))) ∙ s.0;
            },
          ))
      | inr e ↦ sided pl pr atoms lits rows a r s.1 m.1 w.1 h e
    ]

meets : (x : ℕ → ℤ) (r : Row) → row_true x r ≡ true → Satisfies x r
meets x r h = omega (arith, ints, h)

misses : (x : ℕ → ℤ) (r : Row) → (Satisfies x r → ⊥) → row_true x r ≡ false
misses x r f = by_case (row_true x r) refl
  where
    by_case : (b : Bool) → row_true x r ≡ b → b ≡ false
    by_case true e = absurd (f (meets x r e))
    by_case false e = refl

-- where a point satisfies the rows of a trail's literals, an atom's row is true exactly where the trail has its literal
pub valued : (x : ℕ → ℤ) (cs : List (List Lit)) (t : List Entry) (atoms : List AtomKind) (lits : List Lit) (rows : List Row) (a : ℕ) (r : Row) → IsTrail cs t → Stand atoms lits rows → list_all (in_trail t) lits ≡ true
    → all_satisfied x rows ≡ true → atom_row atoms a ≡ Some r → list_any (λ l. l.atom == a) lits ≡ true → row_true x r ≡ in_trail t (lit_of a true)
valued x cs t atoms lits rows a r w s i v h c = let f = sided (in_trail t) (row_true x) atoms lits rows a r s i v h c in by_sign f.0 f.1 f.2
  where
    by_sign : (q : Row) (p : Bool) → Sided (in_trail t) (row_true x) a r q p → row_true x r ≡ in_trail t (lit_of a true)
    by_sign q true d = (let e : r ≡ q = (let k = d.is in cc) in ap (row_true x) e) ∙ d.row ∙ sym d.lit
    by_sign q false d = misses x r ((satisfies-negated x r q d.is).0 (meets x q d.row)) ∙ sym (one-way cs t (lit_of a false) w d.lit)

-- the row that a Split asks for is no atom's, where the rows of all atoms are given and none settles it
at_most-is : (place : ℕ) (at : ℤ) (r : Row) → (is_alone place r.terms && int_eq r.bound at) ≡ true → r ≡ at_most place at
at_most-is place at r h = let p = and_parts (is_alone place r.terms) (int_eq r.bound at) h in λ i. record { terms = alone r.terms p.0 i; bound = (Decides-int_eq r.bound at).0 p.1 i }
  where
    alone : (ts : List RowTerm) → is_alone place ts ≡ true → ts ≡ (at_most place at).terms
    alone [] k = absurd cc
    alone (t ∷ []) k = let b = and_parts (t.place == place) _ k in λ i. record { place = (Decides-eqb t.place place).0 b.0 i; coef = (Decides-int_eq t.coef (at_most-coef)).0 b.1 i } ∷ []
      where
        at_most-coef : ℤ
        at_most-coef = pos 1
    alone (t ∷ u ∷ ts) k = absurd cc

assigned_at : (place : ℕ) (at : ℤ) (atoms : List AtomKind) → list_any (is_at_most place at) atoms ≡ true → (a : ℕ) × (r : Row) × (slice_get atoms a ≡ Some (OfRow r)) × (r ≡ at_most place at)
assigned_at place at [] h = absurd cc
assigned_at place at (Plain ∷ atoms) h = let n = assigned_at place at atoms h in (suc n.0, n.1, n.2, n.3)
assigned_at place at (OfRow r ∷ atoms) h = elim (or_cases (is_alone place r.terms && int_eq r.bound at) (list_any (is_at_most place at) atoms) h) [
  | inl e ↦ (zero, r, refl, at_most-is place at r e)
  | inr e ↦ (let n = assigned_at place at atoms e in (suc n.0, n.1, n.2, n.3))
]

none_settles : (place : ℕ) (at : ℤ) (rows : List Row) → list_any (settles place at) rows ≡ false → list_all (λ r. not (settles place at r)) rows ≡ true
none_settles place at [] h = refl
none_settles place at (r ∷ rows) h = by_case (settles place at r) (none_settles place at rows) h
  where
    by_case : (b : Bool) → (list_any (settles place at) rows ≡ false → list_all (λ r. not (settles place at r)) rows ≡ true) → (b || list_any (settles place at) rows) ≡ false → (not b && list_all (λ r. not (settles place at r)) rows) ≡ true
    by_case true f h = absurd cc
    by_case false f h = f h

pub no_atom : (atoms : List AtomKind) (lits : List Lit) (rows : List Row) (place : ℕ) (at : ℤ) → Stand atoms lits rows → ((a : ℕ) (r : Row) → slice_get atoms a ≡ Some (OfRow r) → list_any (λ l. l.atom == a) lits ≡ true)
    → list_any (settles place at) rows ≡ false → list_any (is_at_most place at) atoms ≡ false
no_atom atoms lits rows place at s c n = by_case (list_any (is_at_most place at) atoms) refl
  where
    all_yes : (lits : List Lit) → list_all (λ (l : Lit). true) lits ≡ true
    all_yes [] = refl
    all_yes (l ∷ lits) = all_yes lits

    by_sign : (q : Row) (p : Bool) → (settles place at q ≡ false) → cond p (Some (at_most place at)) (opposite (at_most place at)) ≡ Some q → ⊥
    by_sign q true e h = absurd (
        let m : at_most place at ≡ q = cc in
        let k : same_row q (at_most place at) ≡ true = subst (λ (z : Row). same_row z (at_most place at) ≡ true) m (same_row-refl (at_most place at)) in
        let o = or_left (same_row q (at_most place at)) (is_that (opposite (at_most place at)) q) k in cc)
    by_sign q false e h = absurd (
        let k : is_that (opposite (at_most place at)) q ≡ true = ap (λ (z : Option Row). is_that z q) h ∙ same_row-refl q in
        let o = or_right (same_row q (at_most place at)) (is_that (opposite (at_most place at)) q) k in cc)

    by_case : (b : Bool) → list_any (is_at_most place at) atoms ≡ b → b ≡ false
    by_case false e = refl
    by_case true e = absurd (
        let m = assigned_at place at atoms e in
        let f = sided (λ l. true) (λ r. not (settles place at r)) atoms lits rows m.0 m.1 s (all_yes lits) (none_settles place at rows n) (ap row_of_kind m.2) (c m.0 m.1 m.2) in
        by_sign f.0 f.1 (not-true (settles place at f.0) f.2.row) (subst (λ (z : Row). cond f.1 (Some z) (opposite z) ≡ Some f.0) m.3 f.2.is))
