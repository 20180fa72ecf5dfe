-- Rows that are kept without a copy: those that tightening leaves as they are.
use Rattle.std.proofs.Common.{◌≡◌, ℕ, true, List, [], ◌∷◌, sym, ap, subst, ◌∙◌, refl, Option, Some, Ok, unsigned_abs, cond, Bool}
use Rattle.std.specs.Option.{option_map, option_and_then}
use Rattle.std.proofs.lemmas.Bool.{eqb-true}
use Rattle.std.proofs.Math.Nat.{one-dvd}
use Prim.Native.Nat.{◌∣◌}
use Rattle.lin_rows.specs.declared.term.RowTerm.{RowTerm}
use Rattle.lin_rows.specs.Rows.{Row, negated}
use Rattle.lin_rows.specs.Divisors.{divisor_of, tightened}
use Rattle.lin_rows.proofs.Divisor.{divisor_of-is}
use Rattle.lin_rows.proofs.Ones.{common_from-one, tightened-one}
use Rattle.proof_lines.specs.declared.clause.Lit.{Lit}
use Rattle.proof_lines.specs.declared.problem.AtomKind.{AtomKind}
use Rattle.proof_lines.specs.declared.line.Why.TheVariants.{Range}
use Rattle.line_rows.specs.Refusals.{or_broken}
use Rattle.line_rows.specs.Steps.{atom_row, lit_row}
use Rattle.line_rows.specs.Kept.{is_first_unit}

-- a first coefficient of size one has no divisor in common with others but one
tightened-unit : (r : Row) (t : RowTerm) (ts : List RowTerm) → r.terms ≡ (t ∷ ts) → unsigned_abs t.coef ≡ 1 → tightened r ≡ r
tightened-unit r t ts is one =
    let d : 1 ≡ divisor_of (t ∷ ts) = divisor_of-is (t ∷ ts) 1 (1, (one-dvd 0, one-dvd (unsigned_abs t.coef), λ d h k. subst (λ (n : ℕ). d ∣ n) one k), common_from-one ts) in
    tightened-one r (ap divisor_of is ∙ sym d)

pub first_unit-tight : (r : Row) → is_first_unit r.terms ≡ true → tightened r ≡ r
first_unit-tight r h = by_terms r.terms refl h
  where
    by_terms : (ts : List RowTerm) → r.terms ≡ ts → is_first_unit ts ≡ true → tightened r ≡ r
    by_terms [] e h = absurd cc
    by_terms (t ∷ ts) e h = tightened-unit r t ts e (eqb-true (unsigned_abs t.coef) 1 h)

-- the row of a literal that is the atom's own
pub lent-is : (atoms : List AtomKind) (l : Lit) (r : Row) → l.positive ≡ true → Some r ≡ atom_row atoms l.atom → tightened r ≡ r
    → or_broken Range (option_map tightened (lit_row atoms l)) ≡ Ok r
lent-is atoms l r p a t =
    ap (λ (b : Bool). or_broken Range (option_map tightened (cond b (atom_row atoms l.atom) (option_and_then negated (atom_row atoms l.atom))))) p
    ∙ ap (λ (o : Option Row). or_broken Range (option_map tightened o)) (sym a)
    ∙ ap (λ (q : Row). Ok q) t
