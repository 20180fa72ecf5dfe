use Rattle.std.proofs.Common.{◌≡◌, ℕ, zero, suc, cond, ◌||◌, ◌<◌, length, Bool, true, false, not, List, [], ◌∷◌, ◌++◌, get_or, refl, sym, ◌∙◌, ap, arith}
use Rattle.std.specs.Prelude.{◌==◌}
use Rattle.std.specs.List.{list_all}
use Rattle.std.proofs.lemmas.Bool.{and_parts, and_from, eqb-true, eq-eqb}
use Rattle.lin_rows.specs.Numbers.{is_zero}
use Rattle.lin_rows.specs.declared.term.RowTerm.{RowTerm}
use Rattle.lin_rows.specs.Rows.{Row, is_row, coefficient_at}
use Rattle.lin_rows.proofs.Kept.{rises_of}
use Rattle.proof_lines.specs.Numbers.{stands_in}
use Rattle.line_rows.specs.Steps.{row_at}
use Rattle.theory_api.specs.Ends.{names_none}
use Rattle.elimination.proofs.Names.{all-named}

pub get_or-last : (xs : List ℕ) (x : ℕ) → get_or (xs ++ x ∷ []) (length xs) 0 ≡ x
get_or-last [] x = refl
get_or-last (y ∷ xs) x = get_or-last xs x

-- the element at an index, whatever stands for a missing one
pub indexed : (held found : List Row) (i : ℕ) (r : Row) → found ≡ held → i < length held → r ≡ get_or found i r → r ≡ row_at held i
indexed held found i r e h k = k ∙ ap (λ (l : List Row). get_or l i r) e ∙ any_default held i h
  where
    any_default : (held : List Row) (i : ℕ) → i < length held → get_or held i r ≡ row_at held i
    any_default [] i h = absurd (omega arith)
    any_default (q ∷ held) zero h = refl
    any_default (q ∷ held) (suc i) h = any_default held i (omega arith)

-- no term names one of some places exactly where the coefficients of all of them are 0
free-zero : (places : List ℕ) (p : ℕ) (ts : List RowTerm) → stands_in places p ≡ true → list_all (λ t. not (stands_in places t.place)) ts ≡ true → is_zero (coefficient_at ts p) ≡ true
free-zero places p [] s h = refl
free-zero places p (t ∷ ts) s h =
    let b = and_parts (not (stands_in places t.place)) (list_all (λ u. not (stands_in places u.place)) ts) h in
    by_place (t.place == p) refl b.0 (free-zero places p ts s b.1)
  where
    by_place : (c : Bool) → (t.place == p) ≡ c → not (stands_in places t.place) ≡ true → is_zero (coefficient_at ts p) ≡ true → is_zero (cond c t.coef (coefficient_at ts p)) ≡ true
    by_place true e n k = absurd (let q = ap (λ (x : ℕ). not (stands_in places x)) (eqb-true t.place p e) in let r = ap not s in cc)
    by_place false e n k = k

all-stand : (f : ℕ → Bool) (places : List ℕ) → ((p : ℕ) → stands_in places p ≡ true → f p ≡ true) → list_all f places ≡ true
all-stand f [] h = refl
all-stand f (p ∷ places) h = and_from (f p) (list_all f places) (h p (or_left (p == p) (stands_in places p) (eq-eqb p p refl))) (all-stand f places (λ q s. h q (or_right (p == q) (stands_in places q) s)))
  where
    or_left : (a b : Bool) → a ≡ true → (a || b) ≡ true
    or_left a b e = grind arith

    or_right : (a b : Bool) → b ≡ true → (a || b) ≡ true
    or_right a b e = grind arith

stand-all : (f : ℕ → Bool) (places : List ℕ) (p : ℕ) → list_all f places ≡ true → stands_in places p ≡ true → f p ≡ true
stand-all f [] p h s = absurd cc
stand-all f (q ∷ places) p h s =
    let b = and_parts (f q) (list_all f places) h in
    by_case (q == p) refl s b.0 (stand-all f places p b.1)
  where
    by_case : (c : Bool) → (q == p) ≡ c → (c || stands_in places p) ≡ true → f q ≡ true → (stands_in places p ≡ true → f p ≡ true) → f p ≡ true
    by_case true e s k rest = ap f (sym (eqb-true q p e)) ∙ k
    by_case false e s k rest = rest s

iff-same : (a b : Bool) → (a ≡ true → b ≡ true) → (b ≡ true → a ≡ true) → a ≡ b
iff-same true b f g = sym (f refl)
iff-same false true f g = g refl
iff-same false false f g = refl

not-of : (a b : Bool) → (a ≡ true → b ≡ true) → b ≡ false → not a ≡ true
not-of true b f h = absurd (let e = f refl in cc)
not-of false b f h = refl

pub free-none : (places : List ℕ) (r : Row) → is_row r ≡ true → list_all (λ t. not (stands_in places t.place)) r.terms ≡ names_none places r
free-none places r g =
    iff-same (list_all (λ t. not (stands_in places t.place)) r.terms) (names_none places r)
    (λ h. all-stand (λ p. is_zero (coefficient_at r.terms p)) places (λ p s. free-zero places p r.terms s h))
    (λ h. all-named (λ q. not (stands_in places q)) 0 r.terms (rises_of r g)
    (λ q z. not-of (stands_in places q) (is_zero (coefficient_at r.terms q)) (stand-all (λ p. is_zero (coefficient_at r.terms p)) places q h) z))
