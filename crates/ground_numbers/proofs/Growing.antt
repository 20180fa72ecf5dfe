-- A table that grows: what has a number keeps it, and so do formulas.
use Rattle.std.proofs.Common.{◌≡◌, ℕ, ℤ, Bool, true, false, cond, List, [], ◌∷◌, ◌++◌, length, refl, sym, ◌∙◌, ap, subst, arith}
use Rattle.std.specs.Prelude.{nat_lt}
use Rattle.std.specs.List.{list_any, position_or_len}
use Rattle.std.proofs.lemmas.Bool.{and_from}
use Rattle.std.proofs.lemmas.Bool.Decides.{nat_tests}
use Rattle.lin_rows.specs.declared.term.RowTerm.{RowTerm}
use Rattle.lin_rows.specs.Rows.{Row}
use Rattle.ground_problem.specs.Symbols.{Integer, Part, number, multiple, Symbolic, always, same, has, at_most, negated, both, either}
use Rattle.ground_numbers.specs.Numbered.{literal, negation, conjunction, disjunction, is_below}
use Rattle.ground_numbers.specs.Numbers.{Atom, same_atom, has_atom, row_atom, same_atoms, same_integers, Table, has_number, has_integer, number_of, integer_of, with_atom, with_integer, with_integers, signed, terms_of, added_up, bound_of, row_of, row_literal, numbered, with_row, with_sums, naming, naming_all}
use Rattle.ground_numbers.proofs.Lookups.{position-front, any-front, any-last, position-below}
use Rattle.ground_numbers.proofs.Sameness.{same_atoms-refl, same_integers-refl}

-- ---- a table with more in it

pub record Extends (t o : Table) : Type 0 where
  pub atoms : (a : Atom) → has_number t a ≡ true → (has_number o a ≡ true) × (number_of o a ≡ number_of t a)
  pub ints : (x : Integer) → has_integer t x ≡ true → (has_integer o x ≡ true) × (integer_of o x ≡ integer_of t x)

pub extends-refl : (t : Table) → Extends t t
extends-refl t = record { atoms = λ a h. (h, refl); ints = λ x h. (h, refl) }

pub extends-then : (t o u : Table) → Extends t o → Extends o u → Extends t u
extends-then t o u p q = record {
  atoms = λ a h. (let k = p.atoms a h in let l = q.atoms a k.0 in (l.0, l.1 ∙ k.1));
  ints = λ x h. (let k = p.ints x h in let l = q.ints x k.0 in (l.0, l.1 ∙ k.1));
}

pub with_atom-extends : (t : Table) (b : Atom) → Extends t (with_atom t b)
with_atom-extends t b = record { atoms = by_test (has_number t b); ints = λ x h. (h, refl) }
  where
    by_test : (c : Bool) (a : Atom) → has_number t a ≡ true → (list_any (same_atoms a) (cond c t.atoms (t.atoms ++ b ∷ [])) ≡ true) × (position_or_len (same_atoms a) (cond c t.atoms (t.atoms ++ b ∷ [])) ≡ number_of t a)
    by_test true a h = (h, refl)
    by_test false a h = (any-front (same_atoms a) t.atoms (b ∷ []) h, position-front (same_atoms a) t.atoms (b ∷ []) h)

pub with_integer-extends : (t : Table) (y : Integer) → Extends t (with_integer t y)
with_integer-extends t y = record { atoms = λ a h. (h, refl); ints = by_test (has_integer t y) }
  where
    by_test : (c : Bool) (x : Integer) → has_integer t x ≡ true → (list_any (same_integers x) (cond c t.ints (t.ints ++ y ∷ [])) ≡ true) × (position_or_len (same_integers x) (cond c t.ints (t.ints ++ y ∷ [])) ≡ integer_of t x)
    by_test true x h = (h, refl)
    by_test false x h = (any-front (same_integers x) t.ints (y ∷ []) h, position-front (same_integers x) t.ints (y ∷ []) h)

pub with_integers-extends : (t : Table) (ps : List Part) → Extends t (with_integers t ps)
with_integers-extends t [] = extends-refl t
with_integers-extends t (number n ∷ ps) = with_integers-extends t ps
with_integers-extends t (multiple k x ∷ ps) = extends-then t (with_integer t x) _ (with_integer-extends t x) (with_integers-extends (with_integer t x) ps)

pub with_sums-extends : (t : Table) (x y : List Part) → Extends t (with_sums t x y)
with_sums-extends t x y = extends-then t (with_integers t x) _ (with_integers-extends t x) (with_integers-extends (with_integers t x) y)

pub with_row-extends : (t : Table) (ts : List RowTerm) (r : Row) → Extends t (with_row t ts r)
with_row-extends t [] r = extends-refl t
with_row-extends t (x ∷ xs) r = with_atom-extends t (row_atom r)

pub naming-extends : (t : Table) (f : Symbolic) → Extends t (naming t f)
naming-extends t (always b) = extends-refl t
naming-extends t (same a b) = with_atom-extends t (same_atom a b)
naming-extends t (has k r u) = with_atom-extends t (has_atom k r u)
naming-extends t (at_most x y n) = extends-then t (with_sums t x y) _ (with_sums-extends t x y) (with_row-extends (with_sums t x y) _ _)
naming-extends t (negated f) = naming-extends t f
naming-extends t (both f g) = extends-then t (naming t f) _ (naming-extends t f) (naming-extends (naming t f) g)
naming-extends t (either f g) = extends-then t (naming t f) _ (naming-extends t f) (naming-extends (naming t f) g)

pub naming_all-extends : (t : Table) (fs : List Symbolic) → Extends t (naming_all t fs)
naming_all-extends t [] = extends-refl t
naming_all-extends t (f ∷ fs) = extends-then t (naming t f) _ (naming-extends t f) (naming_all-extends (naming t f) fs)

-- ---- what a table has numbers for

abbrev pub IntegersIn : Table → List Part → Type 0
IntegersIn t [] = Unit {0}
IntegersIn t (number n ∷ ps) = IntegersIn t ps
IntegersIn t (multiple k x ∷ ps) = (has_integer t x ≡ true) × IntegersIn t ps

abbrev pub RowIn : Table → List RowTerm → Row → Type 0
RowIn t [] r = Unit {0}
RowIn t (x ∷ xs) r = has_number t (row_atom r) ≡ true

abbrev pub NamesIn : Table → Symbolic → Type 0
NamesIn t (always b) = Unit {0}
NamesIn t (same a b) = has_number t (same_atom a b) ≡ true
NamesIn t (has k r u) = has_number t (has_atom k r u) ≡ true
NamesIn t (at_most x y n) = IntegersIn t x × IntegersIn t y × RowIn t (row_of t x y n).terms (row_of t x y n)
NamesIn t (negated f) = NamesIn t f
NamesIn t (both f g) = NamesIn t f × NamesIn t g
NamesIn t (either f g) = NamesIn t f × NamesIn t g

abbrev pub AllNamesIn : Table → List Symbolic → Type 0
AllNamesIn t [] = Unit {0}
AllNamesIn t (f ∷ fs) = NamesIn t f × AllNamesIn t fs

-- ---- numbers stay

pub integers-stay : (t o : Table) → Extends t o → (ps : List Part) → IntegersIn t ps → IntegersIn o ps
integers-stay t o e [] h = tt
integers-stay t o e (number n ∷ ps) h = integers-stay t o e ps h
integers-stay t o e (multiple k x ∷ ps) h = ((e.ints x h.0).0, integers-stay t o e ps h.1)

pub terms-stay : (t o : Table) → Extends t o → (s : Bool) (ps : List Part) → IntegersIn t ps → terms_of o s ps ≡ terms_of t s ps
terms-stay t o e s [] h = refl
terms-stay t o e s (number n ∷ ps) h = terms-stay t o e s ps h
terms-stay t o e s (multiple k x ∷ ps) h = (let p = (e.ints x h.0).1 in let q = terms-stay t o e s ps h.1 in λ i. record { place = p i; coef = signed s k } ∷ q i)

pub row-stays : (t o : Table) → Extends t o → (x y : List Part) (n : ℤ) → IntegersIn t x → IntegersIn t y → row_of o x y n ≡ row_of t x y n
row-stays t o e x y n h k = (let p = terms-stay t o e true x h in let q = terms-stay t o e false y k in λ i. record { terms = added_up (p i ++ q i); bound = bound_of x y n })

row_in-stays : (t o : Table) → Extends t o → (ts : List RowTerm) (r : Row) → RowIn t ts r → RowIn o ts r
row_in-stays t o e [] r h = tt
row_in-stays t o e (x ∷ xs) r h = (e.atoms (row_atom r) h).0

pub names-stay : (t o : Table) → Extends t o → (f : Symbolic) → NamesIn t f → NamesIn o f
names-stay t o e (always b) h = tt
names-stay t o e (same a b) h = (e.atoms (same_atom a b) h).0
names-stay t o e (has k r u) h = (e.atoms (has_atom k r u) h).0
names-stay t o e (at_most x y n) h = (integers-stay t o e x h.0, integers-stay t o e y h.1, subst (λ (r : Row). RowIn o r.terms r) (sym (row-stays t o e x y n h.0 h.1)) (row_in-stays t o e _ _ h.2))
names-stay t o e (negated f) h = names-stay t o e f h
names-stay t o e (both f g) h = (names-stay t o e f h.0, names-stay t o e g h.1)
names-stay t o e (either f g) h = (names-stay t o e f h.0, names-stay t o e g h.1)

row_literal-stays : (t o : Table) → Extends t o → (ts : List RowTerm) (r : Row) → RowIn t ts r → row_literal o ts r ≡ row_literal t ts r
row_literal-stays t o e [] r h = refl
row_literal-stays t o e (x ∷ xs) r h = ap (λ (p : ℕ). literal p true) (e.atoms (row_atom r) h).1

pub numbered-stays : (t o : Table) → Extends t o → (f : Symbolic) → NamesIn t f → numbered o f ≡ numbered t f
numbered-stays t o e (always b) h = refl
numbered-stays t o e (same a b) h = ap (λ (p : ℕ). literal p true) (e.atoms (same_atom a b) h).1
numbered-stays t o e (has k r u) h = ap (λ (p : ℕ). literal p true) (e.atoms (has_atom k r u) h).1
numbered-stays t o e (at_most x y n) h = ap (λ (r : Row). row_literal o r.terms r) (row-stays t o e x y n h.0 h.1) ∙ row_literal-stays t o e (row_of t x y n).terms (row_of t x y n) h.2
numbered-stays t o e (negated f) h = ap negation (numbered-stays t o e f h)
numbered-stays t o e (both f g) h = (let p = numbered-stays t o e f h.0 in let q = numbered-stays t o e g h.1 in λ i. conjunction (p i) (q i))
numbered-stays t o e (either f g) h = (let p = numbered-stays t o e f h.0 in let q = numbered-stays t o e g h.1 in λ i. disjunction (p i) (q i))

-- ---- what was numbered is in the table

pub with_atom-has : (t : Table) (a : Atom) → has_number (with_atom t a) a ≡ true
with_atom-has t a = by_test (has_number t a) refl
  where
    by_test : (c : Bool) → has_number t a ≡ c → list_any (same_atoms a) (cond c t.atoms (t.atoms ++ a ∷ [])) ≡ true
    by_test true e = e
    by_test false e = any-last (same_atoms a) t.atoms a (same_atoms-refl a)

pub with_integer-has : (t : Table) (x : Integer) → has_integer (with_integer t x) x ≡ true
with_integer-has t x = by_test (has_integer t x) refl
  where
    by_test : (c : Bool) → has_integer t x ≡ c → list_any (same_integers x) (cond c t.ints (t.ints ++ x ∷ [])) ≡ true
    by_test true e = e
    by_test false e = any-last (same_integers x) t.ints x (same_integers-refl x)

pub with_integers-has : (t : Table) (ps : List Part) → IntegersIn (with_integers t ps) ps
with_integers-has t [] = tt
with_integers-has t (number n ∷ ps) = with_integers-has t ps
with_integers-has t (multiple k x ∷ ps) = (((with_integers-extends (with_integer t x) ps).ints x (with_integer-has t x)).0, with_integers-has (with_integer t x) ps)

pub with_sums-has : (t : Table) (x y : List Part) → IntegersIn (with_sums t x y) x × IntegersIn (with_sums t x y) y
with_sums-has t x y = (integers-stay (with_integers t x) (with_sums t x y) (with_integers-extends (with_integers t x) y) x (with_integers-has t x), with_integers-has (with_integers t x) y)

with_row-has : (t : Table) (ts : List RowTerm) (r : Row) → RowIn (with_row t ts r) ts r
with_row-has t [] r = tt
with_row-has t (x ∷ xs) r = with_atom-has t (row_atom r)

pub naming-has : (t : Table) (f : Symbolic) → NamesIn (naming t f) f
naming-has t (always b) = tt
naming-has t (same a b) = with_atom-has t (same_atom a b)
naming-has t (has k r u) = with_atom-has t (has_atom k r u)
naming-has t (at_most x y n) =
    let o = with_sums t x y in
    let r = row_of o x y n in
    let e = with_row-extends o r.terms r in
    let h = with_sums-has t x y in
    (integers-stay o _ e x h.0, integers-stay o _ e y h.1, subst (λ (q : Row). RowIn (with_row o r.terms r) q.terms q) (sym (row-stays o _ e x y n h.0 h.1)) (with_row-has o r.terms r))
naming-has t (negated f) = naming-has t f
naming-has t (both f g) = (names-stay (naming t f) _ (naming-extends (naming t f) g) f (naming-has t f), naming-has (naming t f) g)
naming-has t (either f g) = (names-stay (naming t f) _ (naming-extends (naming t f) g) f (naming-has t f), naming-has (naming t f) g)

pub naming_all-has : (t : Table) (fs : List Symbolic) → AllNamesIn (naming_all t fs) fs
naming_all-has t [] = tt
naming_all-has t (f ∷ fs) = (names-stay (naming t f) _ (naming_all-extends (naming t f) fs) f (naming-has t f), naming_all-has (naming t f) fs)

-- ---- the atoms of a formula are below their number

number-below : (t : Table) (a : Atom) → has_number t a ≡ true → nat_lt (number_of t a) (length t.atoms) ≡ true
number-below t a h = (let q = position-below (same_atoms a) t.atoms h in grind (arith, nat_tests))

pub numbered-below : (t : Table) (f : Symbolic) → NamesIn t f → is_below (length t.atoms) (numbered t f) ≡ true
numbered-below t (always b) h = refl
numbered-below t (same a b) h = number-below t (same_atom a b) h
numbered-below t (has k r u) h = number-below t (has_atom k r u) h
numbered-below t (at_most x y n) h = by_terms (row_of t x y n).terms (row_of t x y n) h.2
  where
    by_terms : (ts : List RowTerm) (r : Row) → RowIn t ts r → is_below (length t.atoms) (row_literal t ts r) ≡ true
    by_terms [] r h = refl
    by_terms (x ∷ xs) r h = number-below t (row_atom r) h
numbered-below t (negated f) h = numbered-below t f h
numbered-below t (both f g) h = and_from (is_below _ (numbered t f)) (is_below _ (numbered t g)) (numbered-below t f h.0) (numbered-below t g h.1)
numbered-below t (either f g) h = and_from (is_below _ (numbered t f)) (is_below _ (numbered t g)) (numbered-below t f h.0) (numbered-below t g h.1)
