-- No coefficient and no bound of an obligation's rows is large.
use Rattle.std.proofs.Common.{◌≡◌, ℕ, ◌+◌, ◌≤◌, ℤ, Bool, true, false, cond, List, [], ◌∷◌, ◌++◌, refl, ◌∙◌, ap, arith}
use Rattle.std.specs.Prelude.{◌+ℤ◌, ◌-ℤ◌, neg_ℤ, nat_le, unsigned_abs}
use Rattle.std.specs.List.{list_all}
use Rattle.std.proofs.lemmas.Bool.{and_parts, and_from}
use Rattle.std.proofs.lemmas.Bool.Decides.{nat_tests}
use Rattle.std.proofs.lemmas.Int.{ints}
use Rattle.std.proofs.lemmas.List.Folds.{list_all-append}
use Rattle.spec_core.specs.Specification.{Specification}
use Rattle.spec_core.specs.Typed.{is_specification}
use Rattle.obligation_list.specs.declared.obligation.Obligation.{Obligation}
use Rattle.lin_rows.specs.declared.term.RowTerm.{RowTerm}
use Rattle.lin_rows.specs.Rows.{Row}
use Rattle.ground_problem.specs.Symbols.{Part, number, multiple, Symbolic, always, same, has, at_most, negated, both, either}
use Rattle.ground_problem.specs.Problem.{formulas_of}
use Rattle.ground_numbers.specs.Numbers.{Atom, same_atom, has_atom, row_atom, Table, has_number, with_atom, with_integer, with_integers, signed, terms_of, plain_of, added_up, bound_of, row_of, with_row, with_sums, naming, naming_all}
use Rattle.ground_numbers.specs.Sizes.{size_of_terms, greatest_number, is_small, is_small_row, is_small_atom, rows_small}
use Rattle.ground_numbers.specs.Problem.{arguments_of, table_of}
use Rattle.ground_numbers.proofs.Summed.{added_up-size}
use Rattle.ground_numbers.proofs.Moderate.{sum_size, is_moderate, all_moderate}
use Rattle.ground_numbers.proofs.Groups.{formulas-moderate}

signed-size : (s : Bool) (k : ℤ) → unsigned_abs (signed s k) ≡ unsigned_abs k
signed-size true k = refl
signed-size false k = by_sign k
  where
    by_sign : (k : ℤ) → unsigned_abs (neg_ℤ k) ≡ unsigned_abs k
    by_sign k = grind (arith, ints)

terms-size : (o : Table) (s : Bool) (ps : List Part) → size_of_terms (terms_of o s ps) ≤ sum_size ps
terms-size o s [] = omega arith
terms-size o s (number n ∷ ps) = more (size_of_terms (terms_of o s ps)) (sum_size ps) (unsigned_abs n) (terms-size o s ps)
  where
    more : (a b c : ℕ) → a ≤ b → a ≤ c + b
    more a b c h = omega arith
terms-size o s (multiple k x ∷ ps) = both_more (unsigned_abs (signed s k)) (unsigned_abs k) (size_of_terms (terms_of o s ps)) (sum_size ps) (signed-size s k) (terms-size o s ps)
  where
    both_more : (a b c d : ℕ) → a ≡ b → c ≤ d → a + c ≤ b + d
    both_more a b c d e h = omega arith

plus-size : (a b : ℤ) (m : ℕ) → unsigned_abs b ≤ m → unsigned_abs (a +ℤ b) ≤ unsigned_abs a + m
plus-size a b m h = grind (arith, ints)

plain-size : (ps : List Part) → unsigned_abs (plain_of ps) ≤ sum_size ps
plain-size [] = omega arith
plain-size (number n ∷ ps) = plus-size n (plain_of ps) (sum_size ps) (plain-size ps)
plain-size (multiple k x ∷ ps) = more (unsigned_abs (plain_of ps)) (sum_size ps) (unsigned_abs k) (plain-size ps)
  where
    more : (a b c : ℕ) → a ≤ b → a ≤ c + b
    more a b c h = omega arith

append-size : (ts us : List RowTerm) → size_of_terms (ts ++ us) ≡ size_of_terms ts + size_of_terms us
append-size [] us = (let e : size_of_terms us ≡ 0 + size_of_terms us = omega arith in e)
append-size (t ∷ ts) us = ap (λ n. unsigned_abs t.coef + n) (append-size ts us) ∙ grouped (unsigned_abs t.coef) (size_of_terms ts) (size_of_terms us)
  where
    grouped : (a b c : ℕ) → a + (b + c) ≡ a + b + c
    grouped a b c = omega arith

within : (a b : ℕ) → a ≤ b → nat_le a b ≡ true
within a b h = grind (arith, nat_tests)

le_of : (a b : ℕ) → nat_le a b ≡ true → a ≤ b
le_of a b h = grind (arith, nat_tests)

coefs-small : (ts : List RowTerm) → size_of_terms ts ≤ greatest_number → list_all (λ t. is_small t.coef) ts ≡ true
coefs-small [] h = refl
coefs-small (t ∷ ts) h = and_from (is_small t.coef) _ (within (unsigned_abs t.coef) greatest_number (first (unsigned_abs t.coef) (size_of_terms ts) h)) (coefs-small ts (rest (unsigned_abs t.coef) (size_of_terms ts) h))
  where
    first : (a b : ℕ) → a + b ≤ greatest_number → a ≤ greatest_number
    first a b h = omega arith

    rest : (a b : ℕ) → a + b ≤ greatest_number → b ≤ greatest_number
    rest a b h = omega arith

bound-size : (t u : List Part) (n : ℤ) → unsigned_abs (bound_of t u n) ≤ sum_size t + (sum_size u + unsigned_abs n)
bound-size t u n = three n (plain_of u) (plain_of t) (sum_size u) (sum_size t) (plain-size u) (plain-size t)
  where
    three : (n a b : ℤ) (x y : ℕ) → unsigned_abs a ≤ x → unsigned_abs b ≤ y → unsigned_abs ((n +ℤ a) -ℤ b) ≤ y + (x + unsigned_abs n)
    three n a b x y h k = grind (arith, ints)

pub row_of-small : (o : Table) (t u : List Part) (n : ℤ) → is_moderate (at_most t u n) ≡ true → is_small_row (row_of o t u n) ≡ true
row_of-small o t u n h =
    let ts = terms_of o true t ++ terms_of o false u in
    let m = le_of (sum_size t + (sum_size u + unsigned_abs n)) greatest_number h in
    and_from (list_all (λ x. is_small x.coef) (added_up ts)) _
    (coefs-small (added_up ts) (joined (size_of_terms (added_up ts)) (size_of_terms ts) (size_of_terms (terms_of o true t)) (size_of_terms (terms_of o false u)) (sum_size t) (sum_size u) (unsigned_abs n) (added_up-size ts) (append-size (terms_of o true t) (terms_of o false u)) (terms-size o true t) (terms-size o false u) m))
    (within (unsigned_abs (bound_of t u n)) greatest_number (under (unsigned_abs (bound_of t u n)) _ (bound-size t u n) m))
  where
    joined : (x y a b c d n : ℕ) → x ≤ y → y ≡ a + b → a ≤ c → b ≤ d → c + (d + n) ≤ greatest_number → x ≤ greatest_number
    joined x y a b c d n h e p q m = omega arith

    under : (a b : ℕ) → a ≤ b → b ≤ greatest_number → a ≤ greatest_number
    under a b h k = omega arith

-- ---- tables

with_atom-small : (o : Table) (a : Atom) → rows_small o ≡ true → is_small_atom a ≡ true → rows_small (with_atom o a) ≡ true
with_atom-small o a h k = by_test (has_number o a)
  where
    by_test : (b : Bool) → list_all is_small_atom (cond b o.atoms (o.atoms ++ a ∷ [])) ≡ true
    by_test true = h
    by_test false = list_all-append is_small_atom o.atoms (a ∷ []) ∙ and_from (rows_small o) _ h (and_from (is_small_atom a) true k refl)

with_integers-atoms : (o : Table) (ps : List Part) → (with_integers o ps).atoms ≡ o.atoms
with_integers-atoms o [] = refl
with_integers-atoms o (number n ∷ ps) = with_integers-atoms o ps
with_integers-atoms o (multiple k x ∷ ps) = with_integers-atoms (with_integer o x) ps

with_row-small : (o : Table) (ts : List RowTerm) (r : Row) → rows_small o ≡ true → is_small_row r ≡ true → rows_small (with_row o ts r) ≡ true
with_row-small o [] r h k = h
with_row-small o (t ∷ ts) r h k = with_atom-small o (row_atom r) h k

pub naming-small : (o : Table) (f : Symbolic) → is_moderate f ≡ true → rows_small o ≡ true → rows_small (naming o f) ≡ true
naming-small o (always b) m h = h
naming-small o (same a b) m h = with_atom-small o (same_atom a b) h refl
naming-small o (has k r t) m h = with_atom-small o (has_atom k r t) h refl
naming-small o (at_most t u n) m h =
    let p = with_sums o t u in
    let e = with_integers-atoms (with_integers o t) u ∙ with_integers-atoms o t in
    with_row-small p (row_of p t u n).terms (row_of p t u n) (ap (list_all is_small_atom) e ∙ h) (row_of-small p t u n m)
naming-small o (negated f) m h = naming-small o f m h
naming-small o (both f g) m h = (let k = and_parts (is_moderate f) (is_moderate g) m in naming-small (naming o f) g k.1 (naming-small o f k.0 h))
naming-small o (either f g) m h = (let k = and_parts (is_moderate f) (is_moderate g) m in naming-small (naming o f) g k.1 (naming-small o f k.0 h))

naming_all-small : (o : Table) (fs : List Symbolic) → all_moderate fs ≡ true → rows_small o ≡ true → rows_small (naming_all o fs) ≡ true
naming_all-small o [] m h = h
naming_all-small o (f ∷ fs) m h = (let k = and_parts (is_moderate f) (all_moderate fs) m in naming_all-small (naming o f) fs k.1 (naming-small o f k.0 h))

pub table-small : (d : Specification) (ob : Obligation) → is_specification d ≡ true → rows_small (table_of d ob) ≡ true
table-small d ob t = naming_all-small (record { atoms = []; ints = arguments_of d ob }) (formulas_of d ob) (formulas-moderate d t ob) refl
