-- The rows of an obligation's problem are rows: their places rise, and their numbers are in range.
use Rattle.std.proofs.Common.{◌≡◌, ℕ, zero, suc, ◌≤◌, ◌^◌, ℤ, Bool, true, false, cond, not, ◌&&◌, List, [], ◌∷◌, ◌++◌, map, refl, ◌∙◌, ap, arith}
use Rattle.std.specs.Prelude.{nat_lt, nat_le, replicate, unsigned_abs, ◌+ℤ◌}
use Rattle.std.specs.List.{fold, list_all}
use Rattle.std.proofs.lemmas.Bool.{and_parts, and_from}
use Rattle.std.proofs.lemmas.Bool.Decides.{nat_tests}
use Rattle.std.proofs.lemmas.List.Folds.{list_all-append}
use Rattle.lin_rows.specs.declared.term.RowTerm.{RowTerm}
use Rattle.lin_rows.specs.Numbers.{in_range, is_zero}
use Rattle.lin_rows.specs.Rows.{Row, is_coefficient, rises_from}
use Rattle.lin_rows.specs.Sums.{put}
use Rattle.proof_lines.specs.declared.problem.AtomKind.TheVariants.{Plain}
use Rattle.proof_lines.specs.Problems.{has_good_row}
use Rattle.spec_core.specs.Specification.{Specification}
use Rattle.obligation_list.specs.declared.obligation.Obligation.{Obligation}
use Rattle.ground_problem.specs.Symbols.{Part, number, multiple, Symbolic, always, same, has as holds_at, at_most, negated, both, either}
use Rattle.ground_problem.specs.Problem.{formulas_of}
use Rattle.ground_numbers.specs.Numbers.{Atom, same_atom, has_atom, row_atom, Table, has_number, with_atom, with_integer, with_integers, with_term, terms_of, row_of, with_row, with_sums, naming, naming_all}
use Rattle.ground_numbers.specs.Sizes.{is_small, is_small_atom, rows_small, greatest_number}
use Rattle.ground_numbers.specs.Clauses.{all_names}
use Rattle.ground_numbers.specs.Problem.{kind_of, problem_of, table_of, numbered_of, arguments_of}

-- the places rise from the given one on, and no coefficient is 0
abbrev places_rise : ℕ → List RowTerm → Bool
places_rise least [] = true
places_rise least (t ∷ ts) = nat_le least t.place && (not (is_zero t.coef) && places_rise (suc t.place) ts)

rise-weaker : (k n : ℕ) (ts : List RowTerm) → k ≤ n → places_rise n ts ≡ true → places_rise k ts ≡ true
rise-weaker k n [] h e = refl
rise-weaker k n (t ∷ ts) h e =
    let p = and_parts (nat_le n t.place) (not (is_zero t.coef) && places_rise (suc t.place) ts) e in
    and_from (nat_le k t.place) _ (further k n t.place h p.0) p.1
  where
    further : (k n m : ℕ) → k ≤ n → nat_le n m ≡ true → nat_le k m ≡ true
    further k n m h e = grind (arith, nat_tests)

put-rises : (least : ℕ) (u : RowTerm) (ts : List RowTerm) → nat_le least u.place ≡ true → places_rise (suc u.place) ts ≡ true → places_rise least (put u ts) ≡ true
put-rises least u ts h e = by_zero (is_zero u.coef) refl
  where
    lower : (a b : ℕ) → nat_le a b ≡ true → a ≤ suc b
    lower a b h = grind (arith, nat_tests)

    by_zero : (b : Bool) → is_zero u.coef ≡ b → places_rise least (cond b ts (u ∷ ts)) ≡ true
    by_zero true z = rise-weaker least (suc u.place) ts (lower least u.place h) e
    by_zero false z = and_from (nat_le least u.place) _ h (and_from (not (is_zero u.coef)) _ (ap not z) e)

with_term-rises : (least : ℕ) (ts : List RowTerm) (u : RowTerm) → nat_le least u.place ≡ true → places_rise least ts ≡ true → places_rise least (with_term ts u) ≡ true
with_term-rises least [] u h e = put-rises least u [] h refl
with_term-rises least (t ∷ ts) u h e =
    let p = and_parts (nat_le least t.place) (not (is_zero t.coef) && places_rise (suc t.place) ts) e in
    let q = and_parts (not (is_zero t.coef)) (places_rise (suc t.place) ts) p.1 in
    by_tests p.0 q.0 q.1 (nat_lt t.place u.place) (nat_lt u.place t.place) refl refl (λ k. with_term-rises (suc t.place) ts u k q.1)
  where
    above : (a b : ℕ) → nat_lt a b ≡ true → nat_le (suc a) b ≡ true
    above a b h = grind (arith, nat_tests)

    by_tests : nat_le least t.place ≡ true → not (is_zero t.coef) ≡ true → places_rise (suc t.place) ts ≡ true → (b c : Bool) → nat_lt t.place u.place ≡ b → nat_lt u.place t.place ≡ c
        → (nat_le (suc t.place) u.place ≡ true → places_rise (suc t.place) (with_term ts u) ≡ true)
        → places_rise least (cond b (t ∷ with_term ts u) (cond c (put u (t ∷ ts)) (put (record { place = t.place; coef = t.coef +ℤ u.coef }) ts))) ≡ true
    by_tests f g r true c x y ih = and_from (nat_le least t.place) _ f (and_from (not (is_zero t.coef)) _ g (ih (above t.place u.place x)))
    by_tests f g r false true x y ih = put-rises least u (t ∷ ts) h (and_from (nat_le (suc u.place) t.place) _ (above u.place t.place y) (and_from (not (is_zero t.coef)) _ g r))
    by_tests f g r false false x y ih = put-rises least (record { place = t.place; coef = t.coef +ℤ u.coef }) ts f r

fold-rises : (so_far ts : List RowTerm) → places_rise 0 so_far ≡ true → places_rise 0 (fold with_term so_far ts) ≡ true
fold-rises so_far [] e = e
fold-rises so_far (t ∷ ts) e = fold-rises (with_term so_far t) ts (with_term-rises 0 so_far t (least t.place) e)
  where
    least : (n : ℕ) → nat_le 0 n ≡ true
    least n = grind (arith, nat_tests)

-- ---- with small numbers they are in range

small-in_range : (n : ℤ) → is_small n ≡ true → in_range n ≡ true
small-in_range n h = within (unsigned_abs n) h
  where
    within : (m : ℕ) → nat_le m greatest_number ≡ true → nat_lt m (2 ^ 127) ≡ true
    within m h = grind (arith, nat_tests)

rises-small : (least : ℕ) (ts : List RowTerm) → places_rise least ts ≡ true → list_all (λ t. is_small t.coef) ts ≡ true → rises_from least ts ≡ true
rises-small least [] e h = refl
rises-small least (t ∷ ts) e h =
    let p = and_parts (nat_le least t.place) (not (is_zero t.coef) && places_rise (suc t.place) ts) e in
    let q = and_parts (not (is_zero t.coef)) (places_rise (suc t.place) ts) p.1 in
    let k = and_parts (is_small t.coef) (list_all (λ t. is_small t.coef) ts) h in
    and_from (nat_le least t.place) _ p.0 (and_from (is_coefficient t.coef) _ (and_from (not (is_zero t.coef)) (in_range t.coef) q.0 (small-in_range t.coef k.0)) (rises-small (suc t.place) ts q.1 k.1))

-- ---- tables

-- the places of an atom's row rise
abbrev rises_atom : Atom → Bool
rises_atom (same_atom a b) = true
rises_atom (has_atom k r t) = true
rises_atom (row_atom r) = places_rise 0 r.terms

abbrev all_rise : Table → Bool
all_rise o = list_all rises_atom o.atoms

with_atom-rises : (o : Table) (a : Atom) → all_rise o ≡ true → rises_atom a ≡ true → all_rise (with_atom o a) ≡ true
with_atom-rises o a h k = by_test (has_number o a)
  where
    by_test : (b : Bool) → list_all rises_atom (cond b o.atoms (o.atoms ++ a ∷ [])) ≡ true
    by_test true = h
    by_test false = list_all-append rises_atom o.atoms (a ∷ []) ∙ and_from (all_rise o) _ h (and_from (rises_atom a) true k refl)

with_integers-atoms : (o : Table) (ps : List Part) → (with_integers o ps).atoms ≡ o.atoms
with_integers-atoms o [] = refl
with_integers-atoms o (number n ∷ ps) = with_integers-atoms o ps
with_integers-atoms o (multiple k x ∷ ps) = with_integers-atoms (with_integer o x) ps

with_row-rises : (o : Table) (ts : List RowTerm) (r : Row) → all_rise o ≡ true → places_rise 0 r.terms ≡ true → all_rise (with_row o ts r) ≡ true
with_row-rises o [] r h k = h
with_row-rises o (t ∷ ts) r h k = with_atom-rises o (row_atom r) h k

naming-rises : (o : Table) (f : Symbolic) → all_rise o ≡ true → all_rise (naming o f) ≡ true
naming-rises o (always b) h = h
naming-rises o (same a b) h = with_atom-rises o (same_atom a b) h refl
naming-rises o (holds_at k r t) h = with_atom-rises o (has_atom k r t) h refl
naming-rises o (at_most t u n) h =
    let p = with_sums o t u in
    let e = with_integers-atoms (with_integers o t) u ∙ with_integers-atoms o t in
    with_row-rises p (row_of p t u n).terms (row_of p t u n) (ap (list_all rises_atom) e ∙ h) (fold-rises [] (terms_of p true t ++ terms_of p false u) refl)
naming-rises o (negated f) h = naming-rises o f h
naming-rises o (both f g) h = naming-rises (naming o f) g (naming-rises o f h)
naming-rises o (either f g) h = naming-rises (naming o f) g (naming-rises o f h)

naming_all-rises : (o : Table) (fs : List Symbolic) → all_rise o ≡ true → all_rise (naming_all o fs) ≡ true
naming_all-rises o [] h = h
naming_all-rises o (f ∷ fs) h = naming_all-rises (naming o f) fs (naming-rises o f h)

-- ---- problems

kinds-good : (atoms : List Atom) → list_all rises_atom atoms ≡ true → list_all is_small_atom atoms ≡ true → list_all has_good_row (map kind_of atoms) ≡ true
kinds-good [] r h = refl
kinds-good (a ∷ atoms) r h =
    let p = and_parts (rises_atom a) (list_all rises_atom atoms) r in
    let q = and_parts (is_small_atom a) (list_all is_small_atom atoms) h in
    and_from (has_good_row (kind_of a)) _ (by_atom a p.0 q.0) (kinds-good atoms p.1 q.1)
  where
    by_atom : (a : Atom) → rises_atom a ≡ true → is_small_atom a ≡ true → has_good_row (kind_of a) ≡ true
    by_atom (same_atom a b) r h = refl
    by_atom (has_atom k r t) e h = refl
    by_atom (row_atom r) e h =
        let q = and_parts (list_all (λ t. is_small t.coef) r.terms) (is_small r.bound) h in
        and_from (rises_from 0 r.terms) (in_range r.bound) (rises-small 0 r.terms e q.0) (small-in_range r.bound q.1)

names-good : (n : ℕ) → list_all has_good_row (replicate n Plain) ≡ true
names-good zero = refl
names-good (suc n) = names-good n

pub problem-good : (d : Specification) (ob : Obligation) → rows_small (table_of d ob) ≡ true → list_all has_good_row (problem_of d ob).atoms ≡ true
problem-good d ob h =
    let o = table_of d ob in
    let names = replicate (all_names (numbered_of d ob)) Plain in
    list_all-append has_good_row (map kind_of o.atoms) names
    ∙ and_from (list_all has_good_row (map kind_of o.atoms)) _ (kinds-good o.atoms (naming_all-rises (record { atoms = []; ints = arguments_of d ob }) (formulas_of d ob) refl) h) (names-good (all_names (numbered_of d ob)))
