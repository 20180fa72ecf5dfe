-- What holds of all literals of some clauses holds of those of the clauses made from them.
use Rattle.std.proofs.Common.{◌≡◌, ℕ, zero, suc, ◌≤◌, Bool, true, false, not, cond, ◌&&◌, List, [], ◌∷◌, ◌++◌, length, map, refl, arith}
use Rattle.std.specs.Prelude.{is_some, nat_lt, Ok, Err}
use Rattle.std.specs.List.{list_all}
use Rattle.std.proofs.lemmas.Bool.Decides.{nat_tests}
use Rattle.std.proofs.lemmas.List.Folds.{list_all-append}
use Rattle.lin_rows.specs.Rows.{Row}
use Rattle.proof_lines.specs.declared.clause.Lit.{Lit}
use Rattle.proof_lines.specs.declared.problem.AtomKind.{AtomKind}
use Rattle.proof_lines.specs.declared.line.RowStep.{RowStep}
use Rattle.proof_lines.specs.declared.line.Why.TheVariants.{Place, Range}
use Rattle.line_rows.specs.Refusals.{then_, or_broken}
use Rattle.line_rows.specs.Steps.{atom_row, has_row, is_some_literal, lit_rows, with_steps, line_rows}
use Rattle.proof_lines.specs.Clauses.{has, same_lit, insert, join, without, lit_of, resolvent, flip, negations}
use Rattle.proof_lines.specs.Problems.{atoms_below}
use Rattle.std.proofs.lemmas.Bool.{and_parts, and_from}

-- what holds of all literals of two clauses holds of those of their resolvent
pub all-without : (p : Lit → Bool) (l : Lit) (c : List Lit) → list_all p c ≡ true → list_all p (without l c) ≡ true
all-without p l [] h = refl
all-without p l (x ∷ c) h = by_case (not (same_lit x l)) (and_parts (p x) (list_all p c) h) (all-without p l c)
  where
    by_case : (b : Bool) → (p x ≡ true) × (list_all p c ≡ true) → (list_all p c ≡ true → list_all p (without l c) ≡ true) → list_all p (cond b (x ∷ without l c) (without l c)) ≡ true
    by_case true q ih = and_from (p x) (list_all p (without l c)) q.0 (ih q.1)
    by_case false q ih = ih q.1

pub all-insert : (p : Lit → Bool) (c : List Lit) (l : Lit) → list_all p c ≡ true → p l ≡ true → list_all p (insert c l) ≡ true
all-insert p c l h t = by_case (has c l)
  where
    by_case : (b : Bool) → list_all p (cond b c (c ++ l ∷ [])) ≡ true
    by_case true = h
    by_case false = rw list_all-append (and_from (list_all p c) (p l && true) h (and_from (p l) true t refl))

pub all-join : (p : Lit → Bool) (c d : List Lit) → list_all p c ≡ true → list_all p d ≡ true → list_all p (join c d) ≡ true
all-join p c [] h k = h
all-join p c (l ∷ d) h k = let q = and_parts (p l) (list_all p d) k in all-join p (insert c l) d (all-insert p c l h q.0) q.1

pub all-resolvent : (p : Lit → Bool) (a : ℕ) (c d : List Lit) → list_all p c ≡ true → list_all p d ≡ true → list_all p (resolvent a c d) ≡ true
all-resolvent p a c d h k = all-join p (without (lit_of a true) c) (without (lit_of a false) d) (all-without p (lit_of a true) c h) (all-without p (lit_of a false) d k)

-- literals below a number are below a greater one
pub all-weaker : (m n : ℕ) (cs : List (List Lit)) → m ≤ n → list_all (atoms_below m) cs ≡ true → list_all (atoms_below n) cs ≡ true
all-weaker m n [] h a = refl
all-weaker m n (c ∷ cs) h a =
    let q = and_parts (atoms_below m c) (list_all (atoms_below m) cs) a in
    and_from (atoms_below n c) (list_all (atoms_below n) cs) (weaker c q.0) (all-weaker m n cs h q.1)
  where
    lt_more : (a : ℕ) → nat_lt a m ≡ true → nat_lt a n ≡ true
    lt_more a l = grind (arith, nat_tests)

    weaker : (c : List Lit) → atoms_below m c ≡ true → atoms_below n c ≡ true
    weaker [] a = refl
    weaker (l ∷ c) a =
        let q = and_parts (nat_lt l.atom m) (atoms_below m c) a in
        and_from (nat_lt l.atom n) (atoms_below n c) (lt_more l.atom q.0) (weaker c q.1)

-- the literals of a Farkas line name atoms
row_there : (atoms : List AtomKind) (a : ℕ) → is_some (atom_row atoms a) ≡ true → nat_lt a (length atoms) ≡ true
row_there [] a h = absurd cc
row_there (k ∷ atoms) zero h = grind (arith, nat_tests)
row_there (k ∷ atoms) (suc a) h = let l = row_there atoms a h in grind (arith, nat_tests)

rows_there : (atoms : List AtomKind) (used : List Lit) → list_all (has_row atoms) used ≡ true → atoms_below (length atoms) (map flip used) ≡ true
rows_there atoms [] h = refl
rows_there atoms (l ∷ used) h =
    let q = and_parts (has_row atoms l) (list_all (has_row atoms) used) h in
    and_from (nat_lt l.atom (length atoms)) (atoms_below (length atoms) (map flip used)) (row_there atoms l.atom q.0) (rows_there atoms used q.1)

pub used-have_rows : (atoms : List AtomKind) (used : List Lit) (steps : List RowStep) (rows : List Row) → line_rows atoms used steps ≡ Ok rows → list_all (has_row atoms) used ≡ true
used-have_rows atoms used steps rows h = by_case (is_some_literal used) (list_all (has_row atoms) used) h
  where
    by_case : (a b : Bool) → then_ (cond (a && b) (or_broken Range (lit_rows atoms used)) (Err Place)) (λ rows. with_steps rows steps) ≡ Ok rows → b ≡ true
    by_case true true h = refl
    by_case true false h = absurd cc
    by_case false b h = absurd cc

pub negations-below : (atoms : List AtomKind) (used : List Lit) (steps : List RowStep) (rows : List Row) → line_rows atoms used steps ≡ Ok rows → atoms_below (length atoms) (negations used) ≡ true
negations-below atoms used steps rows h = all-join (λ l. nat_lt l.atom (length atoms)) [] (map flip used) refl (rows_there atoms used (used-have_rows atoms used steps rows h))
