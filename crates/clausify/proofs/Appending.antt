-- The clauses of one list of formulas and then another.
use Rattle.std.proofs.Common.{◌≡◌, ℕ, ◌+◌, true, List, [], ◌∷◌, ◌++◌, take, drop, sym, ◌∙◌, ap, arith}
use Rattle.std.proofs.lemmas.List.{append_assoc, take-append-drop}
use Rattle.proof_lines.specs.declared.clause.Lit.{Lit}
use Rattle.ground_numbers.specs.Numbered.{Numbered}
use Rattle.ground_numbers.specs.Clauses.{folded, clauses_of, names_of, all_clauses, all_names}

-- the clauses of two lists in turn
pub clauses-append : (n : ℕ) (xs ys : List Numbered) → all_clauses n (xs ++ ys) ≡ all_clauses n xs ++ all_clauses (n + all_names xs) ys
clauses-append n [] ys = ap (λ (z : ℕ). all_clauses z ys) (let e : n ≡ n + 0 = omega arith in e)
clauses-append n (x ∷ xs) ys =
    let one = clauses_of n (folded true x) in
    let m = n + names_of (folded true x) in
    let e : m + all_names xs ≡ n + (names_of (folded true x) + all_names xs) = omega arith in
    ap (λ (z : List (List Lit)). one ++ z) (clauses-append m xs ys)
    ∙ sym (append_assoc one (all_clauses m xs) (all_clauses (m + all_names xs) ys))
    ∙ ap (λ (z : ℕ). (one ++ all_clauses m xs) ++ all_clauses z ys) e

pub names-append : (xs ys : List Numbered) → all_names (xs ++ ys) ≡ all_names xs + all_names ys
names-append [] ys = let e : all_names ys ≡ 0 + all_names ys = omega arith in e
names-append (x ∷ xs) ys = let e = names-append xs ys in omega (arith, e)

-- the clauses of the first so many formulas, and then of the others
pub clauses-split : (name n : ℕ) (fs : List Numbered) → all_clauses name fs ≡ all_clauses name (take n fs) ++ all_clauses (name + all_names (take n fs)) (drop n fs)
clauses-split name n fs = ap (all_clauses name) (sym (take-append-drop n fs)) ∙ clauses-append name (take n fs) (drop n fs)

pub names-split : (n : ℕ) (fs : List Numbered) → all_names fs ≡ all_names (take n fs) + all_names (drop n fs)
names-split n fs = ap all_names (sym (take-append-drop n fs)) ∙ names-append (take n fs) (drop n fs)
