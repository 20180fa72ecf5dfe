-- The clauses of one formula stand among those of all behind those of the formulas before it.
use Rattle.std.proofs.Common.{◌≡◌, ℕ, zero, suc, ◌+◌, true, List, [], ◌∷◌, ◌++◌, length, take, slice_get, sym, ◌∙◌, ap, subst, arith, Some}
use Rattle.std.proofs.lemmas.List.{length-append}
use Rattle.proof_lines.specs.declared.clause.Lit.{Lit}
use Rattle.ground_numbers.specs.Numbered.{Numbered}
use Rattle.ground_numbers.specs.Clauses.{folded, clauses_of, names_of, all_clauses, all_names}

pub get-skip : {A : Type 0} (xs ys : List A) (j : ℕ) → slice_get (xs ++ ys) (length xs + j) ≡ slice_get ys j
get-skip [] ys j = let e : 0 + j ≡ j = omega arith in ap (λ (z : ℕ). slice_get ys z) e
get-skip (x ∷ xs) ys j = let e : suc (length xs) + j ≡ suc (length xs + j) = omega arith in ap (λ (z : ℕ). slice_get (x ∷ (xs ++ ys)) z) e ∙ get-skip xs ys j

pub get-front : {A : Type 0} (xs ys : List A) (j : ℕ) (x : A) → slice_get xs j ≡ Some x → slice_get (xs ++ ys) j ≡ Some x
get-front [] ys j x h = absurd cc
get-front (y ∷ xs) ys zero x h = h
get-front (y ∷ xs) ys (suc j) x h = get-front xs ys j x h

-- the j-th clause of the k-th formula
pub piece : (n : ℕ) (fs : List Numbered) (k : ℕ) (f : Numbered) (j : ℕ) (c : List Lit) → slice_get fs k ≡ Some f → slice_get (clauses_of (n + all_names (take k fs)) (folded true f)) j ≡ Some c
    → slice_get (all_clauses n fs) (length (all_clauses n (take k fs)) + j) ≡ Some c
piece n [] k f j c h e = absurd cc
piece n (x ∷ fs) zero f j c h e =
    let same : x ≡ f = cc in
    let m : n + 0 ≡ n = omega arith in
    let e' = subst (λ (z : ℕ). slice_get (clauses_of z (folded true f)) j ≡ Some c) m e in
    let e'' = subst (λ (z : Numbered). slice_get (clauses_of n (folded true z)) j ≡ Some c) (sym same) e' in
    let z : 0 + j ≡ j = omega arith in
    ap (λ (y : ℕ). slice_get (all_clauses n (x ∷ fs)) y) z ∙ get-front (clauses_of n (folded true x)) (all_clauses (n + names_of (folded true x)) fs) j c e''
piece n (x ∷ fs) (suc k) f j c h e =
    let one = clauses_of n (folded true x) in
    let m = n + names_of (folded true x) in
    let q : n + (names_of (folded true x) + all_names (take k fs)) ≡ m + all_names (take k fs) = omega arith in
    let e' = subst (λ (z : ℕ). slice_get (clauses_of z (folded true f)) j ≡ Some c) q e in
    let r = piece m fs k f j c h e' in
    let a = length-append one (all_clauses m (take k fs)) in
    let p : length (one ++ all_clauses m (take k fs)) + j ≡ length one + (length (all_clauses m (take k fs)) + j) = omega (arith, a) in
    ap (λ (z : ℕ). slice_get (one ++ all_clauses m fs) z) p ∙ get-skip one (all_clauses m fs) (length (all_clauses m (take k fs)) + j) ∙ r
