-- The order of tuples and keys, and the last one of a list.
use Rattle.std.proofs.Common.{◌≡◌, ℕ, suc, ◌-◌, ◌<◌, Bool, true, false, ltb, List, [], ◌∷◌, length, refl, sym, ap, ◌∙◌, arith}
use Rattle.std.specs.Prelude.{slice_get}
use Rattle.std.specs.declared.cmp.Ordering.TheVariants.{Less, Equal, Greater}
use Rattle.std.specs.Ordering.{nat_cmp, is_lt, ordering_then}
use Rattle.std.specs.Cmp.Lexicographic.{slice_cmp}
use Rattle.std.specs.Cmp.{nat_cmp_is}
use Rattle.std.proofs.lemmas.Bool.{ltb-true, ltb-false}
use Rattle.proof_report.specs.Verdicts.{stands_before}
use Rattle.proof_report.specs.Feeding.{last_of}

pub last_is : {A : Type 0} (xs : List A) → last_of xs ≡ slice_get xs (length xs - 1)
last_is [] = refl
last_is (x ∷ []) = refl
last_is {A} (x ∷ y ∷ xs) =
    let a : suc (length xs) - 1 ≡ length xs = omega arith in
    let b : suc (suc (length xs)) - 1 ≡ suc (length xs) = omega arith in
    last_is (y ∷ xs) ∙ ap (slice_get (y ∷ xs)) a ∙ sym (ap (slice_get (x ∷ y ∷ xs)) b)

-- of one thing, the elements decide
pub first_agrees : (k : ℕ) (t : List ℕ) (j : ℕ) (u : List ℕ) → k ≡ j → stands_before k t j u ≡ is_lt (slice_cmp nat_cmp t u)
first_agrees k t j u e = ap (λ o. is_lt (ordering_then o (slice_cmp nat_cmp t u))) (sym (nat_cmp_is k j Equal e))

-- of two, the things do
pub first_differs : (k : ℕ) (t : List ℕ) (j : ℕ) (u : List ℕ) → (k ≡ j → ⊥) → stands_before k t j u ≡ ltb k j
first_differs k t j u e = by (ltb k j) refl
  where
    by : (b : Bool) → ltb k j ≡ b → stands_before k t j u ≡ ltb k j
    by true h = ap (λ o. is_lt (ordering_then o (slice_cmp nat_cmp t u))) (sym (nat_cmp_is k j Less (ltb-true k j h))) ∙ sym h
    by false h = let le = ltb-false k j h in let lt : j < k = omega arith in ap (λ o. is_lt (ordering_then o (slice_cmp nat_cmp t u))) (sym (nat_cmp_is k j Greater lt)) ∙ sym h
