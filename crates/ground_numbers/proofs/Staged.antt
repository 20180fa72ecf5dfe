-- Different numbers name different stages.
use Rattle.std.proofs.Common.{◌≡◌, ℕ, zero, suc, Bool, true, false, List, [], ◌∷◌, refl, sym, ◌∙◌, ap, arith}
use Rattle.std.specs.Prelude.{◌==◌}
use Rattle.std.specs.Str.{bytes_eq}
use Rattle.std.proofs.lemmas.Bool.Decides.{nat_tests}
use Rattle.std.proofs.lemmas.Slice.Eq.{bytes_eq-Decides}
use Rattle.ground_numbers.specs.Stages.{stage_of, stage_before, latest_call}

-- the number of a stage, beside `stage_of`
back : List ℕ → ℕ
back [] = 0
back (zero ∷ []) = 1
back (suc zero ∷ []) = 3
back (suc (suc n) ∷ []) = suc (suc n)
back (zero ∷ n ∷ ns) = 4
back (suc m ∷ n ∷ ns) = 2

back-stage : (n : ℕ) → back (stage_of n) ≡ n
unfolding back
back-stage zero = refl
back-stage (suc zero) = refl
back-stage (suc (suc zero)) = refl
back-stage (suc (suc (suc zero))) = refl
back-stage (suc (suc (suc (suc zero)))) = refl
back-stage (suc (suc (suc (suc (suc n))))) = refl

pub stage_of-is : (m n : ℕ) → stage_of m ≡ stage_of n → m ≡ n
stage_of-is m n h = sym (back-stage m) ∙ ap back h ∙ back-stage n

-- stages are equal exactly where their numbers are
pub same_stage : (m n : ℕ) → bytes_eq (stage_of m) (stage_of n) ≡ (m == n)
same_stage m n = by_tests (bytes_eq (stage_of m) (stage_of n)) (m == n) refl refl
  where
    equal : (a b : ℕ) → (a == b) ≡ true → a ≡ b
    equal a b e = grind (arith, nat_tests)

    reflexive : (a b : ℕ) → a ≡ b → (a == b) ≡ true
    reflexive a b e = grind (arith, nat_tests)

    by_tests : (b c : Bool) → bytes_eq (stage_of m) (stage_of n) ≡ b → (m == n) ≡ c → b ≡ c
    by_tests true true p q = refl
    by_tests false false p q = refl
    by_tests true false p q = absurd (let e = reflexive m n (stage_of-is m n ((bytes_eq-Decides (stage_of m) (stage_of n)).0 p)) in cc)
    by_tests false true p q = absurd (let e = (bytes_eq-Decides (stage_of m) (stage_of n)).1 (ap stage_of (equal m n q)) in cc)

-- a stage after the entry is the one before it and its latest call
pub stage_of-made : (n : ℕ) → stage_of (suc n) ≡ latest_call (suc n) ∷ stage_of (stage_before (suc n))
stage_of-made zero = refl
stage_of-made (suc zero) = refl
stage_of-made (suc (suc zero)) = refl
stage_of-made (suc (suc (suc zero))) = refl
stage_of-made (suc (suc (suc (suc n)))) = refl
