-- How many choices there are.
use Rattle.std.proofs.Common.{◌≡◌, ℕ, suc, ◌+◌, ◌-◌, ◌*◌, ◌≤◌, List, [], ◌∷◌, length, map, take, drop, get_or, length-append, ◌∙◌, ap, arith}
use Rattle.std.proofs.lemmas.List.{length-map, take_all}
use Rattle.std.proofs.Math.Nat.{mul-le-mul_left}
use Rattle.spec_core.specs.World.{each_before}
use Rattle.ground_problem.specs.Constants.{choices}

before-length : (xs : List ℕ) (ts : List (List ℕ)) → length (each_before xs ts) ≡ length xs * length ts
before-length [] ts = omega arith
before-length (x ∷ xs) ts =
    let e = length-append (map (λ t. x ∷ t) ts) (each_before xs ts) in
    let f : length (map (λ (t : List ℕ). x ∷ t) ts) ≡ length ts = length-map ts (λ (t : List ℕ). x ∷ t) in
    let g = before-length xs ts in
    let h : length ts + length xs * length ts ≡ suc (length xs) * length ts = omega arith in
    e ∙ (λ i. f i + g i) ∙ h

-- the first list, and the choices of those behind it
pub choices_first : (lists : List (List ℕ)) (xs : List ℕ) → 1 ≤ length lists → xs ≡ get_or lists 0 xs → each_before xs (choices (take (length lists - 1) (drop 1 lists))) ≡ choices lists
choices_first [] xs h is = absurd (omega arith)
choices_first (ys ∷ lists) xs h is = (let t = take_all (suc (length lists) - 1) lists (omega arith) in λ i. each_before (is i) (choices (t i)))

pub count_first : (lists : List (List ℕ)) (xs : List ℕ) (m r : ℕ) → 1 ≤ length lists → xs ≡ get_or lists 0 xs → m ≤ length (choices (take (length lists - 1) (drop 1 lists))) → r ≤ length xs * m → r ≤ length (choices lists)
count_first lists xs m r h is g l =
    let rest = choices (take (length lists - 1) (drop 1 lists)) in
    let e = before-length xs rest in
    let f = ap length (choices_first lists xs h is) in
    let k = mul-le-mul_left (length xs) g in
    omega (arith, e, f, l, k)
