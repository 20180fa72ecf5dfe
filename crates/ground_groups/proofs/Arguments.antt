-- The whole numbers among the arguments have the first numbers, and name no reading.
use Rattle.std.proofs.Common.{◌≡◌, ℕ, suc, ◌+◌, ◌<◌, Bool, true, false, cond, List, [], ◌∷◌, length, map, fold, drop, drop-cons, slice_index, sym, ◌∙◌, ap, refl, arith}
use Rattle.std.proofs.lemmas.List.Sums.{fold-append}
use Rattle.spec_core.specs.declared.operation.Param.{Param as Parameter}
use Rattle.ground_problem.specs.Symbols.{argument}
use Rattle.ground_problem.specs.Definitions.{Reading}
use Rattle.ground_numbers.specs.Numbers.{Table, has_integer, with_integer}
use Rattle.ground_numbers.specs.Problem.{numbers_from, arguments_from}
use Rattle.ground_atoms.specs.Known.{Known, know_integer}

nothing_named : (b : Bool) → cond {A = List Reading} b [] [] ≡ []
nothing_named true = refl
nothing_named false = refl

params_known : (t : Table) (c : ℕ) (ns : List ℕ) → fold know_integer (record { table = t; named = [] }) (map (argument c) ns) ≡ record { table = fold with_integer t (map (argument c) ns); named = [] }
params_known t c [] = refl
params_known t c (n ∷ ns) =
    ap (λ (q : List Reading). fold know_integer (record { table = with_integer t (argument c n); named = q }) (map (argument c) ns)) (nothing_named (has_integer t (argument c n)))
    ∙ params_known (with_integer t (argument c n)) c ns

pub arguments_known : (t : Table) (n : ℕ) (pss : List (List Parameter)) → fold know_integer (record { table = t; named = [] }) (arguments_from n pss) ≡ record { table = fold with_integer t (arguments_from n pss); named = [] }
arguments_known t n [] = refl
arguments_known t n (ps ∷ more) =
    let xs = map (argument n) (numbers_from 0 ps) in
    fold-append know_integer (record { table = t; named = [] }) xs (arguments_from (suc n) more)
    ∙ ap (λ (k : Known). fold know_integer k (arguments_from (suc n) more)) (params_known t n (numbers_from 0 ps))
    ∙ arguments_known (fold with_integer t xs) (suc n) more
    ∙ ap (λ (o : Table). record { table = o; named = [] }) (sym (fold-append with_integer t xs (arguments_from (suc n) more)))

-- the parameters of the call at a place, and then those of the next ones
pub arguments_next : (f : ℕ → List Parameter) (os : List ℕ) (i : ℕ) → i < length os → (k : Known)
    → fold know_integer k (arguments_from i (map f (drop i os))) ≡ fold know_integer (fold know_integer k (map (argument i) (numbers_from 0 (f (slice_index os i))))) (arguments_from (i + 1) (map f (drop (i + 1) os)))
arguments_next f os i h k =
    let e : suc i ≡ i + 1 = omega arith in
    ap (λ (l : List ℕ). fold know_integer k (arguments_from i (map f l))) (drop-cons os i 0 h)
    ∙ fold-append know_integer k (map (argument i) (numbers_from 0 (f (slice_index os i)))) (arguments_from (suc i) (map f (drop (suc i) os)))
    ∙ ap (λ (n : ℕ). fold know_integer (fold know_integer k (map (argument i) (numbers_from 0 (f (slice_index os i))))) (arguments_from n (map f (drop n os)))) e
