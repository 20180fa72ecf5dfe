-- What the atoms of a whole problem stand for: first those of the table, and then those that name parts.
use Rattle.std.proofs.Common.{◌≡◌, ℕ, zero, suc, ◌<◌, List, [], ◌∷◌, ◌++◌, length, map, replicate, slice_get, refl, sym, ap, arith, Some, None}
use Rattle.proof_lines.specs.declared.problem.AtomKind.TheVariants.{Plain}
use Rattle.ground_numbers.specs.Numbers.{Atom}
use Rattle.ground_numbers.specs.Problem.{kind_of}

pub kind_there : (xs : List Atom) (names n : ℕ) (a : Atom) → Some a ≡ slice_get xs n → slice_get (map kind_of xs ++ replicate names Plain) n ≡ Some (kind_of a)
kind_there [] names n a h = absurd cc
kind_there (x ∷ xs) names zero a h = let e : a ≡ x = cc in ap (λ z. Some (kind_of z)) (sym e)
kind_there (x ∷ xs) names (suc n) a h = kind_there xs names n a h

name_there : (names n : ℕ) → n < length (replicate names Plain) → slice_get (replicate names Plain) n ≡ Some Plain
name_there zero n h = absurd (omega (arith, h))
name_there (suc names) zero h = refl
name_there (suc names) (suc n) h = name_there names n (omega (arith, h))

pub kind_behind : (xs : List Atom) (names n : ℕ) → None ≡ slice_get xs n → n < length (map kind_of xs ++ replicate names Plain) → slice_get (map kind_of xs ++ replicate names Plain) n ≡ Some Plain
kind_behind [] names n h l = name_there names n l
kind_behind (x ∷ xs) names zero h l = absurd cc
kind_behind (x ∷ xs) names (suc n) h l = kind_behind xs names n h (omega (arith, l))
