-- A list that is read from its front, one by one, until there is none.
use Rattle.std.proofs.Common.{◌≡◌, ℕ, zero, suc, ◌+◌, None, Some, List, [], ◌∷◌, ◌++◌, map, drop, slice_get, refl, sym, ◌∙◌, ap, append_assoc, arith}

drop_one : {X : Type 0} (xs : List X) (n : ℕ) (x : X) → Some x ≡ slice_get xs n → drop n xs ≡ x ∷ drop (suc n) xs
drop_one [] n x h = absurd cc
drop_one (y ∷ xs) zero x h = (let e : x ≡ y = cc in ap (λ z. z ∷ xs) (sym e))
drop_one (y ∷ xs) (suc n) x h = drop_one xs n x h

drop_none : {X : Type 0} (xs : List X) (n : ℕ) → None ≡ slice_get xs n → drop n xs ≡ []
drop_none [] zero h = refl
drop_none [] (suc n) h = refl
drop_none (y ∷ xs) zero h = absurd cc
drop_none (y ∷ xs) (suc n) h = drop_none xs n h

append_none : {X : Type 0} (xs : List X) → xs ++ [] ≡ xs
append_none [] = refl
append_none (x ∷ xs) = ap (λ ys. x ∷ ys) (append_none xs)

pub read_on : {X Y : Type 0} (f : X → Y) (xs : List X) (ys : List Y) (n : ℕ) (x : X) (y : Y) → map f xs ≡ ys ++ map f (drop n xs) → Some x ≡ slice_get xs n → y ≡ f x → map f xs ≡ (ys ++ y ∷ []) ++ map f (drop (n + 1) xs)
read_on f xs ys n x y h g e =
    let next : n + 1 ≡ suc n = omega arith in
    h ∙ ap (λ zs. ys ++ map f zs) (drop_one xs n x g) ∙ ap (λ z. ys ++ z ∷ map f (drop (suc n) xs)) (sym e) ∙ sym (append_assoc ys (y ∷ []) (map f (drop (suc n) xs))) ∙ ap (λ m. (ys ++ y ∷ []) ++ map f (drop m xs)) (sym next)

pub read_all : {X Y : Type 0} (f : X → Y) (xs : List X) (ys : List Y) (n : ℕ) → map f xs ≡ ys ++ map f (drop n xs) → None ≡ slice_get xs n → ys ≡ map f xs
read_all f xs ys n h g = sym (h ∙ ap (λ zs. ys ++ map f zs) (drop_none xs n g) ∙ append_none ys)
