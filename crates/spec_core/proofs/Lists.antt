use Rattle.std.proofs.Common.{◌≡◌, ℕ, zero, suc, ◌<◌, Bool, true, List, [], ◌∷◌, ◌++◌, length, get_or, take, refl, arith}
use Rattle.std.specs.List.{AllZip, list_all}
use Rattle.std.proofs.lemmas.Bool.{and_parts, and_from}
pub use Rattle.std.proofs.lemmas.Bool.{and_parts as both, and_from as and_true, cases_Bool as tell}

-- what each passes, one passes
pub list_all-get_or : {X : Type 0} (p : X → Bool) (xs : List X) → list_all p xs ≡ true → (k : ℕ) (x : X) → p x ≡ true → p (get_or xs k x) ≡ true
list_all-get_or p [] h k x hx = hx
list_all-get_or p (y ∷ ys) h zero x hx = (and_parts (p y) (list_all p ys) h).0
list_all-get_or p (y ∷ ys) h (suc k) x hx = list_all-get_or p ys (and_parts (p y) (list_all p ys) h).1 k x hx

pub list_all-within : {X : Type 0} (p : X → Bool) (xs : List X) → list_all p xs ≡ true → (k : ℕ) (x : X) → k < length xs → p (get_or xs k x) ≡ true
list_all-within p [] h k x lt = absurd (omega arith)
list_all-within p (y ∷ ys) h zero x lt = (and_parts (p y) (list_all p ys) h).0
list_all-within p (y ∷ ys) h (suc k) x lt = list_all-within p ys (and_parts (p y) (list_all p ys) h).1 k x (omega arith)

-- what passes one test passes another
pub list_all-mono : {X : Type 0} (p q : X → Bool) → ((x : X) → p x ≡ true → q x ≡ true) → (xs : List X) → list_all p xs ≡ true → list_all q xs ≡ true
list_all-mono p q h [] k = refl
list_all-mono p q h (x ∷ xs) k = let a = and_parts (p x) (list_all p xs) k in and_from (q x) (list_all q xs) (h x a.0) (list_all-mono p q h xs a.1)

-- two lists place by place, one more of each
pub zip_more : {A B : Type 0} (R : A → B → Type 0) (xs : List A) (ys : List B) (i : ℕ) (x : A) (y : B) → i < length xs → AllZip R (take i xs) ys → R (get_or xs i x) y → AllZip R (take (suc i) xs) (ys ++ y ∷ [])
zip_more R [] ys i x y lt h r = absurd (omega arith)
zip_more R (a ∷ xs) [] zero x y lt h r = (r, tt)
zip_more R (a ∷ xs) (b ∷ ys) zero x y lt h r = absurd h
zip_more R (a ∷ xs) [] (suc i) x y lt h r = absurd h
zip_more R (a ∷ xs) (b ∷ ys) (suc i) x y lt h r = (h.0, zip_more R xs ys i x y (omega arith) h.1 r)
