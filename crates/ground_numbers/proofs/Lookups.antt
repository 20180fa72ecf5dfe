-- The first place at which a list passes a test.
use Rattle.std.proofs.Common.{◌≡◌, ℕ, zero, suc, ◌+◌, ◌<◌, Bool, true, false, not, cond, ◌||◌, Some, List, [], ◌∷◌, ◌++◌, map, length, get_or, refl, ◌∙◌, ap, arith, slice_get}
use Rattle.std.specs.List.{list_any, position_or_len}
use Rattle.std.proofs.lemmas.Bool.{or_left, or_right}
use Rattle.std.proofs.lemmas.List.Folds.{list_any-append}
use Rattle.std.proofs.lemmas.List.Sums.{passes_at_first}

module _ {X : Type 0} (p : X → Bool) where
  -- a longer list passes at the same place
  pub position-front : (ys zs : List X) → list_any p ys ≡ true → position_or_len p (ys ++ zs) ≡ position_or_len p ys
  position-front [] zs h = absurd cc
  position-front (y ∷ ys) zs h = by_test (p y) h (position-front ys zs)
    where
      by_test : (b : Bool) → (b || list_any p ys) ≡ true → (list_any p ys ≡ true → position_or_len p (ys ++ zs) ≡ position_or_len p ys) → cond (not b) (1 + position_or_len p (ys ++ zs)) 0 ≡ cond (not b) (1 + position_or_len p ys) 0
      by_test true h f = refl
      by_test false h f = ap (λ n. 1 + n) (f h)

  pub any-front : (ys zs : List X) → list_any p ys ≡ true → list_any p (ys ++ zs) ≡ true
  any-front ys zs h = list_any-append p ys zs ∙ or_left (list_any p ys) (list_any p zs) h

  pub any-last : (ys : List X) (x : X) → p x ≡ true → list_any p (ys ++ x ∷ []) ≡ true
  any-last ys x h = list_any-append p ys (x ∷ []) ∙ or_right (list_any p ys) (p x || false) (or_left (p x) false h)

  pub position-below : (ys : List X) → list_any p ys ≡ true → position_or_len p ys < length ys
  position-below [] h = absurd cc
  position-below (y ∷ ys) h = by_test (p y) h (position-below ys)
    where
      by_test : (b : Bool) → (b || list_any p ys) ≡ true → (list_any p ys ≡ true → position_or_len p ys < length ys) → cond (not b) (1 + position_or_len p ys) 0 < suc (length ys)
      by_test true h f = omega arith
      by_test false h f = (let q = f h in omega arith)

  -- where nothing passes, the place is the next one
  pub position-none : (ys : List X) → list_any p ys ≡ false → position_or_len p ys ≡ length ys
  position-none [] h = refl
  position-none (y ∷ ys) h = by_test (p y) h (position-none ys)
    where
      by_test : (b : Bool) → (b || list_any p ys) ≡ false → (list_any p ys ≡ false → position_or_len p ys ≡ length ys) → cond (not b) (1 + position_or_len p ys) 0 ≡ suc (length ys)
      by_test true h f = absurd cc
      by_test false h f = (let q = f h in omega arith)

  pub position-next : (ys : List X) (x : X) → list_any p ys ≡ false → p x ≡ true → position_or_len p (ys ++ x ∷ []) ≡ length ys
  position-next [] x h e = ap (λ b. cond (not b) 1 0) e
  position-next (y ∷ ys) x h e = by_test (p y) h (λ q. position-next ys x q e)
    where
      by_test : (b : Bool) → (b || list_any p ys) ≡ false → (list_any p ys ≡ false → position_or_len p (ys ++ x ∷ []) ≡ length ys) → cond (not b) (1 + position_or_len p (ys ++ x ∷ [])) 0 ≡ suc (length ys)
      by_test true h f = absurd cc
      by_test false h f = (let q = f h in omega arith)

  pub passes-there : (ys : List X) (d : X) → list_any p ys ≡ true → p (get_or ys (position_or_len p ys) d) ≡ true
  passes-there ys d h = passes_at_first p ys d (position-below ys h)

pub get-map : {X Y : Type 0} (f : X → Y) (xs : List X) (rest : List Y) (n : ℕ) (d : X) → n < length xs → slice_get (map f xs ++ rest) n ≡ Some (f (get_or xs n d))
get-map f [] rest n d h = absurd (omega arith)
get-map f (x ∷ xs) rest zero d h = refl
get-map f (x ∷ xs) rest (suc n) d h = get-map f xs rest n d (omega arith)
