-- Lists, as searches go through them.
use Rattle.std.proofs.Common.{◌≡◌, ℕ, suc, ◌+◌, Bool, true, false, cond, List, [], ◌∷◌, ◌++◌, length, Some, None, refl, sym, ◌∙◌, ap, arith}
use Rattle.std.specs.Prelude.{option_map, position}
use Rattle.std.specs.Option.{option_or}
use Rattle.std.specs.List.{position_from}
use Rattle.std.proofs.lemmas.Iterator.Adapters.{position_from-zero}

-- ---- the first place that passes a test

from_joined : {X : Type 0} (p : X → Bool) (i : ℕ) (xs ys : List X) → position_from p i (xs ++ ys) ≡ option_or (position_from p i xs) (position_from p (i + length xs) ys)
from_joined p i [] ys = ap (λ k. position_from p k ys) (let e : i ≡ i + 0 = omega arith in e)
from_joined p i (x ∷ xs) ys = by (p x) (from_joined p (i + 1) xs ys ∙ ap (λ k. option_or (position_from p (i + 1) xs) (position_from p k ys)) (let e : i + 1 + length xs ≡ i + suc (length xs) = omega arith in e))
  where
    by : (b : Bool) → position_from p (i + 1) (xs ++ ys) ≡ option_or (position_from p (i + 1) xs) (position_from p (i + suc (length xs)) ys)
        → cond b (Some i) (position_from p (i + 1) (xs ++ ys)) ≡ option_or (cond b (Some i) (position_from p (i + 1) xs)) (position_from p (i + suc (length xs)) ys)
    by true h = refl
    by false h = h

from_later : {X : Type 0} (p : X → Bool) (k i : ℕ) (ys : List X) → position_from p (k + i) ys ≡ option_map (λ m. k + m) (position_from p i ys)
from_later p k i [] = refl
from_later p k i (y ∷ ys) = by (p y) (ap (λ n. position_from p n ys) (let e : k + i + 1 ≡ k + (i + 1) = omega arith in e) ∙ from_later p k (i + 1) ys)
  where
    by : (b : Bool) → position_from p (k + i + 1) ys ≡ option_map (λ m. k + m) (position_from p (i + 1) ys)
        → cond b (Some (k + i)) (position_from p (k + i + 1) ys) ≡ option_map (λ m. k + m) (cond b (Some i) (position_from p (i + 1) ys))
    by true h = refl
    by false h = h

-- the first place in two lists, one behind the other
pub position_joined : {X : Type 0} (p : X → Bool) (xs ys : List X) → position p (xs ++ ys) ≡ option_or (position p xs) (option_map (λ m. length xs + m) (position p ys))
position_joined p xs ys =
    position_from-zero p (xs ++ ys) ∙ from_joined p 0 xs ys
    ∙ ap (λ o. option_or o (position_from p (0 + length xs) ys)) (sym (position_from-zero p xs))
    ∙ ap (option_or (position p xs)) (ap (λ k. position_from p k ys) (let e : 0 + length xs ≡ length xs + 0 = omega arith in e) ∙ from_later p (length xs) 0 ys ∙ ap (option_map (λ m. length xs + m)) (sym (position_from-zero p ys)))

pub found_first : {X : Type 0} (p : X → Bool) (xs ys : List X) (n : ℕ) → Some n ≡ position p xs → Some n ≡ position p (xs ++ ys)
found_first p xs ys n h = ap (λ o. option_or o (option_map (λ m. length xs + m) (position p ys))) h ∙ sym (position_joined p xs ys)

pub found_behind : {X : Type 0} (p : X → Bool) (xs ys : List X) (n : ℕ) → None ≡ position p xs → Some n ≡ position p ys → Some (length xs + n) ≡ position p (xs ++ ys)
found_behind p xs ys n h k = ap (option_map (λ m. length xs + m)) k ∙ ap (λ o. option_or o (option_map (λ m. length xs + m) (position p ys))) h ∙ sym (position_joined p xs ys)

pub found_nowhere : {X : Type 0} (p : X → Bool) (xs ys : List X) → None ≡ position p xs → None ≡ position p ys → None ≡ position p (xs ++ ys)
found_nowhere p xs ys h k = ap (option_map (λ m. length xs + m)) k ∙ ap (λ o. option_or o (option_map (λ m. length xs + m) (position p ys))) h ∙ sym (position_joined p xs ys)
