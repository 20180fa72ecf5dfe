-- The first place in a list at which a test passes.
use Rattle.std.proofs.Common.{◌≡◌, ℕ, zero, suc, ◌+◌, ◌<◌, ◌≤◌, Bool, true, false, not, cond, ◌&&◌, List, [], ◌∷◌, None, Some, length, get_or, drop, refl, ◌∙◌, ap, drop-cons, arith}
use Rattle.std.specs.Prelude.{is_none}
use Rattle.std.specs.List.{list_all, position_from}
use Rattle.std.proofs.lemmas.Bool.{cond-true, cond-false}

module _ {X : Type 0} (p : X → Bool) where
  -- the list from a place on begins with the member there
  pub position_at : (xs : List X) (i : ℕ) (x : X) → i < length xs → position_from p i (drop i xs) ≡ cond (p (get_or xs i x)) (Some i) (position_from p (i + 1) (drop (i + 1) xs))
  position_at xs i x lt = ap (position_from p i) (drop-cons xs i x lt) ∙ (let e : suc i ≡ i + 1 = omega arith in ap (λ n. cond (p (get_or xs i x)) (Some i) (position_from p (i + 1) (drop n xs))) e)

  pub position_here : (xs : List X) (i : ℕ) (x : X) → i < length xs → p (get_or xs i x) ≡ true → position_from p i (drop i xs) ≡ Some i
  position_here xs i x lt h = position_at xs i x lt ∙ cond-true _ _ _ h

  pub position_later : (xs : List X) (i : ℕ) (x : X) → i < length xs → p (get_or xs i x) ≡ false → position_from p i (drop i xs) ≡ position_from p (i + 1) (drop (i + 1) xs)
  position_later xs i x lt h = position_at xs i x lt ∙ cond-false _ _ _ h

  pub position_past : (xs : List X) (n i : ℕ) → length xs ≤ i → position_from p n (drop i xs) ≡ None
  position_past [] n zero le = refl
  position_past [] n (suc i) le = refl
  position_past (x ∷ xs) n zero le = absurd (omega (arith, le))
  position_past (x ∷ xs) n (suc i) le = position_past xs n i (omega (arith, le))

-- none where no member passes
pub position_none : {X : Type 0} (p : X → Bool) (n : ℕ) (xs : List X) → is_none (position_from (λ x. not (p x)) n xs) ≡ list_all p xs
position_none p n [] = refl
position_none p n (x ∷ xs) = at (p x) (position_none p (n + 1) xs)
  where
    at : (b : Bool) → is_none (position_from (λ x. not (p x)) (n + 1) xs) ≡ list_all p xs → is_none (cond (not b) (Some n) (position_from (λ x. not (p x)) (n + 1) xs)) ≡ (b && list_all p xs)
    at true h = h
    at false h = refl
