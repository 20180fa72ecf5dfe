-- Lists over the numbers below a size, one number more.
use Rattle.std.proofs.Common.{◌≡◌, ℕ, zero, suc, ◌+◌, ◌<◌, ◌≤◌, Bool, true, false, cond, List, [], ◌∷◌, ◌++◌, map, nat_le, refl, ◌∙◌, ap, append-nil, add-one, arith}
use Rattle.std.proofs.lemmas.Bool.Decides.{nat_tests}
use Rattle.std.specs.List.{filter, flat_map}
use Rattle.std.proofs.lemmas.List.{map-append}
use Rattle.std.proofs.lemmas.List.Elements.{filter-append}
use Rattle.std.proofs.lemmas.Grind.{flat_map-append}
use Rattle.spec_core.specs.World.{below}

below-more : (n : ℕ) → below (n + 1) ≡ below n ++ n ∷ []
below-more n = ap below (add-one n)

pub map-below_more : {X : Type 0} (f : ℕ → X) (n : ℕ) → map f (below (n + 1)) ≡ map f (below n) ++ f n ∷ []
map-below_more f n = ap (map f) (below-more n) ∙ map-append f (below n) (n ∷ [])

pub flat_map-below_more : {X : Type 0} (f : ℕ → List X) (n : ℕ) → flat_map f (below (n + 1)) ≡ flat_map f (below n) ++ f n
flat_map-below_more f n = ap (flat_map f) (below-more n) ∙ flat_map-append f (below n) (n ∷ []) ∙ ap (λ r. flat_map f (below n) ++ r) (append-nil (f n))

pub filter_map-below_more : {X Y : Type 0} (c : X → Y) (p : X → Bool) (f : ℕ → X) (n : ℕ) → map c (filter p (map f (below (n + 1)))) ≡ map c (filter p (map f (below n))) ++ cond (p (f n)) (c (f n) ∷ []) []
filter_map-below_more c p f n =
    ap (λ xs. map c (filter p xs)) (map-below_more f n) ∙ ap (map c) (filter-append p (map f (below n)) (f n ∷ [])) ∙ map-append c (filter p (map f (below n))) (filter p (f n ∷ [])) ∙ ap (λ r. map c (filter p (map f (below n))) ++ r) (one (p (f n)))
  where
    one : (b : Bool) → map c (cond b (f n ∷ []) []) ≡ cond b (c (f n) ∷ []) []
    one true = refl
    one false = refl

-- none of the numbers below one is that one or more
pub filter-below_self : (a n : ℕ) → n ≤ a → filter (nat_le a) (below n) ≡ []
filter-below_self a zero h = refl
filter-below_self a (suc n) h = filter-append (nat_le a) (below n) (n ∷ []) ∙ (λ i. filter-below_self a n (omega arith) i ++ last (nat_le a n) (let lt : n < a = omega arith in grind (arith, nat_tests)) i)
  where
    last : (b : Bool) → b ≡ false → cond b (n ∷ []) [] ≡ []
    last b e = ap (λ (x : Bool). cond x (n ∷ []) []) e

pub flat_map-filter-below_more : {X : Type 0} (f : ℕ → List X) (a n : ℕ) → a ≤ n → flat_map f (filter (nat_le a) (below (n + 1))) ≡ flat_map f (filter (nat_le a) (below n)) ++ f n
flat_map-filter-below_more f a n h =
    ap (λ xs. flat_map f (filter (nat_le a) xs)) (below-more n) ∙ ap (flat_map f) (filter-append (nat_le a) (below n) (n ∷ [])) ∙ flat_map-append f (filter (nat_le a) (below n)) (filter (nat_le a) (n ∷ []))
    ∙ ap (λ r. flat_map f (filter (nat_le a) (below n)) ++ r) (last (nat_le a n) (grind (arith, nat_tests)))
  where
    last : (b : Bool) → b ≡ true → flat_map f (cond b (n ∷ []) []) ≡ f n
    last b e = ap (λ (x : Bool). flat_map f (cond x (n ∷ []) [])) e ∙ append-nil (f n)
