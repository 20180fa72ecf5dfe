-- Lists made of the numbers below a bound, when the bound grows by one.
use Rattle.std.proofs.Common.{◌≡◌, ℕ, suc, ◌+◌, List, [], ◌∷◌, ◌++◌, sym, ◌∙◌, ap, arith}
use Rattle.std.specs.Prelude.{map}
use Rattle.std.specs.List.{flat_map}
use Rattle.std.proofs.lemmas.List.{map-append, append_assoc, append-nil}
use Rattle.std.proofs.lemmas.Grind.{flat_map-append}
use Rattle.spec_core.specs.World.{below}

pub mapped_next : {X : Type 0} (f : ℕ → X) (i : ℕ) → map f (below (i + 1)) ≡ map f (below i) ++ f i ∷ []
mapped_next f i = ap (λ m. map f (below m)) (let e : i + 1 ≡ suc i = omega arith in e) ∙ map-append f (below i) (i ∷ [])

pub flat_next : {X : Type 0} (f : ℕ → List X) (i : ℕ) → flat_map f (below (i + 1)) ≡ flat_map f (below i) ++ f i
flat_next {X} f i = ap (λ m. flat_map f (below m)) (let e : i + 1 ≡ suc i = omega arith in e) ∙ flat_map-append f (below i) (i ∷ []) ∙ ap (λ (xs : List X). flat_map f (below i) ++ xs) (append-nil (f i))

-- two members more for one number more
pub pair_next : {X : Type 0} (f g : ℕ → X) (i : ℕ) (xs ys zs : List X) (a b : X)
    → xs ≡ flat_map (λ j. f j ∷ g j ∷ []) (below i) → a ≡ f i → ys ≡ xs ++ a ∷ [] → b ≡ g i → zs ≡ ys ++ b ∷ []
    → zs ≡ flat_map (λ j. f j ∷ g j ∷ []) (below (i + 1))
pair_next f g i xs ys zs a b so_far one first two second =
    second ∙ (λ k. first k ++ two k ∷ []) ∙ append_assoc xs (a ∷ []) (g i ∷ []) ∙ (λ k. so_far k ++ one k ∷ g i ∷ [])
    ∙ sym (flat_next (λ j. f j ∷ g j ∷ []) i)
