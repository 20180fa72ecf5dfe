-- The relations and the counters, one more at a time.
use Rattle.std.proofs.Common.{◌≡◌, ℕ, suc, ◌+◌, List, [], ◌∷◌, ◌++◌, map, append_assoc, sym, ◌∙◌, ap, arith}
use Rattle.std.proofs.lemmas.List.{map-append}
use Rattle.spec_core.specs.World.{below}
use Rattle.spec_core.specs.declared.update.Thing.{Thing}

pub below_more : (f : ℕ → Thing) (k n : ℕ) (xs ys : List Thing) → n ≡ k → ys ≡ xs ++ map f (below k) → ys ++ f n ∷ [] ≡ xs ++ map f (below (k + 1))
below_more f k n xs ys q e =
    let s : suc k ≡ k + 1 = omega arith in
    (λ i. e i ++ f (q i) ∷ []) ∙ append_assoc xs (map f (below k)) (f k ∷ []) ∙ ap (λ (zs : List Thing). xs ++ zs) (sym (map-append f (below k) (k ∷ []))) ∙ ap (λ (m : ℕ). xs ++ map f (below m)) s
