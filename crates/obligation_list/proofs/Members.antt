-- The members of lists made by `map`, `filter`, `flat_map` and `below`.
use Rattle.std.proofs.Common.{◌≡◌, ℕ, zero, suc, ◌<◌, Bool, true, false, cond, ◌⊎◌, inl, inr, List, [], ◌∷◌, map, length, slice_index_or, refl, sym, ◌∙◌, ap, subst, arith}
use Rattle.std.specs.List.{filter, flat_map, Contains}
use Rattle.std.proofs.lemmas.List.Elements.{Contains-append_left, Contains-append_right, Contains-append_cases}
use Rattle.spec_core.specs.World.{below}

pub here : {X : Type 0} (x : X) (xs : List X) (y : X) → x ≡ y → Contains (x ∷ xs) y
here x xs y e = (0, (let lt : 0 < suc (length xs) = omega arith in lt), e)

pub there : {X : Type 0} (x : X) (xs : List X) (y : X) → Contains xs y → Contains (x ∷ xs) y
there x xs y m = (let k = m.0 in let lt = m.1 in (suc m.0, (let more : suc m.0 < suc (length xs) = omega arith in more), m.2))

nowhere : {X : Type 0} (y : X) → Contains [] y → ⊥
nowhere y m = let lt = m.1 in omega arith

cons_cases : {X : Type 0} (x : X) (xs : List X) (y : X) → Contains (x ∷ xs) y → (x ≡ y) ⊎ Contains xs y
cons_cases x xs y m = at m.0 m.1 m.2
  where
    at : (k : ℕ) → k < suc (length xs) → slice_index_or (x ∷ xs) k y ≡ y → (x ≡ y) ⊎ Contains xs y
    at zero lt e = inl e
    at (suc k) lt e = inr (k, (let less : k < length xs = omega arith in less), e)

pub Contains-map : {X Y : Type 0} (f : X → Y) (xs : List X) (x : X) → Contains xs x → Contains (map f xs) (f x)
Contains-map f [] x m = absurd (nowhere x m)
Contains-map f (z ∷ zs) x m = elim (cons_cases z zs x m) [
  | inl e ↦ here (f z) (map f zs) (f x) (ap f e)
  | inr r ↦ there (f z) (map f zs) (f x) (Contains-map f zs x r)
]

pub Contains-map_cases : {X Y : Type 0} (f : X → Y) (xs : List X) (y : Y) → Contains (map f xs) y → (x : X) × Contains xs x × (f x ≡ y)
Contains-map_cases f [] y m = absurd (nowhere y m)
Contains-map_cases f (z ∷ zs) y m = elim (cons_cases (f z) (map f zs) y m) [
  | inl e ↦ (z, here z zs z refl, e)
  | inr r ↦ (let k = Contains-map_cases f zs y r in (k.0, there z zs k.0 k.1, k.2))
]

pub Contains-filter : {X : Type 0} (p : X → Bool) (xs : List X) (x : X) → Contains xs x → p x ≡ true → Contains (filter p xs) x
Contains-filter p [] x m h = absurd (nowhere x m)
Contains-filter p (z ∷ zs) x m h = elim (cons_cases z zs x m) [
  | inl e ↦ subst (λ b. Contains (cond b (z ∷ filter p zs) (filter p zs)) x) (sym (ap p e ∙ h)) (here z (filter p zs) x e)
  | inr r ↦ at (p z) (Contains-filter p zs x r h)
]
  where
    at : (b : Bool) → Contains (filter p zs) x → Contains (cond b (z ∷ filter p zs) (filter p zs)) x
    at true k = there z (filter p zs) x k
    at false k = k

pub Contains-filter_cases : {X : Type 0} (p : X → Bool) (xs : List X) (x : X) → Contains (filter p xs) x → Contains xs x × (p x ≡ true)
Contains-filter_cases p [] x m = absurd (nowhere x m)
Contains-filter_cases p (z ∷ zs) x m = at (p z) refl m (λ r. Contains-filter_cases p zs x r)
  where
    at : (b : Bool) → p z ≡ b → Contains (cond b (z ∷ filter p zs) (filter p zs)) x → (Contains (filter p zs) x → Contains zs x × (p x ≡ true)) → Contains (z ∷ zs) x × (p x ≡ true)
    at true h k more = elim (cons_cases z (filter p zs) x k) [
      | inl e ↦ (here z zs x e, ap p (sym e) ∙ h)
      | inr r ↦ (let q = more r in (there z zs x q.0, q.1))
    ]
    at false h k more = (let q = more k in (there z zs x q.0, q.1))

pub Contains-flat_map : {X Y : Type 0} (f : X → List Y) (xs : List X) (x : X) (y : Y) → Contains xs x → Contains (f x) y → Contains (flat_map f xs) y
Contains-flat_map f [] x y m k = absurd (nowhere x m)
Contains-flat_map f (z ∷ zs) x y m k = elim (cons_cases z zs x m) [
  | inl e ↦ Contains-append_left (f z) (flat_map f zs) y (subst (λ u. Contains (f u) y) (sym e) k)
  | inr r ↦ Contains-append_right (f z) (flat_map f zs) y (Contains-flat_map f zs x y r k)
]

pub Contains-flat_map_cases : {X Y : Type 0} (f : X → List Y) (xs : List X) (y : Y) → Contains (flat_map f xs) y → (x : X) × Contains xs x × Contains (f x) y
Contains-flat_map_cases f [] y m = absurd (nowhere y m)
Contains-flat_map_cases f (z ∷ zs) y m = elim (Contains-append_cases (f z) (flat_map f zs) y m) [
  | inl l ↦ (z, here z zs z refl, l)
  | inr r ↦ (let k = Contains-flat_map_cases f zs y r in (k.0, there z zs k.0 k.1, k.2))
]

pub Contains-below : (n k : ℕ) → k < n → Contains (below n) k
Contains-below zero k lt = absurd (omega arith)
Contains-below (suc n) k lt = elim (split k n lt) [
  | inl l ↦ Contains-append_left (below n) (n ∷ []) k (Contains-below n k l)
  | inr e ↦ Contains-append_right (below n) (n ∷ []) k (here n [] k (sym e))
]
  where
    split : (k n : ℕ) → k < suc n → (k < n) ⊎ (k ≡ n)
    split k n h = grind arith

pub Contains-below_cases : (n k : ℕ) → Contains (below n) k → k < n
Contains-below_cases zero k m = absurd (nowhere k m)
Contains-below_cases (suc n) k m = elim (Contains-append_cases (below n) (n ∷ []) k m) [
  | inl l ↦ (let lt = Contains-below_cases n k l in omega arith)
  | inr r ↦ elim (cons_cases n [] k r) [ inl e ↦ omega arith | inr z ↦ absurd (nowhere k z) ]
]
