-- Elements of lists and their places.
use Rattle.std.specs.Prelude.{Contains, slice_get, None, Some, Option, map, filter}
use Rattle.std.specs.List.{find}
use Rattle.std.proofs.Common.{◌≡◌, ℕ, zero, suc, ◌+◌, ◌<◌, ◌≤◌, Bool, true, false, cond, ◌⊎◌, inl, inr, List, [], ◌∷◌, ◌++◌, set, take, length, get_or, refl, sym, ◌∙◌, ap, subst, arith}
use Rattle.std.proofs.lemmas.Option.{slice_get-get_or, slice_get_within, get_or_from_slice_get}
use Rattle.std.proofs.lemmas.List.Elements.{Contains-append_left, Contains-append_right, Contains-append_cases}
use Rattle.std.proofs.lemmas.Option.{none-some}

pub absent : {X : Type 0} (x : X) → None ≡ Some x → ⊥
absent x h = none-some x h

pub one_found : {X : Type 0} (x y : X) → Some x ≡ Some y → x ≡ y
one_found x y h = cc

-- an element is at a place, and what is at a place is an element
pub place_of : {X : Type 0} (xs : List X) (x : X) → Contains xs x → (k : ℕ) × (slice_get xs k ≡ Some x)
place_of {X} xs x c = (c.0, at xs c.0 x c.1 c.2)
  where
    at : (xs : List X) (k : ℕ) (x : X) → k < length xs → get_or xs k x ≡ x → slice_get xs k ≡ Some x
    at xs k x lt q = slice_get-get_or xs k x lt ∙ ap Some q

pub at_place : {X : Type 0} (xs : List X) (k : ℕ) (x : X) → slice_get xs k ≡ Some x → Contains xs x
at_place xs k x h = (k, slice_get_within xs k x h, get_or_from_slice_get xs k x x h)

pub in_none : {X : Type 0} (x : X) → Contains [] x → ⊥
in_none x c = absurd (absent x (place_of [] x c).1)

pub in_first : {X : Type 0} (x : X) (xs : List X) → Contains (x ∷ xs) x
in_first x xs = at_place (x ∷ xs) 0 x refl

pub in_rest : {X : Type 0} (y x : X) (xs : List X) → Contains xs x → Contains (y ∷ xs) x
in_rest y x xs c = let p = place_of xs x c in at_place (y ∷ xs) (suc p.0) x p.1

pub first_or_rest : {X : Type 0} (y x : X) (xs : List X) → Contains (y ∷ xs) x → (y ≡ x) ⊎ Contains xs x
first_or_rest {X} y x xs c = let p = place_of (y ∷ xs) x c in at p.0 p.1
  where
    at : (k : ℕ) → slice_get (y ∷ xs) k ≡ Some x → (y ≡ x) ⊎ Contains xs x
    at zero h = inl (one_found y x h)
    at (suc k) h = inr (at_place xs k x h)

-- one element more
pub in_front : {X : Type 0} (xs : List X) (y x : X) → Contains xs x → Contains (xs ++ y ∷ []) x
in_front xs y x c = Contains-append_left xs (y ∷ []) x c

pub in_last : {X : Type 0} (xs : List X) (y : X) → Contains (xs ++ y ∷ []) y
in_last xs y = Contains-append_right xs (y ∷ []) y (in_first y [])

pub front_or_is : {X : Type 0} (xs : List X) (y x : X) → Contains (xs ++ y ∷ []) x → Contains xs x ⊎ (y ≡ x)
front_or_is xs y x c = elim (Contains-append_cases xs (y ∷ []) x c) [
  | inl l ↦ inl l
  | inr r ↦ elim (first_or_rest y x [] r) [ inl e ↦ inr e | inr n ↦ absurd (in_none x n) ]
]

-- one element replaced
pub get_set : {X : Type 0} (xs : List X) (i j : ℕ) (v y : X) → slice_get (set xs i v) j ≡ Some y → ((j ≡ i) × (v ≡ y)) ⊎ (slice_get xs j ≡ Some y)
get_set [] i j v y h = inr h
get_set (x ∷ xs) zero zero v y h = inl (refl, one_found v y h)
get_set (x ∷ xs) zero (suc j) v y h = inr h
get_set (x ∷ xs) (suc i) zero v y h = inr h
get_set (x ∷ xs) (suc i) (suc j) v y h = elim (get_set xs i j v y h) [ inl p ↦ inl (ap suc p.0, p.1) | inr q ↦ inr q ]

pub set_at : {X : Type 0} (xs : List X) (i : ℕ) (x v : X) → slice_get xs i ≡ Some x → slice_get (set xs i v) i ≡ Some v
set_at [] i x v h = absurd (absent x h)
set_at (y ∷ xs) zero x v h = refl
set_at (y ∷ xs) (suc i) x v h = set_at xs i x v h

pub set_twice : {X : Type 0} (xs : List X) (i : ℕ) (u v : X) → set (set xs i u) i v ≡ set xs i v
set_twice [] i u v = refl
set_twice (x ∷ xs) zero u v = refl
set_twice (x ∷ xs) (suc i) u v = ap (λ l. x ∷ l) (set_twice xs i u v)

-- fronts
pub get_take : {X : Type 0} (xs : List X) (n j : ℕ) (x : X) → j < n → slice_get xs j ≡ Some x → slice_get (take n xs) j ≡ Some x
get_take [] n j x lt h = absurd (absent x h)
get_take (y ∷ xs) zero j x lt h = absurd (omega (arith, lt))
get_take (y ∷ xs) (suc n) zero x lt h = h
get_take (y ∷ xs) (suc n) (suc j) x lt h = get_take xs n j x (omega (arith, lt)) h

-- maps and filters
pub get_map : {X Y : Type 0} (f : X → Y) (xs : List X) (i : ℕ) (x : X) → slice_get xs i ≡ Some x → slice_get (map f xs) i ≡ Some (f x)
get_map f [] i x h = absurd (absent x h)
get_map f (y ∷ xs) zero x h = ap (λ z. Some (f z)) (one_found y x h)
get_map f (y ∷ xs) (suc i) x h = get_map f xs i x h

pub map_get : {X Y : Type 0} (f : X → Y) (xs : List X) (i : ℕ) (y : Y) → slice_get (map f xs) i ≡ Some y → (x : X) × (slice_get xs i ≡ Some x) × (f x ≡ y)
map_get f [] i y h = absurd (absent y h)
map_get f (x ∷ xs) zero y h = (x, refl, one_found (f x) y h)
map_get f (x ∷ xs) (suc i) y h = map_get f xs i y h

pub length_map : {X Y : Type 0} (f : X → Y) (xs : List X) → length (map f xs) ≡ length xs
length_map f [] = refl
length_map f (x ∷ xs) = ap suc (length_map f xs)

pub map_more : {X Y : Type 0} (f : X → Y) (xs : List X) (x : X) → map f (xs ++ x ∷ []) ≡ map f xs ++ f x ∷ []
map_more f [] x = refl
map_more f (y ∷ xs) x = ap (λ l. f y ∷ l) (map_more f xs x)

pub in_map : {X Y : Type 0} (f : X → Y) (xs : List X) (x : X) → Contains xs x → Contains (map f xs) (f x)
in_map f xs x c = let p = place_of xs x c in at_place (map f xs) p.0 (f x) (get_map f xs p.0 x p.1)

pub in_filter : {X : Type 0} (p : X → Bool) (xs : List X) (x : X) → p x ≡ true → Contains xs x → Contains (filter p xs) x
in_filter p [] x t c = c
in_filter {X} p (y ∷ xs) x t c = elim (first_or_rest y x xs c) [
  | inl e ↦ here (p y) (ap p e ∙ t) e
  | inr r ↦ there (p y) (in_filter p xs x t r)
]
  where
    here : (b : Bool) → b ≡ true → y ≡ x → Contains (cond b (y ∷ filter p xs) (filter p xs)) x
    here b h e = subst (λ z. Contains (cond z (y ∷ filter p xs) (filter p xs)) x) (sym h) (subst (λ z. Contains (y ∷ filter p xs) z) e (in_first y (filter p xs)))

    there : (b : Bool) → Contains (filter p xs) x → Contains (cond b (y ∷ filter p xs) (filter p xs)) x
    there true c = in_rest y x (filter p xs) c
    there false c = c

-- a search that finds nothing, and one that finds something
none_first : {X : Type 0} (b : Bool) (y : X) (o : Option X) → cond b (Some y) o ≡ None → (b ≡ false) × (o ≡ None)
none_first true y o h = absurd (absent y (sym h))
none_first false y o h = (refl, h)

pub found_none : {X : Type 0} (p : X → Bool) (xs : List X) → find p xs ≡ None → (x : X) → Contains xs x → p x ≡ false
found_none p [] h x c = absurd (in_none x c)
found_none p (y ∷ xs) h x c =
    let n = none_first (p y) y (find p xs) h in
    elim (first_or_rest y x xs c) [ inl q ↦ ap p (sym q) ∙ n.0 | inr r ↦ found_none p xs n.1 x r ]

some_first : {X : Type 0} (b : Bool) (y x : X) (o : Option X) → cond b (Some y) o ≡ Some x → ((b ≡ true) × (y ≡ x)) ⊎ (o ≡ Some x)
some_first true y x o h = inl (refl, one_found y x h)
some_first false y x o h = inr h

pub found_some : {X : Type 0} (p : X → Bool) (xs : List X) (x : X) → find p xs ≡ Some x → Contains xs x × (p x ≡ true)
found_some p [] x h = absurd (absent x h)
found_some p (y ∷ xs) x h = elim (some_first (p y) y x (find p xs) h) [
  | inl q ↦ (subst (λ z. Contains (y ∷ xs) z) q.1 (in_first y xs), ap p (sym q.1) ∙ q.0)
  | inr o ↦ (let r = found_some p xs x o in (in_rest y x xs r.0, r.1))
]
