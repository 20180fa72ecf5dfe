-- Events taken: membership, and a list with one member replaced.
use Rattle.std.specs.Prelude.{Contains, slice_get, None, Some, map}
use Rattle.std.proofs.Common.{◌≡◌, ℕ, zero, suc, true, ◌||◌, ◌⊎◌, inl, inr, List, [], ◌∷◌, set, eqb, refl, sym, ◌∙◌, ap}
use Rattle.executions.proofs.Lists.{mem, mem_contains, contains_mem}
use Rattle.replica_replay.specs.Held.{is_taken}

pub absent : {X : Type 0} (x : X) → None ≡ Some x → ⊥
absent x h = cc

pub found : {X : Type 0} (x : X) → Some x ≡ None → ⊥
found x h = cc

pub one_found : {X : Type 0} (x y : X) → Some x ≡ Some y → x ≡ y
one_found x y h = cc

is_mem : (taken : List ℕ) (e : ℕ) → is_taken taken e ≡ mem e taken
is_mem [] e = refl
is_mem (t ∷ ts) e = ap (λ b. eqb e t || b) (is_mem ts e)

pub taken_contains : (taken : List ℕ) (e : ℕ) → is_taken taken e ≡ true → Contains taken e
taken_contains taken e h = mem_contains e taken (sym (is_mem taken e) ∙ h)

pub contains_taken : (taken : List ℕ) (e : ℕ) → Contains taken e → is_taken taken e ≡ true
contains_taken taken e h = is_mem taken e ∙ contains_mem e taken h

-- what a list with one member replaced has at a place
pub get_set : {X : Type 0} (xs : List X) (i j : ℕ) (v y : X) → slice_get (set xs i v) j ≡ Some y → ((j ≡ i) × (v ≡ y)) ⊎ (slice_get xs j ≡ Some y)
get_set [] i j v y h = inr h
get_set (x ∷ xs) zero zero v y h = inl (refl, one_found v y h)
get_set (x ∷ xs) zero (suc j) v y h = inr h
get_set (x ∷ xs) (suc i) zero v y h = inr h
get_set (x ∷ xs) (suc i) (suc j) v y h = elim (get_set xs i j v y h) [ inl p ↦ inl (ap suc p.0, p.1) | inr q ↦ inr q ]

-- and what it has at the place itself
pub at_set : {X : Type 0} (xs : List X) (i : ℕ) (v y : X) → slice_get (set xs i v) i ≡ Some y → v ≡ y
at_set [] i v y h = absurd (absent y h)
at_set (x ∷ xs) zero v y h = one_found v y h
at_set (x ∷ xs) (suc i) v y h = at_set xs i v y h

pub get_map : {X Y : Type 0} (f : X → Y) (xs : List X) (i : ℕ) (x : X) → slice_get xs i ≡ Some x → slice_get (map f xs) i ≡ Some (f x)
get_map f [] i x h = absurd (absent x h)
get_map f (y ∷ xs) zero x h = ap (λ z. Some (f z)) (one_found y x h)
get_map f (y ∷ xs) (suc i) x h = get_map f xs i x h
