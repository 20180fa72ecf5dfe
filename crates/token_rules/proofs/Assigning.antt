-- The test of one assignment, and the assignments themselves.
use Rattle.std.proofs.Common.{◌≡◌, ℕ, Bool, true, false, cond, not, ◌&&◌, ◌||◌, ◌==◌, List, [], ◌∷◌, map, refl, ap, arith}
use Rattle.std.proofs.lemmas.Bool.{and_from, and_parts}
use Rattle.std.proofs.lemmas.Bool.Decides.{nat_tests}
use Rattle.token_rules.specs.Assignment.{stands_for, assigned, one_assignment, Assigns}

joined : {x y : ℕ} {xs ys : List ℕ} → x ≡ y → xs ≡ ys → x ∷ xs ≡ y ∷ ys
joined p q = λ i. p i ∷ q i

here : (u v f e : ℕ) (rest : ℕ) → (not (u == v) || (f == e)) ≡ true → rest ≡ f → cond (u == v) e rest ≡ f
here u v f e rest h k = grind (arith, nat_tests)

self : (v e rest : ℕ) → cond (v == v) e rest ≡ e
self v e rest = grind (arith, nat_tests)

-- an assignment changed at one variable
changed : ℕ → ℕ → (ℕ → ℕ) → ℕ → ℕ
changed v e value u = cond (u == v) e (value u)

map-changed : (v e : ℕ) (value : ℕ → ℕ) (us fs : List ℕ) → stands_for v e us fs ≡ true → map value us ≡ fs → map (changed v e value) us ≡ fs
unfolding changed
map-changed v e value [] [] h k = k
map-changed v e value [] (f ∷ fs) h k = k
map-changed v e value (u ∷ us) [] h k = absurd cc
map-changed v e value (u ∷ us) (f ∷ fs) h k =
    let parts = and_parts (not (u == v) || (f == e)) (stands_for v e us fs) h in
    let first : value u ≡ f = cc in
    let rest : map value us ≡ fs = cc in
    joined (here u v f e (value u) parts.0 first) (map-changed v e value us fs parts.1 rest)

assigned-found : (us fs : List ℕ) → assigned us fs ≡ true → (value : ℕ → ℕ) × (map value us ≡ fs)
unfolding changed
assigned-found [] [] h = (λ x. x, refl)
assigned-found [] (f ∷ fs) h = absurd cc
assigned-found (u ∷ us) [] h = absurd cc
assigned-found (u ∷ us) (f ∷ fs) h =
    let parts = and_parts (stands_for u f us fs) (assigned us fs) h in
    let more = assigned-found us fs parts.1 in
    (changed u f more.0, joined (self u f (more.0 u)) (map-changed u f more.0 us fs parts.0 more.1))

pub one_assignment-found : (vs es us fs : List ℕ) → one_assignment vs es us fs ≡ true → (value : ℕ → ℕ) × Assigns vs es us fs value
unfolding changed
one_assignment-found [] [] us fs h = let found = assigned-found us fs h in (found.0, record { left = refl; right = found.1 })
one_assignment-found [] (e ∷ es) us fs h = absurd cc
one_assignment-found (v ∷ vs) [] us fs h = absurd cc
one_assignment-found (v ∷ vs) (e ∷ es) us fs h =
    let parts = and_parts (stands_for v e vs es && stands_for v e us fs) (one_assignment vs es us fs) h in
    let two = and_parts (stands_for v e vs es) (stands_for v e us fs) parts.0 in
    let more = one_assignment-found vs es us fs parts.1 in (
      changed v e more.0,
      record {
        left = joined (self v e (more.0 v)) (map-changed v e more.0 vs es two.0 more.1.left);
        right = map-changed v e more.0 us fs two.1 more.1.right;
      },
    )

same_at : (value : ℕ → ℕ) (u v f e : ℕ) → value u ≡ f → value v ≡ e → (not (u == v) || (f == e)) ≡ true
same_at value u v f e p q = at_test (u == v) refl
  where
    at_test : (b : Bool) → (u == v) ≡ b → (not b || (f == e)) ≡ true
    at_test true k = (let same : u ≡ v = grind (arith, nat_tests) in let w = ap value same in grind (arith, nat_tests))
    at_test false k = refl

stands_for-map : (value : ℕ → ℕ) (v e : ℕ) (us fs : List ℕ) → value v ≡ e → map value us ≡ fs → stands_for v e us fs ≡ true
stands_for-map value v e [] [] q k = refl
stands_for-map value v e [] (f ∷ fs) q k = absurd cc
stands_for-map value v e (u ∷ us) [] q k = absurd cc
stands_for-map value v e (u ∷ us) (f ∷ fs) q k =
    let first : value u ≡ f = cc in
    let rest : map value us ≡ fs = cc in
    and_from (not (u == v) || (f == e)) (stands_for v e us fs) (same_at value u v f e first q) (stands_for-map value v e us fs q rest)

assigned-map : (value : ℕ → ℕ) (us fs : List ℕ) → map value us ≡ fs → assigned us fs ≡ true
assigned-map value [] [] k = refl
assigned-map value [] (f ∷ fs) k = absurd cc
assigned-map value (u ∷ us) [] k = absurd cc
assigned-map value (u ∷ us) (f ∷ fs) k =
    let first : value u ≡ f = cc in
    let rest : map value us ≡ fs = cc in
    and_from (stands_for u f us fs) (assigned us fs) (stands_for-map value u f us fs first rest) (assigned-map value us fs rest)

pub one_assignment-map : (vs es us fs : List ℕ) (value : ℕ → ℕ) → Assigns vs es us fs value → one_assignment vs es us fs ≡ true
one_assignment-map [] [] us fs value a = assigned-map value us fs a.right
one_assignment-map [] (e ∷ es) us fs value a = let k = a.left in absurd cc
one_assignment-map (v ∷ vs) [] us fs value a = let k = a.left in absurd cc
one_assignment-map (v ∷ vs) (e ∷ es) us fs value a =
    let k = a.left in
    let first : value v ≡ e = cc in
    let rest : map value vs ≡ es = cc in
    and_from (stands_for v e vs es && stands_for v e us fs) (one_assignment vs es us fs)
    (and_from (stands_for v e vs es) (stands_for v e us fs) (stands_for-map value v e vs es first rest) (stands_for-map value v e us fs first a.right))
    (one_assignment-map vs es us fs value (record { left = rest; right = a.right }))
