-- The place of two among all pairs.
use Rattle.std.proofs.Common.{◌≡◌, ℕ, zero, suc, ◌+◌, ◌-◌, ◌*◌, ◌/◌, ◌<◌, ◌≤◌, List, [], ◌∷◌, ◌++◌, length, map, get_or, slice_get, Some, refl, sym, ◌∙◌, ap, subst, arith}
use Rattle.std.proofs.lemmas.List.{length-map, length-append}
use Rattle.spec_core.specs.declared.update.Thing.{Thing}
use Rattle.ground_problem.specs.Equality.{congruent, congruent_pairs}
use Rattle.lazy_search.specs.Chosen.{pairs_among, pair_place}

pub pairs-length : (x : Thing) (ts : List (List ℕ)) → length (congruent_pairs x ts) ≡ pairs_among (length ts)
pairs-length x [] = refl
pairs-length x (t ∷ ts) = omega (arith, length-append (map (congruent x t) ts) (congruent_pairs x ts), length-map ts (congruent x t), pairs-length x ts)

-- twice the pairs of so many
pub pairs-twice : (n : ℕ) → 2 * pairs_among n + n ≡ n * n
pairs-twice zero = refl
pairs-twice (suc n) = omega (arith, pairs-twice n)

pairs-rise : (n d : ℕ) → pairs_among n ≤ pairs_among (n + d)
pairs-rise n zero = let e : n + 0 ≡ n = omega arith in subst (λ (z : ℕ). pairs_among n ≤ pairs_among z) (sym e) (omega arith)
pairs-rise n (suc d) =
    let e : suc (n + d) ≡ n + suc d = omega arith in
    subst (λ (z : ℕ). pairs_among n ≤ pairs_among z) e (omega (arith, pairs-rise n d))

-- fewer have no more pairs
pairs-fewer : (n m : ℕ) → n ≤ m → pairs_among n ≤ pairs_among m
pairs-fewer n m h =
    let e : n + (m - n) ≡ m = omega (arith, h) in
    subst (λ (z : ℕ). pairs_among n ≤ pairs_among z) e (pairs-rise n (m - n))

get-skip' : {A : Type 0} (xs ys : List A) (k j : ℕ) → k ≡ length xs + j → slice_get (xs ++ ys) k ≡ slice_get ys j
get-skip' [] ys k j e = let q : k ≡ j = omega (arith, e) in ap (λ (z : ℕ). slice_get ys z) q
get-skip' (x ∷ xs) ys zero j e = absurd (omega (arith, e))
get-skip' (x ∷ xs) ys (suc k) j e = get-skip' xs ys k j (omega (arith, e))

get-map : {A : Type 0} (v : List ℕ → A) (us : List (List ℕ)) (ys : List A) (j : ℕ) → j < length us → slice_get (map v us ++ ys) j ≡ Some (v (get_or us j []))
get-map v [] ys j h = absurd (omega (arith, h))
get-map v (u ∷ us) ys zero h = refl
get-map v (u ∷ us) ys (suc j) h = get-map v us ys j (omega (arith, h))

-- The formula of the tuples at two places: so many pairs stand behind those of the rows before it.
pub pair-at : (x : Thing) (ts : List (List ℕ)) (i j k : ℕ) → i < j → j < length ts
    → suc (i + k + pairs_among (length ts - i)) ≡ pairs_among (length ts) + j
    → slice_get (congruent_pairs x ts) k ≡ Some (congruent x (get_or ts i []) (get_or ts j []))
pair-at x [] i j k a b e = absurd (omega (arith, b))
pair-at x (t ∷ ts) i zero k a b e = absurd (omega (arith, a))
pair-at x (t ∷ ts) zero (suc j) k a b e =
    let m : ℕ = length ts in
    let p : suc m - 0 ≡ suc m = omega arith in
    let e' : suc (0 + k + pairs_among (suc m)) ≡ pairs_among (suc m) + suc j = subst (λ (z : ℕ). suc (0 + k + pairs_among z) ≡ pairs_among (suc m) + suc j) p e in
    let q : k ≡ j = omega (arith, e') in
    ap (λ (z : ℕ). slice_get (map (congruent x t) ts ++ congruent_pairs x ts) z) q ∙ get-map (congruent x t) ts (congruent_pairs x ts) j (omega (arith, b))
pair-at x (t ∷ ts) (suc i) (suc j) k a b e =
    let m : ℕ = length ts in
    let p : suc m - suc i ≡ m - i = omega arith in
    let e' = subst (λ (z : ℕ). suc (suc i + k + pairs_among z) ≡ pairs_among (suc m) + suc j) p e in
    let k' : ℕ = k - m in
    let back : k ≡ m + k' = let f = pairs-fewer (m - i) m (omega arith) in omega (arith, e', f, a) in
    get-skip' (map (congruent x t) ts) (congruent_pairs x ts) k k' (let l = length-map ts (congruent x t) in omega (arith, l, back))
    ∙ pair-at x ts i j k' (omega (arith, a)) (omega (arith, b)) (omega (arith, e', back))

pub placed-pair : (x : Thing) (ts : List (List ℕ)) (i j : ℕ) → i < j → j < length ts
    → slice_get (congruent_pairs x ts) (pair_place (length ts) i j) ≡ Some (congruent x (get_or ts i []) (get_or ts j []))
placed-pair x ts i j a b =
    let m : ℕ = length ts in
    let f = pairs-fewer (m - i) m (omega arith) in
    pair-at x ts i j (pair_place m i j) a b (omega (arith, f, a))

-- as code counts them
pub count_halved : (n : ℕ) → (n * (n - 1)) / 2 ≡ pairs_among n
count_halved zero = refl
count_halved (suc m) =
    let p = pairs-twice m in
    let s : suc m - 1 ≡ m = omega arith in
    let t : suc m * m ≡ 2 * pairs_among (suc m) = omega (arith, p) in
    ap (λ (z : ℕ). (suc m * z) / 2) s ∙ (let q : (suc m * m) / 2 ≡ pairs_among (suc m) = omega (arith, t) in q)
