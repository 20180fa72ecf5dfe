-- Lists of tuples that rise: one with given members is the only one, all tuples of a world rise, and so do those that pass a test.
use Rattle.std.proofs.Common.{◌≡◌, ℕ, zero, suc, ◌+◌, ◌<◌, Bool, true, false, cond, ◌&&◌, ◌||◌, List, [], ◌∷◌, ◌++◌, map, refl, sym, ◌∙◌, ap, inl, inr, arith}
use Rattle.std.proofs.lemmas.Bool.{and_parts, and_from, cases_Bool, or_left}
use Rattle.std.proofs.lemmas.List.Folds.{list_all-append}
use Rattle.std.proofs.lemmas.Slice.Eq.{bytes_eq-Decides}
use Rattle.std.specs.Cmp.Lexicographic.{slice_cmp, nat_list_cmp_total}
use Rattle.std.specs.Cmp.{nat_cmp_is}
use Rattle.std.specs.List.{list_all, filter}
use Rattle.std.specs.Ordering.{nat_cmp, is_lt, ordering_then, ordering_reverse}
use Rattle.std.specs.declared.cmp.Ordering.{Ordering}
use Rattle.std.specs.declared.cmp.Ordering.TheVariants.{Less, Equal, Greater}
use Rattle.std.specs.Str.{bytes_eq}
use Rattle.spec_core.specs.declared.world.World.{World}
use Rattle.spec_core.specs.State.{is_in, is_rising}
use Rattle.spec_core.specs.World.{size_of, below, each_before, tuples}
use Rattle.spec_core.proofs.Choosing.{each_before-below, list_all-each_before, list_all-below, all_below-from}
use Rattle.spec_core.proofs.States.{list_all-is_in}

-- ---- the order of tuples

abbrev pub before : List ℕ → List ℕ → Bool
before t u = is_lt (slice_cmp nat_cmp t u)

not_both : (a b : Ordering) → a ≡ ordering_reverse b → is_lt a ≡ true → is_lt b ≡ true → ⊥
not_both Less Less e h k = cc
not_both Less Equal e h k = cc
not_both Less Greater e h k = cc
not_both Equal b e h k = cc
not_both Greater b e h k = cc

pub before_one_way : (t u : List ℕ) → before t u ≡ true → before u t ≡ true → ⊥
before_one_way t u = not_both (slice_cmp nat_cmp t u) (slice_cmp nat_cmp u t) (nat_list_cmp_total.antisymm t u)

-- a tuple before others is none of them
pub apart_from : (t : List ℕ) (ts : List (List ℕ)) → list_all (before t) ts ≡ true → is_in t ts ≡ false
apart_from t ts h = elim (cases_Bool (is_in t ts)) [
  | inl m ↦ let k = list_all-is_in (before t) ts t h m in absurd (before_one_way t t k k)
  | inr m ↦ m
]

-- ---- rising lists with the same members are the same

is_in-itself : (t : List ℕ) (ts : List (List ℕ)) → is_in t (t ∷ ts) ≡ true
is_in-itself t ts = or_left (bytes_eq t t) (is_in t ts) ((bytes_eq-Decides t t).1 refl)

-- the first members are the same
same_first : (x y : List ℕ) (xs ys : List (List ℕ)) → list_all (before x) xs ≡ true → list_all (before y) ys ≡ true → is_in x (y ∷ ys) ≡ true → is_in y (x ∷ xs) ≡ true → x ≡ y
same_first x y xs ys h k m n = at (bytes_eq x y) refl (bytes_eq y x) refl m n
  where
    at : (a : Bool) → bytes_eq x y ≡ a → (b : Bool) → bytes_eq y x ≡ b → (a || is_in x ys) ≡ true → (b || is_in y xs) ≡ true → x ≡ y
    at true e b f m n = (bytes_eq-Decides x y).0 e
    at false e true f m n = sym ((bytes_eq-Decides y x).0 f)
    at false e false f m n = absurd (before_one_way x y (list_all-is_in (before x) xs y h n) (list_all-is_in (before y) ys x k m))

-- behind one first member the rest has the same members
same_rest : (x q : List ℕ) (xs ys : List (List ℕ)) → is_in x xs ≡ false → is_in x ys ≡ false → (bytes_eq q x || is_in q xs) ≡ (bytes_eq q x || is_in q ys) → is_in q xs ≡ is_in q ys
same_rest x q xs ys h k e = at (bytes_eq q x) refl e
  where
    at : (a : Bool) → bytes_eq q x ≡ a → (a || is_in q xs) ≡ (a || is_in q ys) → is_in q xs ≡ is_in q ys
    at true f e = let s : q ≡ x = (bytes_eq-Decides q x).0 f in ap (λ z. is_in z xs) s ∙ h ∙ sym (ap (λ z. is_in z ys) s ∙ k)
    at false f e = e

pub rising_same : (xs ys : List (List ℕ)) → is_rising xs ≡ true → is_rising ys ≡ true → ((q : List ℕ) → is_in q xs ≡ is_in q ys) → xs ≡ ys
rising_same [] [] h k e = refl
rising_same [] (y ∷ ys) h k e = absurd (let n : false ≡ true = e y ∙ is_in-itself y ys in cc)
rising_same (x ∷ xs) [] h k e = absurd (let n : false ≡ true = sym (e x) ∙ is_in-itself x xs in cc)
rising_same (x ∷ xs) (y ∷ ys) h k e =
    let a = and_parts (list_all (before x) xs) (is_rising xs) h in
    let b = and_parts (list_all (before y) ys) (is_rising ys) k in
    let s : x ≡ y = same_first x y xs ys a.0 b.0 (sym (e x) ∙ is_in-itself x xs) (e y ∙ is_in-itself y ys) in
    let apart : is_in x ys ≡ false = ap (λ z. is_in z ys) s ∙ apart_from y ys b.0 in
    let rest : xs ≡ ys = rising_same xs ys a.1 b.1 (λ q. same_rest x q xs ys (apart_from x xs a.0) apart (e q ∙ ap (λ z. bytes_eq q z || is_in q ys) (sym s))) in
    λ i. s i ∷ rest i

-- ---- what passes a test

list_all-filter : {X : Type 0} (p f : X → Bool) (xs : List X) → list_all p xs ≡ true → list_all p (filter f xs) ≡ true
list_all-filter p f [] h = refl
list_all-filter p f (x ∷ xs) h = let a = and_parts (p x) (list_all p xs) h in at (f x) a.0 (list_all-filter p f xs a.1)
  where
    at : (b : Bool) → p x ≡ true → list_all p (filter f xs) ≡ true → list_all p (cond b (x ∷ filter f xs) (filter f xs)) ≡ true
    at true h k = and_from _ _ h k
    at false h k = k

pub is_rising-filter : (f : List ℕ → Bool) (ts : List (List ℕ)) → is_rising ts ≡ true → is_rising (filter f ts) ≡ true
is_rising-filter f [] h = refl
is_rising-filter f (t ∷ ts) h = let a = and_parts (list_all (before t) ts) (is_rising ts) h in at (f t) (list_all-filter (before t) f ts a.0) (is_rising-filter f ts a.1)
  where
    at : (b : Bool) → list_all (before t) (filter f ts) ≡ true → is_rising (filter f ts) ≡ true → is_rising (cond b (t ∷ filter f ts) (filter f ts)) ≡ true
    at true h k = and_from _ _ h k
    at false h k = k

pub is_in-filter : (f : List ℕ → Bool) (ts : List (List ℕ)) (q : List ℕ) → is_in q (filter f ts) ≡ (is_in q ts && f q)
is_in-filter f [] q = refl
is_in-filter f (t ∷ ts) q = at (bytes_eq q t) refl (f t) refl (is_in-filter f ts q)
  where
    taken : (a b c : Bool) → (a ≡ true → b ≡ true) → (a || (c && b)) ≡ ((a || c) && b)
    taken a b c h = grind arith

    left : (a b c : Bool) → (a ≡ true → b ≡ false) → (c && b) ≡ ((a || c) && b)
    left a b c h = grind arith

    at : (a : Bool) → bytes_eq q t ≡ a → (b : Bool) → f t ≡ b → is_in q (filter f ts) ≡ (is_in q ts && f q) → is_in q (cond b (t ∷ filter f ts) (filter f ts)) ≡ ((bytes_eq q t || is_in q ts) && f q)
    at a e true g ih = ap (λ z. bytes_eq q t || z) ih ∙ taken (bytes_eq q t) (f q) (is_in q ts) (λ k. ap f ((bytes_eq-Decides q t).0 k) ∙ g)
    at a e false g ih = ih ∙ left (bytes_eq q t) (f q) (is_in q ts) (λ k. ap f ((bytes_eq-Decides q t).0 k) ∙ g)

-- ---- all tuples of a world

is_rising-append : (xs ys : List (List ℕ)) → is_rising xs ≡ true → is_rising ys ≡ true → list_all (λ x. list_all (before x) ys) xs ≡ true → is_rising (xs ++ ys) ≡ true
is_rising-append [] ys h k b = k
is_rising-append (x ∷ xs) ys h k b =
    let a = and_parts (list_all (before x) xs) (is_rising xs) h in
    let c = and_parts (list_all (before x) ys) (list_all (λ x. list_all (before x) ys) xs) b in
    and_from _ _ (list_all-append (before x) xs ys ∙ and_from _ _ a.0 c.0) (is_rising-append xs ys a.1 k c.1)

one_first : (e : ℕ) (t u : List ℕ) → before (e ∷ t) (e ∷ u) ≡ before t u
one_first e t u = ap (λ o. is_lt (ordering_then o (slice_cmp nat_cmp t u))) (sym (nat_cmp_is e e Equal refl))

lower_first : (e n : ℕ) (t u : List ℕ) → e < n → before (e ∷ t) (n ∷ u) ≡ true
lower_first e n t u lt = ap (λ o. is_lt (ordering_then o (slice_cmp nat_cmp t u))) (sym (nat_cmp_is e n Less lt))

before-cons : (e : ℕ) (t : List ℕ) (ts : List (List ℕ)) → list_all (before (e ∷ t)) (map (λ u. e ∷ u) ts) ≡ list_all (before t) ts
before-cons e t [] = refl
before-cons e t (u ∷ ts) = λ i. one_first e t u i && before-cons e t ts i

rising-cons : (e : ℕ) (ts : List (List ℕ)) → is_rising (map (λ t. e ∷ t) ts) ≡ is_rising ts
rising-cons e [] = refl
rising-cons e (t ∷ ts) = λ i. before-cons e t ts i && rising-cons e ts i

all_lower : (e n : ℕ) (t : List ℕ) (us : List (List ℕ)) → e < n → list_all (before (e ∷ t)) (map (λ u. n ∷ u) us) ≡ true
all_lower e n t [] lt = refl
all_lower e n t (u ∷ us) lt = and_from _ _ (lower_first e n t u lt) (all_lower e n t us lt)

each_lower : (e n : ℕ) (ts us : List (List ℕ)) → e < n → list_all (λ t. list_all (before (e ∷ t)) (map (λ u. n ∷ u) us)) ts ≡ true
each_lower e n [] us lt = refl
each_lower e n (t ∷ ts) us lt = and_from _ _ (all_lower e n t us lt) (each_lower e n ts us lt)

rising_each : (n : ℕ) (ts : List (List ℕ)) → is_rising ts ≡ true → is_rising (each_before (below n) ts) ≡ true
rising_each zero ts h = refl
rising_each (suc n) ts h =
    let more : each_before (below (suc n)) ts ≡ each_before (below n) ts ++ map (λ t. n ∷ t) ts = (let e : suc n ≡ n + 1 = omega arith in ap (λ m. each_before (below m) ts) e) ∙ each_before-below n ts in
    ap is_rising more
    ∙ is_rising-append (each_before (below n) ts) (map (λ t. n ∷ t) ts) (rising_each n ts h) (rising-cons n ts ∙ h)
    (list_all-each_before (λ x. list_all (before x) (map (λ t. n ∷ t) ts)) (below n) ts
    ∙ list_all-below (λ e. list_all (λ t. list_all (before (e ∷ t)) (map (λ u. n ∷ u) ts)) ts) n
    ∙ all_below-from n (λ e. list_all (λ t. list_all (before (e ∷ t)) (map (λ u. n ∷ u) ts)) ts) (λ e lt. each_lower e n ts ts lt))

-- all tuples of given sorts rise
pub is_rising-tuples : (w : World) (ss : List ℕ) → is_rising (tuples w ss) ≡ true
is_rising-tuples w [] = refl
is_rising-tuples w (s ∷ ss) = rising_each (size_of w s) (tuples w ss) (is_rising-tuples w ss)
