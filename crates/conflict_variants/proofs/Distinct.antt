-- Lists of names in which none stands twice, and how many there can be of some.
use Rattle.std.proofs.Common.{◌≡◌, ℕ, suc, ◌+◌, ◌≤◌, Bool, true, false, not, cond, ◌||◌, List, [], ◌∷◌, ◌++◌, length, refl, sym, ◌∙◌, ap, subst, inl, inr, arith}
use Rattle.std.specs.List.{list_all, filter}
use Rattle.std.specs.Str.{bytes_eq}
use Rattle.std.proofs.lemmas.Bool.{and_parts, and_from, cases_Bool}
use Rattle.std.proofs.lemmas.List.Folds.{list_any-append, list_all-append}
use Rattle.std.proofs.lemmas.Slice.Eq.{bytes_eq-Decides}
use Rattle.spec_core.specs.State.{is_in}
use Rattle.spec_core.specs.Typed.{all_distinct}

-- ---- names between others

pub neither : (a b : Bool) → (a || b) ≡ false → (a ≡ false) × (b ≡ false)
neither true b h = absurd cc
neither false b h = (refl, h)

pub not_false : (a : Bool) → not a ≡ true → a ≡ false
not_false true h = absurd cc
not_false false h = refl

pub both_false : (a b : Bool) → a ≡ false → b ≡ false → (a || b) ≡ false
both_false a b e f = λ i. e i || f i

is_in_more : (n : List ℕ) (xs ys : List (List ℕ)) → is_in n (xs ++ ys) ≡ (is_in n xs || is_in n ys)
is_in_more n xs ys = list_any-append (bytes_eq n) xs ys

pub in_parts : (n : List ℕ) (xs ys : List (List ℕ)) → is_in n (xs ++ ys) ≡ false → (is_in n xs ≡ false) × (is_in n ys ≡ false)
in_parts n xs ys h = neither (is_in n xs) (is_in n ys) (sym (is_in_more n xs ys) ∙ h)

pub in_neither : (n : List ℕ) (xs ys : List (List ℕ)) → is_in n xs ≡ false → is_in n ys ≡ false → is_in n (xs ++ ys) ≡ false
in_neither n xs ys e f = is_in_more n xs ys ∙ both_false (is_in n xs) (is_in n ys) e f

-- without the middle ones
pub distinct_without : (xs mid ys : List (List ℕ)) → all_distinct (xs ++ (mid ++ ys)) ≡ true → all_distinct (xs ++ ys) ≡ true
distinct_without [] [] ys h = h
distinct_without [] (m ∷ mid) ys h = distinct_without [] mid ys (and_parts (not (is_in m (mid ++ ys))) (all_distinct (mid ++ ys)) h).1
distinct_without (x ∷ xs) mid ys h =
    let p = and_parts (not (is_in x (xs ++ (mid ++ ys)))) (all_distinct (xs ++ (mid ++ ys))) h in
    let q = in_parts x xs (mid ++ ys) (not_false (is_in x (xs ++ (mid ++ ys))) p.0) in
    let r = in_parts x mid ys q.1 in
    and_from (not (is_in x (xs ++ ys))) (all_distinct (xs ++ ys)) (ap not (in_neither x xs ys q.0 r.1)) (distinct_without xs mid ys p.1)

bytes_eq-turned : (n x : List ℕ) → bytes_eq n x ≡ false → bytes_eq x n ≡ false
bytes_eq-turned n x h = elim (cases_Bool (bytes_eq x n)) [
  | inl m ↦ absurd (false_is (bytes_eq n x) h ((bytes_eq-Decides n x).1 (sym ((bytes_eq-Decides x n).0 m))))
  | inr m ↦ m
]
  where
    false_is : (a : Bool) → a ≡ false → a ≡ true → ⊥
    false_is true h k = absurd cc
    false_is false h k = absurd cc

-- with one more in the middle
pub distinct_with : (n : List ℕ) (xs ys : List (List ℕ)) → all_distinct (xs ++ ys) ≡ true → is_in n (xs ++ ys) ≡ false → all_distinct (xs ++ (n ∷ ys)) ≡ true
distinct_with n [] ys h k = and_from (not (is_in n ys)) (all_distinct ys) (ap not k) h
distinct_with n (x ∷ xs) ys h k =
    let p = and_parts (not (is_in x (xs ++ ys))) (all_distinct (xs ++ ys)) h in
    let q = in_parts x xs ys (not_false (is_in x (xs ++ ys)) p.0) in
    let r = neither (bytes_eq n x) (is_in n (xs ++ ys)) k in
    and_from (not (is_in x (xs ++ (n ∷ ys)))) (all_distinct (xs ++ (n ∷ ys)))
    (ap not (in_neither x xs (n ∷ ys) q.0 (both_false (bytes_eq x n) (is_in x ys) (bytes_eq-turned n x r.0) q.1)))
    (distinct_with n xs ys p.1 r.1)

-- what all pass, all but the middle ones pass
pub passed_without : (p : List ℕ → Bool) (xs mid ys : List (List ℕ)) → list_all p (xs ++ (mid ++ ys)) ≡ true → list_all p (xs ++ ys) ≡ true
passed_without p xs mid ys h =
    let a = and_parts (list_all p xs) (list_all p (mid ++ ys)) (sym (list_all-append p xs (mid ++ ys)) ∙ h) in
    let b = and_parts (list_all p mid) (list_all p ys) (sym (list_all-append p mid ys) ∙ a.1) in
    list_all-append p xs ys ∙ and_from (list_all p xs) (list_all p ys) a.0 b.1

pub passed_with : (p : List ℕ → Bool) (xs mid ys : List (List ℕ)) → list_all p (xs ++ ys) ≡ true → list_all p mid ≡ true → list_all p (xs ++ (mid ++ ys)) ≡ true
passed_with p xs mid ys h k =
    let a = and_parts (list_all p xs) (list_all p ys) (sym (list_all-append p xs ys) ∙ h) in
    list_all-append p xs (mid ++ ys)
    ∙ and_from (list_all p xs) (list_all p (mid ++ ys)) a.0 (list_all-append p mid ys ∙ and_from (list_all p mid) (list_all p ys) k a.1)

-- ---- those that pass a test

-- how many pass
abbrev pub passing : {X : Type 0} → (X → Bool) → List X → ℕ
passing p xs = length (filter p xs)

one_more : {X : Type 0} (b : Bool) (x : X) (xs : List X) → length (cond b (x ∷ xs) xs) ≡ cond b 1 0 + length xs
one_more true x xs = let e : suc (length xs) ≡ 1 + length xs = omega arith in e
one_more false x xs = let e : length xs ≡ 0 + length xs = omega arith in e

pub passing-none : {X : Type 0} (p : X → Bool) (xs : List X) → list_all (λ x. not (p x)) xs ≡ true → passing p xs ≡ 0
passing-none p [] h = refl
passing-none p (x ∷ xs) h =
    let a = and_parts (not (p x)) (list_all (λ x. not (p x)) xs) h in
    let b = one_more (p x) x (filter p xs) in
    let c : cond {A = ℕ} (p x) 1 0 ≡ 0 = ap (λ (b : Bool). cond b 1 0) (not_false (p x) a.0) in
    let e = passing-none p xs a.1 in omega arith

pub passing-all : {X : Type 0} (p : X → Bool) (xs : List X) → list_all p xs ≡ true → passing p xs ≡ length xs
passing-all p [] h = refl
passing-all p (x ∷ xs) h =
    let a = and_parts (p x) (list_all p xs) h in
    let b = one_more (p x) x (filter p xs) in
    let c : cond {A = ℕ} (p x) 1 0 ≡ 1 = ap (λ (b : Bool). cond b 1 0) a.0 in
    let e = passing-all p xs a.1 in omega arith

-- what passes one test or another
pub passing-or : {X : Type 0} (p q r : X → Bool) → ((x : X) → p x ≡ (q x || r x)) → (xs : List X) → passing p xs ≤ passing q xs + passing r xs
passing-or p q r h [] = omega arith
passing-or p q r h (x ∷ xs) =
    let a = one_more (p x) x (filter p xs) in let b = one_more (q x) x (filter q xs) in let c = one_more (r x) x (filter r xs) in
    let e = each (p x) (q x) (r x) (h x) in let f = passing-or p q r h xs in omega arith
  where
    each : (a b c : Bool) → a ≡ (b || c) → cond a 1 0 ≤ cond b 1 0 + cond c 1 0
    each a true c e = le_one a
      where
        le_one : (a : Bool) → cond a 1 0 ≤ 1 + cond c 1 0
        le_one true = omega arith
        le_one false = omega arith
    each a false c e = let same : cond c 1 0 ≤ 0 + cond c 1 0 = omega arith in subst (λ (b : Bool). cond b 1 0 ≤ 0 + cond c 1 0) (sym e) same

-- of names of which none stands twice, at most one is this
once : (u : List ℕ) (cs : List (List ℕ)) → all_distinct cs ≡ true → passing (λ n. bytes_eq n u) cs ≤ 1
once u [] h = omega arith
once u (c ∷ cs) h = at (bytes_eq c u) refl (once u cs (and_parts (not (is_in c cs)) (all_distinct cs) h).1)
  where
    p : (not (is_in c cs) ≡ true) × (all_distinct cs ≡ true)
    p = and_parts (not (is_in c cs)) (all_distinct cs) h

    apart : (xs : List (List ℕ)) → is_in u xs ≡ false → list_all (λ n. not (bytes_eq n u)) xs ≡ true
    apart [] k = refl
    apart (x ∷ xs) k = let q = neither (bytes_eq u x) (is_in u xs) k in and_from (not (bytes_eq x u)) (list_all (λ n. not (bytes_eq n u)) xs) (ap not (bytes_eq-turned u x q.0)) (apart xs q.1)

    at : (b : Bool) → bytes_eq c u ≡ b → passing (λ n. bytes_eq n u) cs ≤ 1 → length (cond b (c ∷ filter (λ n. bytes_eq n u) cs) (filter (λ n. bytes_eq n u) cs)) ≤ 1
    at true e f =
        let k = passing-none (λ n. bytes_eq n u) cs (apart cs (subst (λ (x : List ℕ). is_in x cs ≡ false) ((bytes_eq-Decides c u).0 e) (not_false (is_in c cs) p.0))) in
        omega arith
    at false e f = f

-- so of such names at most as many are in a list as the list is long
pub few_in : (us cs : List (List ℕ)) → all_distinct cs ≡ true → passing (λ n. is_in n us) cs ≤ length us
few_in [] cs h = let e = passing-none (λ (n : List ℕ). is_in n []) cs (nothing cs) in omega arith
  where
    nothing : (cs : List (List ℕ)) → list_all (λ (n : List ℕ). not (is_in n [])) cs ≡ true
    nothing [] = refl
    nothing (c ∷ cs) = nothing cs
few_in (u ∷ us) cs h =
    let a = passing-or (λ n. is_in n (u ∷ us)) (λ n. bytes_eq n u) (λ n. is_in n us) (λ n. refl) cs in
    let b = once u cs h in let c = few_in us cs h in omega arith

-- what passes a test passes it, and of different names those that pass are different
pub passed : {X : Type 0} (p : X → Bool) (xs : List X) → list_all p (filter p xs) ≡ true
passed p [] = refl
passed p (x ∷ xs) = at (p x) refl (passed p xs)
  where
    at : (b : Bool) → p x ≡ b → list_all p (filter p xs) ≡ true → list_all p (cond b (x ∷ filter p xs) (filter p xs)) ≡ true
    at true e f = and_from (p x) (list_all p (filter p xs)) e f
    at false e f = f

pub passed_too : {X : Type 0} (q p : X → Bool) (xs : List X) → list_all q xs ≡ true → list_all q (filter p xs) ≡ true
passed_too q p [] h = refl
passed_too q p (x ∷ xs) h = at (p x) (passed_too q p xs (and_parts (q x) (list_all q xs) h).1)
  where
    a : (q x ≡ true) × (list_all q xs ≡ true)
    a = and_parts (q x) (list_all q xs) h

    at : (b : Bool) → list_all q (filter p xs) ≡ true → list_all q (cond b (x ∷ filter p xs) (filter p xs)) ≡ true
    at true f = and_from (q x) (list_all q (filter p xs)) a.0 f
    at false f = f

not_in_fewer : (n : List ℕ) (p : List ℕ → Bool) (xs : List (List ℕ)) → is_in n xs ≡ false → is_in n (filter p xs) ≡ false
not_in_fewer n p [] h = refl
not_in_fewer n p (x ∷ xs) h = at (p x) (not_in_fewer n p xs (neither (bytes_eq n x) (is_in n xs) h).1)
  where
    a : (bytes_eq n x ≡ false) × (is_in n xs ≡ false)
    a = neither (bytes_eq n x) (is_in n xs) h

    at : (b : Bool) → is_in n (filter p xs) ≡ false → is_in n (cond b (x ∷ filter p xs) (filter p xs)) ≡ false
    at true f = both_false (bytes_eq n x) (is_in n (filter p xs)) a.0 f
    at false f = f

pub distinct_fewer : (p : List ℕ → Bool) (xs : List (List ℕ)) → all_distinct xs ≡ true → all_distinct (filter p xs) ≡ true
distinct_fewer p [] h = refl
distinct_fewer p (x ∷ xs) h = at (p x) (distinct_fewer p xs (and_parts (not (is_in x xs)) (all_distinct xs) h).1)
  where
    a : (not (is_in x xs) ≡ true) × (all_distinct xs ≡ true)
    a = and_parts (not (is_in x xs)) (all_distinct xs) h

    at : (b : Bool) → all_distinct (filter p xs) ≡ true → all_distinct (cond b (x ∷ filter p xs) (filter p xs)) ≡ true
    at true f = and_from (not (is_in x (filter p xs))) (all_distinct (filter p xs)) (ap not (not_in_fewer x p xs (not_false (is_in x xs) a.0))) f
    at false f = f
