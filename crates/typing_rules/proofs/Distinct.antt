-- Names stay distinct where one more is put in anywhere.
use Rattle.std.proofs.Common.{◌≡◌, ℕ, Bool, true, false, not, ◌||◌, List, [], ◌∷◌, ◌++◌, map, refl, sym, ◌∙◌, ap, subst}
use Rattle.std.proofs.lemmas.Bool.{and_parts, and_from, or_parts, or_from, or_left, or_right, not_from_false}
use Rattle.std.proofs.lemmas.Slice.Eq.{bytes_eq-Decides}
use Rattle.std.specs.List.{list_all}
use Rattle.std.specs.Str.{bytes_eq}
use Rattle.spec_core.specs.State.{is_in}
use Rattle.spec_core.specs.Typed.{all_distinct}

-- a list is another with a name put in
pub data Inserted (n : List ℕ) : List (List ℕ) → List (List ℕ) → Type 0 where
  here : {xs : List (List ℕ)} → Inserted n xs (n ∷ xs)
  later : {x : List ℕ} {xs ys : List (List ℕ)} → Inserted n xs ys → Inserted n (x ∷ xs) (x ∷ ys)

pub same_text : (a b : List ℕ) → bytes_eq a b ≡ true → a ≡ b
same_text a b h = (bytes_eq-Decides a b).0 h

pub text_self : (a : List ℕ) → bytes_eq a a ≡ true
text_self a = (bytes_eq-Decides a a).1 refl

pub other_way : (a b : List ℕ) → bytes_eq a b ≡ false → bytes_eq b a ≡ false
other_way a b h = by (bytes_eq b a) refl
  where
    by : (c : Bool) → bytes_eq b a ≡ c → c ≡ false
    by false e = refl
    by true e = absurd (let p : b ≡ a = same_text b a e in let q : bytes_eq a b ≡ true = (bytes_eq-Decides a b).1 (sym p) in cc)

pub in_inserted : {n : List ℕ} {xs ys : List (List ℕ)} → Inserted n xs ys → (x : List ℕ) → is_in x ys ≡ (bytes_eq x n || is_in x xs)
in_inserted here x = refl
in_inserted {n = n} (later {x = y} {xs = xs} {ys = ys} i) x = ap (λ b. bytes_eq x y || b) (in_inserted i x) ∙ swapped (bytes_eq x y) (bytes_eq x n) (is_in x xs)
  where
    swapped : (a b c : Bool) → (a || (b || c)) ≡ (b || (a || c))
    swapped true true c = refl
    swapped true false c = refl
    swapped false b c = refl

pub distinct_inserted : {n : List ℕ} {xs ys : List (List ℕ)} → Inserted n xs ys → all_distinct xs ≡ true → is_in n xs ≡ false → all_distinct ys ≡ true
distinct_inserted {n = n} (here {xs = xs}) h k = and_from (not (is_in n xs)) (all_distinct xs) (ap not k) h
distinct_inserted {n = n} (later {x = y} {xs = xs} {ys = ys} i) h k =
    let p = and_parts (not (is_in y xs)) (all_distinct xs) h in
    let q = or_parts (bytes_eq n y) (is_in n xs) k in
    let e : is_in y ys ≡ is_in y xs = in_inserted i y ∙ ap (λ b. b || is_in y xs) (other_way n y q.0) in
    and_from (not (is_in y ys)) (all_distinct ys) (ap not e ∙ p.0) (distinct_inserted i p.1 q.1)

-- a test of all names
pub all_inserted : {n : List ℕ} {xs ys : List (List ℕ)} (p : List ℕ → Bool) → Inserted n xs ys → list_all p xs ≡ true → p n ≡ true → list_all p ys ≡ true
all_inserted {n = n} p (here {xs = xs}) h k = and_from (p n) (list_all p xs) k h
all_inserted p (later {x = y} {xs = xs} {ys = ys} i) h k = let q = and_parts (p y) (list_all p xs) h in and_from (p y) (list_all p ys) q.0 (all_inserted p i q.1 k)

-- ---- names that are no names before them

-- each name is none of those before it, and none of some others
abbrev pub AreNew : List (List ℕ) → List (List ℕ) → Type 0
AreNew before [] = Unit {0}
AreNew before (n ∷ ns) = (is_in n before ≡ false) × AreNew (before ++ n ∷ []) ns

in_more : (x n : List ℕ) (ns : List (List ℕ)) → is_in x (ns ++ n ∷ []) ≡ (is_in x ns || bytes_eq x n)
in_more x n [] = by (bytes_eq x n)
  where
    by : (b : Bool) → (b || false) ≡ (false || b)
    by true = refl
    by false = refl
in_more x n (m ∷ ns) = ap (λ b. bytes_eq x m || b) (in_more x n ns) ∙ regrouped (bytes_eq x m) (is_in x ns) (bytes_eq x n)
  where
    regrouped : (a b c : Bool) → (a || (b || c)) ≡ ((a || b) || c)
    regrouped true b c = refl
    regrouped false b c = refl

-- one of the names before isn't among the new ones
not_again : (x : List ℕ) (before ns : List (List ℕ)) → AreNew before ns → is_in x before ≡ true → is_in x ns ≡ false
not_again x before [] h k = refl
not_again x before (n ∷ ns) h k =
    let apart : bytes_eq x n ≡ false = differs (bytes_eq x n) refl in
    or_from (bytes_eq x n) (is_in x ns) apart (not_again x (before ++ n ∷ []) ns h.1 (in_more x n before ∙ or_left (is_in x before) (bytes_eq x n) k))
  where
    differs : (b : Bool) → bytes_eq x n ≡ b → b ≡ false
    differs false e = refl
    differs true e = absurd (let same : x ≡ n = same_text x n e in let p : is_in n before ≡ true = subst (λ y. is_in y before ≡ true) same k in let q = h.0 in cc)

pub new_distinct : (before ns : List (List ℕ)) → AreNew before ns → all_distinct ns ≡ true
new_distinct before [] h = refl
new_distinct before (n ∷ ns) h =
    let once : is_in n ns ≡ false = not_again n (before ++ n ∷ []) ns h.1 (in_more n n before ∙ or_right (is_in n before) (bytes_eq n n) (text_self n)) in
    and_from (not (is_in n ns)) (all_distinct ns) (not_from_false (is_in n ns) once) (new_distinct (before ++ n ∷ []) ns h.1)

-- ---- one more at the end of a list in front of others, and other lists in front

pub put_in_front : {n : List ℕ} {xs ys : List (List ℕ)} (zs : List (List ℕ)) → Inserted n xs ys → Inserted n (zs ++ xs) (zs ++ ys)
put_in_front [] i = i
put_in_front (z ∷ zs) i = later (put_in_front zs i)

pub one_more_name : (xs : List (List ℕ)) (n : List ℕ) (rest : List (List ℕ)) → Inserted n (xs ++ rest) ((xs ++ n ∷ []) ++ rest)
one_more_name [] n rest = here
one_more_name (x ∷ xs) n rest = later (one_more_name xs n rest)

pub one_more_named : {X : Type 0} (name : X → List ℕ) (xs : List X) (x : X) (rest : List (List ℕ)) → Inserted (name x) (map name xs ++ rest) (map name (xs ++ x ∷ []) ++ rest)
one_more_named name [] x rest = here
one_more_named name (y ∷ xs) x rest = later (one_more_named name xs x rest)

pub last_named : {X : Type 0} (name : X → List ℕ) (xs : List X) (x : X) → Inserted (name x) (map name xs) (map name (xs ++ x ∷ []))
last_named name [] x = here
last_named name (y ∷ xs) x = later (last_named name xs x)
