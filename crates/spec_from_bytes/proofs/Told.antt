-- Parts that are equal where both have the places of their words, and how such parts are put together.
use Rattle.std.proofs.Common.{◌≡◌, ℕ, ◌+◌, List, [], ◌∷◌, ◌++◌, refl, subst}
use Rattle.parser_combinators.specs.declared.token.Key.{Key}
use Rattle.parser_combinators.specs.declared.token.Key.TheVariants as keys
use Rattle.parser_combinators.specs.Words.{Spelt, sign, with_place, each, listed, group, AllSame, NotEmpty}
use Rattle.spec_trees.specs.Place.{IsPlaced}

-- From whichever word on: if the places in both parts are those of their words, the parts are equal.
abbrev pub Told : {A : Type 0} → (A → List Spelt) → A → A → Type 0
Told spelled a b = (n : ℕ) → IsPlaced n (spelled a) → IsPlaced n (spelled b) → a ≡ b

-- each two parts that are the same but for places
abbrev pub AllTold : {A : Type 0} → (A → A → Type 0) → (A → List Spelt) → Type 0
AllTold {A} Same spelled = (a b : A) → Same a b → Told spelled a b

-- ---- words one after the other

-- the number of the word behind some words
abbrev pub after : ℕ → List Spelt → ℕ
after n [] = n
after n (x ∷ xs) = after (n + 1) xs

-- what is placed is placed in its front and behind it
pub front : (n : ℕ) (xs ys : List Spelt) → IsPlaced n (xs ++ ys) → IsPlaced n xs
front n [] ys h = tt
front n (x ∷ xs) ys h = (h.0, front (n + 1) xs ys h.1)

pub rest : (n : ℕ) (xs ys : List Spelt) → IsPlaced n (xs ++ ys) → IsPlaced (after n xs) ys
rest n [] ys h = h
rest n (x ∷ xs) ys h = rest (n + 1) xs ys h.1

-- the further number is that of the first word
pub first_place : (n w : ℕ) (xs : List Spelt) → NotEmpty xs → IsPlaced n (with_place w xs) → (w ≡ n) × IsPlaced n xs
first_place n w [] some h = absurd some
first_place n w (x ∷ xs) some h = (h.0.0, (h.0.1, h.1))

-- ---- two parts

abbrev pub both : {A B : Type 0} → (A → List Spelt) → (B → List Spelt) → A × B → List Spelt
both p q x = p x.0 ++ q x.1

pub both_told : {A B : Type 0} (p : A → List Spelt) (q : B → List Spelt) (a c : A) (b d : B) → Told p a c → Told q b d → Told (both p q) (a, b) (c, d)
both_told p q a c b d P Q n h k =
    let e = P n (front n (p a) (q b) h) (front n (p c) (q d) k) in
    let f = Q (after n (p c)) (subst (λ x. IsPlaced (after n (p x)) (q b)) e (rest n (p a) (q b) h)) (rest n (p c) (q d) k) in
    λ i. (e i, f i)

-- two parts in brackets with a sign between them
abbrev pub between : {A B : Type 0} → (A → List Spelt) → (B → Key) → A × B × A → List Spelt
between p key_of x = (p x.0 ++ (sign (key_of x.1) ∷ p x.2)) ++ sign keys.Close ∷ []

pub between_told : {A B : Type 0} (p : A → List Spelt) (key_of : B → Key) (a c : A) (s t : B) (b d : A) → Told p a c → s ≡ t → Told p b d → Told (between p key_of) (a, s, b) (c, t, d)
between_told {A} {B} p key_of a c s t b d P e Q n h k =
    let q : B × A → List Spelt = λ x. sign (key_of x.0) ∷ p x.1 in
    let signed : Told q (s, b) (t, d) = λ m u v i. (e i, Q (m + 1) u.1 v.1 i) in
    let f = both_told p q a c (s, b) (t, d) P signed n (front n (p a ++ q (s, b)) (sign keys.Close ∷ []) h) (front n (p c ++ q (t, d)) (sign keys.Close ∷ []) k) in
    λ i. ((f i).0, (f i).1.0, (f i).1.1)

-- ---- lists

module _ {A : Type 0} (Same : A → A → Type 0) (p : A → List Spelt) (told : AllTold Same p) where
  pub each_told : AllTold (AllSame Same) (each p)
  each_told [] [] s n h k = refl
  each_told [] (y ∷ ys) s n h k = absurd s
  each_told (x ∷ xs) [] s n h k = absurd s
  each_told (x ∷ xs) (y ∷ ys) s n h k =
      let e = both_told p (each p) x y xs ys (told x y s.0) (each_told xs ys s.1) n h k in
      λ i. (e i).0 ∷ (e i).1

module _ {A : Type 0} (Same : A → A → Type 0) (p : A → List Spelt) (told : AllTold Same p) where
  pub listed_told : AllTold (AllSame Same) (listed p)
  listed_told [] [] s n h k = refl
  listed_told [] (y ∷ ys) s n h k = absurd s
  listed_told (x ∷ xs) [] s n h k = absurd s
  listed_told (x ∷ xs) (y ∷ ys) s n h k =
      let comma : A → List Spelt = λ z. sign keys.Comma ∷ p z in
      let more = each_told Same comma (λ a b t m u v. told a b t (m + 1) u.1 v.1) xs ys s.1 in
      let e = both_told p (each comma) x y xs ys (told x y s.0) more n h k in
      λ i. (e i).0 ∷ (e i).1

  pub group_told : AllTold (AllSame Same) (group p)
  group_told [] [] s n h k = refl
  group_told [] (y ∷ ys) s n h k = absurd s
  group_told (x ∷ xs) [] s n h k = absurd s
  group_told (x ∷ xs) (y ∷ ys) s n h k =
      listed_told (x ∷ xs) (y ∷ ys) s (n + 1) (front (n + 1) (listed p (x ∷ xs)) (sign keys.Close ∷ []) h.1) (front (n + 1) (listed p (y ∷ ys)) (sign keys.Close ∷ []) k.1)
