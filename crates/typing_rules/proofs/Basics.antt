-- Tests over lists, and what the lack of a fault says.
use Rattle.std.proofs.Common.{◌≡◌, ℕ, ◌+◌, ◌<◌, ◌≤◌, Bool, true, false, ◌&&◌, ◌==◌, nat_lt, nat_le, if◌then◌else◌, List, [], ◌∷◌, ◌++◌, length, Option, None, Some, Result, Ok, refl, ◌∙◌, ap, arith}
use Rattle.std.proofs.lemmas.Bool.{and_from, and_parts}
use Rattle.std.proofs.lemmas.Bool.Decides.{nat_tests}
use Rattle.std.proofs.lemmas.List.{length-append}
use Rattle.std.proofs.lemmas.List.Folds.{list_all-append}
use Rattle.std.specs.List.{list_all}
use Rattle.spec_core.specs.Typed.{is_sort, same_sort}
use Rattle.typing_rules.specs.declared.which.Which.{Which}
use Rattle.typing_rules.specs.Fault.{Fault, limit_fault, ◌otherwise◌, first_fault, limit_at}
use Rattle.typing_rules.specs.Lines.{unless}

-- ---- tests

pub and_both : (a b c d : Bool) → (a ≡ true → c ≡ true) → (b ≡ true → d ≡ true) → (a && b) ≡ true → (c && d) ≡ true
and_both a b c d f g h = let p = and_parts a b h in and_from c d (f p.0) (g p.1)

pub list_all-mono : {X : Type 0} (p q : X → Bool) → ((x : X) → p x ≡ true → q x ≡ true) → (xs : List X) → list_all p xs ≡ true → list_all q xs ≡ true
list_all-mono p q f [] h = refl
list_all-mono p q f (x ∷ xs) h = and_both (p x) (list_all p xs) (q x) (list_all q xs) (f x) (list_all-mono p q f xs) h

pub all_both : {X : Type 0} (p q : X → Bool) (xs : List X) → list_all p xs ≡ true → list_all q xs ≡ true → list_all (λ x. p x && q x) xs ≡ true
all_both p q [] h k = refl
all_both p q (x ∷ xs) h k =
    let a = and_parts (p x) (list_all p xs) h in
    let b = and_parts (q x) (list_all q xs) k in
    and_from (p x && q x) (list_all (λ x. p x && q x) xs) (and_from (p x) (q x) a.0 b.0) (all_both p q xs a.1 b.1)

pub test : (a n : ℕ) → a < n → nat_lt a n ≡ true
test a n h = grind (arith, nat_tests)

pub test_le : (a n : ℕ) → a ≤ n → nat_le a n ≡ true
test_le a n h = grind (arith, nat_tests)

pub tested : (a n : ℕ) → nat_lt a n ≡ true → a < n
tested a n h = grind (arith, nat_tests)

pub tested_le : (a n : ℕ) → nat_le a n ≡ true → a ≤ n
tested_le a n h = grind (arith, nat_tests)

pub below_more : (a n m : ℕ) → n ≤ m → nat_lt a n ≡ true → nat_lt a m ≡ true
below_more a n m le h = grind (arith, nat_tests)

pub same_number : (a b : ℕ) → (a == b) ≡ true → a ≡ b
same_number a b h = grind (arith, nat_tests)

pub equal_self : (a : ℕ) → (a == a) ≡ true
equal_self a = grind (arith, nat_tests)

-- ---- sorts

pub sort_some : (o : Option ℕ) (s : ℕ) → is_sort o s ≡ true → o ≡ Some s
sort_some None s h = absurd cc
sort_some (Some t) s h = ap Some (same_number t s h)

pub some_sort : (o : Option ℕ) (s : ℕ) → o ≡ Some s → is_sort o s ≡ true
some_sort o s h = ap (λ (p : Option ℕ). is_sort p s) h ∙ equal_self s

pub same_some : (o p : Option ℕ) → same_sort o p ≡ true → (s : ℕ) × (o ≡ Some s) × (p ≡ Some s)
same_some None p h = absurd cc
same_some (Some s) p h = (s, refl, sort_some p s h)

pub some_same : (o p : Option ℕ) (s : ℕ) → o ≡ Some s → p ≡ Some s → same_sort o p ≡ true
some_same o p s h k = ap (λ (q : Option ℕ). same_sort q p) h ∙ some_sort p s k

-- ---- faults

pub otherwise_none : (f g : Option Fault) → (f otherwise g) ≡ None → (f ≡ None) × (g ≡ None)
otherwise_none None g h = (refl, h)
otherwise_none (Some f) g h = absurd cc

pub unless_ok : {A : Type 0} (f : Option Fault) (r : Result A Fault) (x : A) → unless f r ≡ Ok x → (f ≡ None) × (r ≡ Ok x)
unless_ok None r x h = (refl, h)
unless_ok (Some f) r x h = absurd cc

-- a test that has a fault where it fails
pub tested_none : (b : Bool) (f : Fault) → (if b then None else Some f) ≡ None → b ≡ true
tested_none true f h = refl
tested_none false f h = absurd cc

pub limit_none : (which : Which) (most count word : ℕ) → limit_at which most count word ≡ None → count < most
limit_none which most count word h = tested count most (by (nat_lt count most) h)
  where
    by : (b : Bool) → (if b then None else Some (limit_fault which (most + 1) word)) ≡ None → b ≡ true
    by true h = refl
    by false h = absurd cc

pub first_none : {X : Type 0} (fault : ℕ → X → Option Fault) (p : X → Bool) → ((n : ℕ) (x : X) → fault n x ≡ None → p x ≡ true) → (n : ℕ) (xs : List X) → first_fault fault n xs ≡ None → list_all p xs ≡ true
first_none fault p f n [] h = refl
first_none fault p f n (x ∷ xs) h =
    let q = otherwise_none (fault n x) (first_fault fault (n + 1) xs) h in
    and_from (p x) (list_all p xs) (f n x q.0) (first_none fault p f (n + 1) xs q.1)

pub first_few : {X : Type 0} (fault : ℕ → X → Option Fault) (most : ℕ) → ((n : ℕ) (x : X) → fault n x ≡ None → n < most) → (n : ℕ) (xs : List X) → n ≤ most → first_fault fault n xs ≡ None → n + length xs ≤ most
first_few fault most f n [] le h = omega arith
first_few fault most f n (x ∷ xs) le h =
    let q = otherwise_none (fault n x) (first_fault fault (n + 1) xs) h in
    let one : n < most = f n x q.0 in
    let more : (n + 1) + length xs ≤ most = first_few fault most f (n + 1) xs (omega arith) q.1 in
    omega arith

-- ---- one more at the end of a list

pub list_all-more : {X : Type 0} (p : X → Bool) (xs : List X) (x : X) → list_all p xs ≡ true → p x ≡ true → list_all p (xs ++ x ∷ []) ≡ true
list_all-more p xs x h k = list_all-append p xs (x ∷ []) ∙ and_from (list_all p xs) (p x && true) h (and_from (p x) true k refl)

pub few_more : {X : Type 0} (xs : List X) (x : X) (most : ℕ) → length xs < most → nat_le (length (xs ++ x ∷ [])) most ≡ true
few_more xs x most lt = test_le (length (xs ++ x ∷ [])) most (let e = length-append xs (x ∷ []) in omega arith)
