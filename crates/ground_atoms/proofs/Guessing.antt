-- A guess that was tested is right: no two keys are equal, so that where an equal one stands is the first such place.
use Rattle.std.proofs.Common.{◌≡◌, ℕ, zero, suc, ◌+◌, Bool, true, false, not, cond, ◌&&◌, ◌||◌, List, [], ◌∷◌, map, refl, sym, ◌∙◌, ap, subst, arith}
use Rattle.std.specs.Prelude.{nat_eq, Some, slice_get}
use Rattle.std.specs.List.{list_any, position_or_len, AllByRecursion, IsDistinct}
use Rattle.std.specs.Str.{bytes_eq}
use Rattle.std.specs.Cmp.Lexicographic.{bytes_decides}
use Rattle.std.proofs.lemmas.Bool.{and_parts}
use Rattle.std.proofs.lemmas.Bool.Decides.{Decides-eqb}
use Rattle.std.proofs.lemmas.Map.Keys.{IsDistinct-head, IsDistinct-tail}
use Rattle.ground_numbers.specs.Numbers.{same_atoms}
use Rattle.ground_atoms.specs.declared.atom.Atom.{Atom as CodeAtom}
use Rattle.ground_atoms.specs.declared.atom.Atom.TheVariants as atom
use Rattle.ground_atoms.specs.Keys.{Decides-same_row}
use Rattle.ground_atoms.specs.Symbols.{atom_of}
use Rattle.ground_atoms.specs.contracts.atom.AtomPartialEq.TheImpl as atoms
use Rattle.ground_atoms.proofs.Same.{atom_among, atom_place}

value_is : {X : Type 0} (x k : X) → Some x ≡ Some k → x ≡ k
value_is x k h = cc

among : {X : Type 0} (P : X → Type 0) (xs : List X) (n : ℕ) (k : X) → AllByRecursion P xs → slice_get xs n ≡ Some k → P k
among P [] n k all h = absurd cc
among P (x ∷ xs) zero k all h = subst P (value_is x k h) all.0
among P (x ∷ xs) (suc n) k all h = among P xs n k all.1 h

-- one that stands before an equal one isn't equal
not_before : {X : Type 0} (e : X → X → Bool) → ((x y : X) → e x y ≡ true → x ≡ y) → (a x k : X) → e a k ≡ true → e x k ≡ false → (b : Bool) → e a x ≡ b → e a x ≡ false
not_before e is a x k t other false h = h
not_before e is a x k t other true h =
    let both_ways : true ≡ false = sym t ∙ (ap (λ z. e z k) (is a x h) ∙ other) in absurd cc

-- among different ones, one that is equal stands at the first place of such
placed : {X : Type 0} (e : X → X → Bool) → ((x y : X) → e x y ≡ true → x ≡ y) → (a k : X) (xs : List X) (n : ℕ) → IsDistinct e xs → slice_get xs n ≡ Some k → e a k ≡ true → (list_any (e a) xs ≡ true) × (position_or_len (e a) xs ≡ n)
placed e is a k [] n d h t = absurd cc
placed e is a k (x ∷ xs) zero d h t =
    let there : e a x ≡ true = ap (e a) (value_is x k h) ∙ t in (
      ap (λ (b : Bool). b || list_any (e a) xs) there,
      ap (λ (b : Bool). cond (not b) (1 + position_or_len (e a) xs) 0) there,
    )
placed e is a k (x ∷ xs) (suc n) d h t =
    let rest = placed e is a k xs n (IsDistinct-tail e x xs d) h t in
    let other : e x k ≡ false = among (λ y. e x y ≡ false) xs n k (IsDistinct-head e x xs d) h in
    let before : e a x ≡ false = not_before e is a x k t other (e a x) refl in
    let next : 1 + position_or_len (e a) xs ≡ suc n = omega (arith, rest.1) in
    (ap (λ (b : Bool). b || list_any (e a) xs) before ∙ rest.0, ap (λ (b : Bool). cond (not b) (1 + position_or_len (e a) xs) 0) before ∙ next)

-- atoms that the program's test finds equal are one
atom_is : (a b : CodeAtom) → atoms.eq-value.it a b ≡ true → a ≡ b
atom_is (atom.Same a b) (atom.Same x y) h =
    let p = and_parts (nat_eq a x) (nat_eq b y) h in
    let e : a ≡ x = (Decides-eqb a x).0 p.0 in
    let f : b ≡ y = (Decides-eqb b y).0 p.1 in
    ap (λ z. atom.Same z b) e ∙ ap (λ z. atom.Same x z) f
atom_is (atom.Same a b) (atom.Has k r t) h = absurd cc
atom_is (atom.Same a b) (atom.Row r) h = absurd cc
atom_is (atom.Has k r t) (atom.Same a b) h = absurd cc
atom_is (atom.Has k r t) (atom.Has j q u) h =
    let p = and_parts (nat_eq k j) (nat_eq r q && bytes_eq t u) h in
    let s = and_parts (nat_eq r q) (bytes_eq t u) p.1 in
    let e : k ≡ j = (Decides-eqb k j).0 p.0 in
    let f : r ≡ q = (Decides-eqb r q).0 s.0 in
    let g : t ≡ u = (bytes_decides t u).0 s.1 in
    ap (λ z. atom.Has z r t) e ∙ (ap (λ z. atom.Has j z t) f ∙ ap (λ z. atom.Has j q z) g)
atom_is (atom.Has k r t) (atom.Row s) h = absurd cc
atom_is (atom.Row r) (atom.Same a b) h = absurd cc
atom_is (atom.Row r) (atom.Has k q t) h = absurd cc
atom_is (atom.Row r) (atom.Row s) h = ap atom.Row ((Decides-same_row r s).0 h)

pub guess_among : (a k : CodeAtom) (bs : List CodeAtom) (n : ℕ) → IsDistinct atoms.eq-value.it bs → Some k ≡ slice_get bs n → atoms.eq-value.it a k ≡ true → list_any (same_atoms (atom_of a)) (map atom_of bs) ≡ true
guess_among a k bs n d h t = sym (atom_among a bs) ∙ (placed atoms.eq-value.it atom_is a k bs n d (sym h) t).0

pub guess_place : (a k : CodeAtom) (bs : List CodeAtom) (n : ℕ) → IsDistinct atoms.eq-value.it bs → Some k ≡ slice_get bs n → atoms.eq-value.it a k ≡ true → n ≡ position_or_len (same_atoms (atom_of a)) (map atom_of bs)
guess_place a k bs n d h t = sym (placed atoms.eq-value.it atom_is a k bs n d (sym h) t).1 ∙ atom_place a bs
