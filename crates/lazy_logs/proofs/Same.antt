-- What a look at lines, literals and steps says: that they are the same.
use Rattle.std.proofs.Common.{◌≡◌, ◌&&◌, true, ℕ, suc, ◌<◌, ap, nat_eq, int_eq, arith, List, [], ◌∷◌, length, slice_get, Some, refl}
use Rattle.std.specs.Bool.{Decides, beq}
use Rattle.std.specs.Cmp.{booleans_Decides}
use Rattle.std.proofs.lemmas.Bool.{and_parts, and_from}
use Rattle.std.proofs.lemmas.Bool.Decides.{Decides-int_eq, Decides-eqb}
use Rattle.proof_lines.specs.declared.clause.Lit.{Lit}
use Rattle.proof_lines.specs.declared.line.RowStep.{RowStep}

pub lit_Decides : (a b : Lit) → Decides (nat_eq a.atom b.atom && beq a.positive b.positive) (a ≡ b)
lit_Decides a b = (yes, no_)
  where
    yes : (nat_eq a.atom b.atom && beq a.positive b.positive) ≡ true → a ≡ b
    yes h =
        let both = and_parts (nat_eq a.atom b.atom) (beq a.positive b.positive) h in
        let p = (Decides-eqb a.atom b.atom).0 both.0 in
        let q = (booleans_Decides a.positive b.positive).0 both.1 in
        λ i. record { atom = p i; positive = q i }

    no_ : a ≡ b → (nat_eq a.atom b.atom && beq a.positive b.positive) ≡ true
    no_ e = and_from _ _ ((Decides-eqb a.atom b.atom).1 (ap (λ (t : Lit). t.atom) e)) ((booleans_Decides a.positive b.positive).1 (ap (λ (t : Lit). t.positive) e))

pub step_Decides : (a b : RowStep) → Decides (nat_eq a.left b.left && (int_eq a.first b.first && (nat_eq a.right b.right && int_eq a.second b.second))) (a ≡ b)
step_Decides a b = (yes, no_)
  where
    yes : (nat_eq a.left b.left && (int_eq a.first b.first && (nat_eq a.right b.right && int_eq a.second b.second))) ≡ true → a ≡ b
    yes h =
        let one = and_parts (nat_eq a.left b.left) _ h in
        let two = and_parts (int_eq a.first b.first) _ one.1 in
        let three = and_parts (nat_eq a.right b.right) (int_eq a.second b.second) two.1 in
        let p = (Decides-eqb a.left b.left).0 one.0 in
        let q = (Decides-int_eq a.first b.first).0 two.0 in
        let r = (Decides-eqb a.right b.right).0 three.0 in
        let s = (Decides-int_eq a.second b.second).0 three.1 in
        λ i. record { left = p i; first = q i; right = r i; second = s i }

    no_ : a ≡ b → (nat_eq a.left b.left && (int_eq a.first b.first && (nat_eq a.right b.right && int_eq a.second b.second))) ≡ true
    no_ e =
        and_from _ _ ((Decides-eqb a.left b.left).1 (ap (λ (t : RowStep). t.left) e))
        (and_from _ _ ((Decides-int_eq a.first b.first).1 (ap (λ (t : RowStep). t.first) e))
        (and_from _ _ ((Decides-eqb a.right b.right).1 (ap (λ (t : RowStep). t.right) e)) ((Decides-int_eq a.second b.second).1 (ap (λ (t : RowStep). t.second) e))))

-- two lists with the same elements at all places are the same
pub same_everywhere : {A : Type 0} (xs ys : List A) → length xs ≡ length ys → ((i : ℕ) → i < length xs → slice_get xs i ≡ slice_get ys i) → xs ≡ ys
same_everywhere [] [] l h = refl
same_everywhere [] (y ∷ ys) l h = absurd cc
same_everywhere (x ∷ xs) [] l h = absurd cc
same_everywhere {A} (x ∷ xs) (y ∷ ys) l h =
    let a : x ≡ y = some_is x y (h 0 (omega arith)) in
    let b : xs ≡ ys = same_everywhere xs ys (let e = l in cc) (λ i k. h (suc i) (omega (arith, k))) in
    λ i. a i ∷ b i
  where
    some_is : (u v : A) → Some u ≡ Some v → u ≡ v
    some_is u v e = cc
