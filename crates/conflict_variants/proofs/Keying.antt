-- Operations with keyed takes lines, one by one.
use Rattle.std.proofs.Common.{◌≡◌, ℕ, zero, suc, ◌+◌, ◌<◌, List, [], ◌∷◌, ◌++◌, length, get_or, take, sym, ◌∙◌, ap, subst, arith}
use Rattle.spec_core.specs.declared.operation.Operation.{Operation}
use Rattle.conflict_variants.specs.Takes.{with_takes}
use Rattle.spec_core.specs.declared.spec.Token.{Token}
use Rattle.spec_core.specs.declared.spec.Rule.{Rule}
use Rattle.spec_core.specs.Specification.{Specification}
use Rattle.conflict_variants.specs.Bare.{with_tokens}
use Rattle.conflict_variants.specs.Keyed.{keyed_takes, keyed_from, key_sort, keyed_token, keyed_rule, first_name, second_name, keyed}

at_suc : (a p b q : ℕ) (o : Operation) (m n : ℕ) → m ≡ n → with_takes o (keyed_takes a p b q m) ∷ [] ≡ with_takes o (keyed_takes a p b q n) ∷ []
at_suc a p b q o m n e = ap (λ k. with_takes o (keyed_takes a p b q k) ∷ []) e

-- one operation more
pub keyed_more : (a p b q n : ℕ) (os : List Operation) (i : ℕ) (o : Operation) → i < length os
    → keyed_from a p b q n (take (i + 1) os) ≡ keyed_from a p b q n (take i os) ++ (with_takes (get_or os i o) (keyed_takes a p b q (n + i)) ∷ [])
keyed_more a p b q n os i o lt = ap (λ m. keyed_from a p b q n (take m os)) (let e : i + 1 ≡ suc i = omega arith in e) ∙ more n os i lt
  where
    more : (n : ℕ) (os : List Operation) (i : ℕ) → i < length os → keyed_from a p b q n (take (suc i) os) ≡ keyed_from a p b q n (take i os) ++ (with_takes (get_or os i o) (keyed_takes a p b q (n + i)) ∷ [])
    more n [] i lt = absurd (omega (arith, lt))
    more n (x ∷ xs) zero lt = at_suc a p b q x n (n + 0) (omega arith)
    more n (x ∷ xs) (suc i) lt =
        ap (λ os. with_takes x (keyed_takes a p b q n) ∷ os) (more (suc n) xs i (omega (arith, lt)) ∙ ap (λ os. keyed_from a p b q (suc n) (take i xs) ++ os) (at_suc a p b q (get_or xs i o) (suc n + i) (n + suc i) (omega arith)))

-- the same from the first operation on
pub keyed_next : (a p b q : ℕ) (os : List Operation) (i : ℕ) (o : Operation) → i < length os
    → keyed_from a p b q 0 (take (i + 1) os) ≡ keyed_from a p b q 0 (take i os) ++ (with_takes (get_or os i o) (keyed_takes a p b q i) ∷ [])
keyed_next a p b q os i o lt = keyed_more a p b q 0 os i o lt ∙ ap (λ ls. keyed_from a p b q 0 (take i os) ++ ls) (at_suc a p b q (get_or os i o) (0 + i) i (omega arith))

-- one that was added
pub keyed_added : (a p b q : ℕ) (os : List Operation) (i : ℕ) (o : Operation) (before after : List Operation) (item : Operation) → i < length os → o ≡ get_or os i o
    → before ≡ keyed_from a p b q 0 (take i os) → item ≡ with_takes o (keyed_takes a p b q i) → after ≡ before ++ item ∷ [] → after ≡ keyed_from a p b q 0 (take (i + 1) os)
keyed_added a p b q os i o before after item lt here e f g =
    g ∙ (λ j. e j ++ (f ∙ ap (λ x. with_takes x (keyed_takes a p b q i)) here) j ∷ []) ∙ sym (keyed_next a p b q os i o lt)

-- the same of a list that is those operations
pub keyed_added_in : (a p b q : ℕ) (items os : List Operation) → items ≡ os → (i : ℕ) (o : Operation) (before after : List Operation) (item : Operation) → i < length items → o ≡ get_or items i o
    → before ≡ keyed_from a p b q 0 (take i os) → item ≡ with_takes o (keyed_takes a p b q i) → after ≡ before ++ item ∷ [] → after ≡ keyed_from a p b q 0 (take (i + 1) os)
keyed_added_in a p b q items os same i o before after item lt here e f g =
    keyed_added a p b q os i o before after item (subst (λ (l : List Operation). i < length l) same lt) (subst (λ (l : List Operation). o ≡ get_or l i o) same here) e f g

-- the parts of a keyed specification
pub keyed_made : (d : Specification) (a p b q s : ℕ) (ts : List Token) (rs : List Rule) (os : List Operation) → s ≡ key_sort d a p
    → ts ≡ keyed_token (first_name d) s ∷ keyed_token (second_name d) s ∷ [] → rs ≡ keyed_rule ∷ [] → os ≡ keyed_from a p b q 0 d.operations → with_tokens d ts rs os ≡ keyed d a p b q
keyed_made d a p b q s ts rs os e f g h =
    λ i. with_tokens d ((f ∙ ap (λ n. keyed_token (first_name d) n ∷ keyed_token (second_name d) n ∷ []) e) i) (g i) (h i)
