-- Folding keeps the truth of a formula.
use Rattle.std.proofs.Common.{◌≡◌, ℕ, Bool, true, false, not, ◌&&◌, ◌||◌, refl, ◌∙◌, arith}
use Rattle.proof_lines.specs.Clauses.{same_bool, lit_true}
use Rattle.ground_numbers.specs.Numbered.{Numbered, known, literal, negation, conjunction, disjunction, holds}
use Rattle.ground_numbers.specs.Clauses.{Normal, lit, all, any, Folded, settled, unsettled, fold_all, fold_any, folded}

-- the truth of a formula without "not" but at its literals
abbrev pub normal_true : (ℕ → Bool) → Normal → Bool
normal_true v (lit l) = lit_true v l
normal_true v (all f g) = normal_true v f && normal_true v g
normal_true v (any f g) = normal_true v f || normal_true v g

abbrev pub folded_true : (ℕ → Bool) → Folded → Bool
folded_true v (settled b) = b
folded_true v (unsettled f) = normal_true v f

and_true : (b : Bool) → b ≡ (b && true)
and_true b = grind arith

and_false : (b : Bool) → false ≡ (b && false)
and_false b = grind arith

or_true : (b : Bool) → true ≡ (b || true)
or_true b = grind arith

or_false : (b : Bool) → b ≡ (b || false)
or_false b = grind arith

fold_all-true : (v : ℕ → Bool) (f g : Folded) → folded_true v (fold_all f g) ≡ (folded_true v f && folded_true v g)
fold_all-true v (settled true) g = refl
fold_all-true v (settled false) g = refl
fold_all-true v (unsettled f) (settled true) = and_true (normal_true v f)
fold_all-true v (unsettled f) (settled false) = and_false (normal_true v f)
fold_all-true v (unsettled f) (unsettled g) = refl

fold_any-true : (v : ℕ → Bool) (f g : Folded) → folded_true v (fold_any f g) ≡ (folded_true v f || folded_true v g)
fold_any-true v (settled true) g = refl
fold_any-true v (settled false) g = refl
fold_any-true v (unsettled f) (settled true) = or_true (normal_true v f)
fold_any-true v (unsettled f) (settled false) = or_false (normal_true v f)
fold_any-true v (unsettled f) (unsettled g) = refl

not_both : (a b x y : Bool) → x ≡ not a → y ≡ not b → (x || y) ≡ not (a && b)
not_both a b x y p q = grind arith

neither : (a b x y : Bool) → x ≡ not a → y ≡ not b → (x && y) ≡ not (a || b)
neither a b x y p q = grind arith

twice : (b : Bool) → b ≡ not (not b)
twice b = grind arith

same-not : (b t : Bool) → same_bool b (not t) ≡ not (same_bool b t)
same-not true t = refl
same-not false t = refl

-- The folded formula is true where the formula is, or its negation where the sign is false.
pub folded-true : (v : ℕ → Bool) (s : Bool) (f : Numbered) → folded_true v (folded s f) ≡ same_bool s (holds v f)
folded-true v s (known b) = refl
folded-true v true (literal a t) = refl
folded-true v false (literal a t) = same-not (v a) t
folded-true v true (negation f) = folded-true v false f
folded-true v false (negation f) = folded-true v true f ∙ twice (holds v f)
folded-true v true (conjunction f g) = fold_all-true v (folded true f) (folded true g) ∙ (let p = folded-true v true f in let q = folded-true v true g in λ i. p i && q i)
folded-true v false (conjunction f g) = fold_any-true v (folded false f) (folded false g) ∙ not_both (holds v f) (holds v g) _ _ (folded-true v false f) (folded-true v false g)
folded-true v true (disjunction f g) = fold_any-true v (folded true f) (folded true g) ∙ (let p = folded-true v true f in let q = folded-true v true g in λ i. p i || q i)
folded-true v false (disjunction f g) = fold_all-true v (folded false f) (folded false g) ∙ neither (holds v f) (holds v g) _ _ (folded-true v false f) (folded-true v false g)
