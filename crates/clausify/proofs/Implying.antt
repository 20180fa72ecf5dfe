-- The fold of an implication: its premise's negation or its conclusion.
use Rattle.std.proofs.Common.{◌≡◌, Bool, true, false, not, refl, ap, ◌∙◌}
use Rattle.std.specs.Prelude.{Result, Ok, Err, IfOk}
use Rattle.ground_numbers.specs.Numbered.{Numbered, negation, disjunction}
use Rattle.ground_numbers.specs.Clauses.{folded, fold_all, fold_any}
use Rattle.clausify.specs.Formulas.{folded_of}
use Rattle.clausify.specs.declared.bare.Folded.{Folded}

pub implied_folded : {E : Type 0} (s : Bool) (result : Result Folded E) (l r : Folded) (p q : Numbered)
    → folded_of l ≡ folded (not s) p → folded_of r ≡ folded s q
    → (not s ≡ true → IfOk result (λ f. folded_of f ≡ fold_all (folded_of l) (folded_of r)))
    → (not s ≡ false → IfOk result (λ f. folded_of f ≡ fold_any (folded_of l) (folded_of r)))
    → IfOk result (λ f. folded_of f ≡ folded s (disjunction (negation p) q))
implied_folded true (Ok f) l r p q el er all any = any refl ∙ ap (λ x. fold_any x (folded_of r)) el ∙ ap (λ y. fold_any (folded false p) y) er
implied_folded false (Ok f) l r p q el er all any = all refl ∙ ap (λ x. fold_all x (folded_of r)) el ∙ ap (λ y. fold_all (folded true p) y) er
implied_folded true (Err e) l r p q el er all any = tt
implied_folded false (Err e) l r p q el er all any = tt
