-- What is written of formulas on equality are their clauses.
use Rattle.std.proofs.Common.{◌≡◌, ℕ, ◌+◌, true, ◌∷◌, refl, ap, arith}
use Rattle.ground_numbers.specs.Numbered.{negation, disjunction}
use Rattle.ground_numbers.specs.Clauses.{folded, names_of, clauses_of}
use Rattle.ground_atoms.specs.declared.formula.Places.{Places}
use Rattle.ground_atoms.specs.declared.formula.Places.TheVariants as places
use Rattle.ground_atoms.specs.declared.formula.Agreement.{Agreement}
use Rattle.ground_atoms.specs.declared.formula.Agreement.TheVariants as agreement
use Rattle.ground_atoms.specs.Formulas.{tuples_equal, readings_agree}
use Rattle.clausify.specs.Straight.{differing, agreeing}

no_more : (p : ℕ) → p + 0 ≡ p
no_more p = omega arith

pub congruent_clauses : (p : ℕ) (t : Places) (a : Agreement) (e d m n : ℕ) → clauses_of p (folded true (disjunction (negation (tuples_equal t e d)) (readings_agree a m n))) ≡ differing p t e d ∷ agreeing p a m n
congruent_clauses p places.Only agreement.Relation e d m n = ap (λ (q : ℕ). differing q places.Only e d ∷ agreeing q agreement.Relation m n) (no_more p)
congruent_clauses p places.Only agreement.Counter e d m n = ap (λ (q : ℕ). differing q places.Only e d ∷ agreeing q agreement.Counter m n) (no_more p)
congruent_clauses p places.First agreement.Relation e d m n = ap (λ (q : ℕ). differing q places.First e d ∷ agreeing q agreement.Relation m n) (no_more p)
congruent_clauses p places.First agreement.Counter e d m n = ap (λ (q : ℕ). differing q places.First e d ∷ agreeing q agreement.Counter m n) (no_more p)
congruent_clauses p places.Second agreement.Relation e d m n = ap (λ (q : ℕ). differing q places.Second e d ∷ agreeing q agreement.Relation m n) (no_more p)
congruent_clauses p places.Second agreement.Counter e d m n = ap (λ (q : ℕ). differing q places.Second e d ∷ agreeing q agreement.Counter m n) (no_more p)
congruent_clauses p places.Both agreement.Relation e d m n = ap (λ (q : ℕ). differing q places.Both e d ∷ agreeing q agreement.Relation m n) (no_more p)
congruent_clauses p places.Both agreement.Counter e d m n = ap (λ (q : ℕ). differing q places.Both e d ∷ agreeing q agreement.Counter m n) (no_more p)

pub congruent_names : (t : Places) (a : Agreement) (e d m n : ℕ) → names_of (folded true (disjunction (negation (tuples_equal t e d)) (readings_agree a m n))) ≡ 1
congruent_names places.Only agreement.Relation e d m n = refl
congruent_names places.Only agreement.Counter e d m n = refl
congruent_names places.First agreement.Relation e d m n = refl
congruent_names places.First agreement.Counter e d m n = refl
congruent_names places.Second agreement.Relation e d m n = refl
congruent_names places.Second agreement.Counter e d m n = refl
congruent_names places.Both agreement.Relation e d m n = refl
congruent_names places.Both agreement.Counter e d m n = refl
