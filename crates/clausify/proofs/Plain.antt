-- A bare formula is folded as it stands, and a plain one is bare.
use Rattle.std.proofs.Common.{◌≡◌, Bool, true, false, not, refl, sym, ap}
use Rattle.std.proofs.lemmas.Bool.{and_parts, and_from}
use Rattle.ground_numbers.specs.Numbered.{Numbered, known, literal, negation, conjunction, disjunction}
use Rattle.ground_numbers.specs.Clauses.{unsettled, fold_all, fold_any, folded}
use Rattle.ground_atoms.specs.Formulas.{form_of}
use Rattle.ground_atoms.specs.declared.formula.GroundFormula.{GroundFormula, Truth, Lit, NotAtom, BothAtoms, AtomImplies, Implied, Congruent, Not', And', Or'}
use Rattle.clausify.specs.Formulas.{is_bare, is_plain, normal}

-- folding keeps a bare formula, but for "not"
folded-bare : (s : Bool) (f : Numbered) → is_bare f ≡ true → folded s f ≡ unsettled (normal s f)
folded-bare s (known b) h = absurd cc
folded-bare s (literal a t) h = refl
folded-bare s (negation f) h = folded-bare (not s) f h
folded-bare true (conjunction f g) h = (let p = and_parts (is_bare f) (is_bare g) h in let a = folded-bare true f p.0 in let b = folded-bare true g p.1 in λ i. fold_all (a i) (b i))
folded-bare false (conjunction f g) h = (let p = and_parts (is_bare f) (is_bare g) h in let a = folded-bare false f p.0 in let b = folded-bare false g p.1 in λ i. fold_any (a i) (b i))
folded-bare true (disjunction f g) h = (let p = and_parts (is_bare f) (is_bare g) h in let a = folded-bare true f p.0 in let b = folded-bare true g p.1 in λ i. fold_any (a i) (b i))
folded-bare false (disjunction f g) h = (let p = and_parts (is_bare f) (is_bare g) h in let a = folded-bare false f p.0 in let b = folded-bare false g p.1 in λ i. fold_all (a i) (b i))

plain-bare : (f : GroundFormula) → is_plain f ≡ true → is_bare (form_of f) ≡ true
plain-bare (Truth b) h = absurd cc
plain-bare (Lit n s) h = refl
plain-bare (NotAtom n) h = refl
plain-bare (BothAtoms m n) h = refl
plain-bare (AtomImplies m n) h = refl
plain-bare (Implied k m n) h = absurd cc
plain-bare (Congruent p a e g m n) h = absurd cc
plain-bare (Not' l f) h = plain-bare f h
plain-bare (And' l f g) h = (let p = and_parts (is_plain f) (is_plain g) h in and_from (is_bare (form_of f)) (is_bare (form_of g)) (plain-bare f p.0) (plain-bare g p.1))
plain-bare (Or' l f g) h = (let p = and_parts (is_plain f) (is_plain g) h in and_from (is_bare (form_of f)) (is_bare (form_of g)) (plain-bare f p.0) (plain-bare g p.1))

-- folding keeps a plain formula, but for "not"
pub folded-plain : (f : GroundFormula) → is_plain f ≡ true → folded true (form_of f) ≡ unsettled (normal true (form_of f))
folded-plain f h = folded-bare true (form_of f) (plain-bare f h)

-- so "or" with a plain formula is folded by what is left of the other part
pub folded_beside : (f : Numbered) (g : GroundFormula) → is_plain g ≡ true → fold_any (folded true f) (unsettled (normal true (form_of g))) ≡ folded true (disjunction f (form_of g))
folded_beside f g h = ap (fold_any (folded true f)) (sym (folded-plain g h))
