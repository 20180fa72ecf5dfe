-- What the formulas of a program are.
use Rattle.std.specs.Prelude.{ℕ, true, Option, Some, None, List, map}
use Rattle.ground_numbers.specs.Numbered.{Numbered, known, literal, negation, conjunction, disjunction}
use Rattle.ground_atoms.specs.declared.formula.Places.{Places}
use Rattle.ground_atoms.specs.declared.formula.Places.TheVariants as places
use Rattle.ground_atoms.specs.declared.formula.Agreement.{Agreement}
use Rattle.ground_atoms.specs.declared.formula.Agreement.TheVariants as agreement
use Rattle.ground_atoms.specs.declared.formula.GroundFormula.{GroundFormula, Truth, Lit, NotAtom, BothAtoms, AtomImplies, Implied, Congruent, Not', And', Or'}
use Rattle.ground_atoms.specs.declared.call.GroundArg.{GroundArg}
use Rattle.ground_atoms.specs.declared.call.GroundArg.TheVariants as arg

-- two atoms are both true
abbrev pub both_true : ℕ → ℕ → Numbered
both_true m n = conjunction (literal m true) (literal n true)

-- two tuples are equal; where one of two places holds one constant in both, its part is true
abbrev pub tuples_equal : Places → ℕ → ℕ → Numbered
tuples_equal places.Only m n = literal m true
tuples_equal places.First m n = conjunction (literal m true) (known true)
tuples_equal places.Second m n = conjunction (known true) (literal m true)
tuples_equal places.Both m n = both_true m n

-- two readings of a relation are both true or both false; two readings of a counter are at most each other
abbrev pub readings_agree : Agreement → ℕ → ℕ → Numbered
readings_agree agreement.Relation m n =
    conjunction (disjunction (negation (literal m true)) (literal n true))
    (disjunction (literal m true) (negation (literal n true)))
readings_agree agreement.Counter m n = both_true m n

-- a formula, wherever its parts lie in memory
abbrev pub form_of : GroundFormula → Numbered
form_of (Truth b) = known b
form_of (Lit n s) = literal n s
form_of (NotAtom n) = negation (literal n true)
form_of (BothAtoms m n) = both_true m n
form_of (AtomImplies m n) = disjunction (negation (literal m true)) (literal n true)
form_of (Implied k m n) = disjunction (negation (both_true k m)) (literal n true)
form_of (Congruent p a e f m n) =
    disjunction (negation (tuples_equal p e f)) (readings_agree a m n)
form_of (Not' l f) = negation (form_of f)
form_of (And' l f g) = conjunction (form_of f) (form_of g)
form_of (Or' l f g) = disjunction (form_of f) (form_of g)

-- the constant that an argument is, none for a whole number
abbrev pub const_of_arg : GroundArg → Option ℕ
const_of_arg (arg.Elem n) = Some n
const_of_arg (arg.Int n) = None

-- the constants of arguments, none for a whole number
abbrev pub consts_of_args : List GroundArg → List (Option ℕ)
consts_of_args xs = map const_of_arg xs
