-- Formulas without truth values, and what is left of a formula once its truth values are folded.
use Rattle.std.specs.Prelude.{Bool, true, false, not, ◌&&◌}
use Rattle.proof_lines.specs.Clauses.{same_bool, lit_of}
use Rattle.ground_numbers.specs.Numbered.{Numbered, known, literal, negation, conjunction, disjunction}
use Rattle.ground_numbers.specs.Clauses.{Normal, lit, all, any, Folded, settled, unsettled}
use Rattle.ground_atoms.specs.Formulas.{form_of}
use Rattle.ground_atoms.specs.declared.formula.GroundFormula.{GroundFormula, Truth, Lit, NotAtom, BothAtoms, AtomImplies, Implied, Congruent, Not', And', Or'}
use Rattle.clausify.specs.declared.bare.Folded.{Folded as CodeFolded}
use Rattle.clausify.specs.declared.bare.Folded.TheVariants as code

-- Whether a formula is bare: no part of it is a truth value.
abbrev pub is_bare : Numbered → Bool
is_bare (known b) = false
is_bare (literal a t) = true
is_bare (negation f) = is_bare f
is_bare (conjunction f g) = is_bare f && is_bare g
is_bare (disjunction f g) = is_bare f && is_bare g

-- A bare formula, or its negation where the sign is false, with "not" at its literals alone. A truth value has no such form.
abbrev pub normal : Bool → Numbered → Normal
normal s (known b) = lit (lit_of 0 b)
normal s (literal a t) = lit (lit_of a (same_bool s t))
normal s (negation f) = normal (not s) f
normal true (conjunction f g) = all (normal true f) (normal true g)
normal false (conjunction f g) = any (normal false f) (normal false g)
normal true (disjunction f g) = any (normal true f) (normal true g)
normal false (disjunction f g) = all (normal false f) (normal false g)

-- what the code has of a folded formula
abbrev pub folded_of : CodeFolded → Folded
folded_of (code.Settled b) = settled b
folded_of (code.Unsettled f) = unsettled (normal true (form_of f))

-- Whether a formula is plain: it is bare, and each of its parts stands apart in memory.
abbrev pub is_plain : GroundFormula → Bool
is_plain (Truth b) = false
is_plain (Lit n s) = true
is_plain (NotAtom n) = true
is_plain (BothAtoms m n) = true
is_plain (AtomImplies m n) = true
is_plain (Implied k m n) = false
is_plain (Congruent p a e f m n) = false
is_plain (Not' l f) = is_plain f
is_plain (And' l f g) = is_plain f && is_plain g
is_plain (Or' l f g) = is_plain f && is_plain g

-- Whether a formula that isn't settled is plain.
abbrev pub is_plain_if_unsettled : CodeFolded → Bool
is_plain_if_unsettled (code.Settled b) = true
is_plain_if_unsettled (code.Unsettled f) = is_plain f
