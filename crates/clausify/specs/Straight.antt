-- The clauses of formulas on equality, as a program writes them.
use Rattle.std.specs.Prelude.{ℕ, true, false, List, [], ◌∷◌}
use Rattle.proof_lines.specs.declared.clause.Lit.{Lit}
use Rattle.proof_lines.specs.Clauses.{join, lit_of}
use Rattle.ground_atoms.specs.declared.formula.Places.{Places}
use Rattle.ground_atoms.specs.declared.formula.Places.TheVariants as places
use Rattle.ground_atoms.specs.declared.formula.Agreement.{Agreement}
use Rattle.ground_atoms.specs.declared.formula.Agreement.TheVariants as agreement

-- two tuples differ, or the atom p is true
abbrev pub differing : ℕ → Places → ℕ → ℕ → List Lit
differing p places.Only m n = join [] (lit_of m false ∷ lit_of p true ∷ [])
differing p places.First m n = join [] (lit_of m false ∷ lit_of p true ∷ [])
differing p places.Second m n = join [] (lit_of m false ∷ lit_of p true ∷ [])
differing p places.Both m n = join [] (lit_of m false ∷ lit_of n false ∷ lit_of p true ∷ [])

-- two readings are one where the atom p is true
abbrev pub agreeing : ℕ → Agreement → ℕ → ℕ → List (List Lit)
agreeing p agreement.Relation m n =
    join [] (lit_of p false ∷ lit_of m false ∷ lit_of n true ∷ [])
    ∷ join [] (lit_of p false ∷ lit_of m true ∷ lit_of n false ∷ [])
    ∷ []
agreeing p agreement.Counter m n =
    join [] (lit_of p false ∷ lit_of m true ∷ [])
    ∷ join [] (lit_of p false ∷ lit_of n true ∷ [])
    ∷ []
