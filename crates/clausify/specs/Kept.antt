-- Clauses that are kept for other problems, whose formulas begin with the same ones.
use Rattle.std.specs.Prelude.{◌≡◌, ℕ, ◌+◌, nat_lt, true, cond, List, map}
use Rattle.std.specs.List.{list_all}
use Rattle.proof_lines.specs.declared.clause.Lit.{Lit}
use Rattle.proof_lines.specs.Clauses.{lit_of}
use Rattle.ground_numbers.specs.Numbered.{Numbered, is_below}
use Rattle.ground_numbers.specs.Clauses.{all_names, all_clauses}
use Rattle.clausify.specs.declared.kept.KeptClauses.{KeptClauses}

-- They are the clauses of these formulas, where the first atom that names a part comes behind all atoms of the formulas.
pub record AreClausesOf (fs : List Numbered) (k : KeptClauses) : Type 0 where
  pub below : list_all (is_below k.first) fs ≡ true
  pub names : k.names ≡ all_names fs
  pub clauses : k.clauses ≡ all_clauses k.first fs

-- an atom's number, where the numbers from the first on are raised by so many
abbrev pub number_raised : (first more : ℕ) → ℕ → ℕ
number_raised first more a = cond (nat_lt a first) a (a + more)

-- a literal, where the numbers of atoms from the first on are raised by so many
abbrev pub raised : (first more : ℕ) → Lit → Lit
raised first more l = lit_of (number_raised first more l.atom) l.positive

-- the clauses, where the numbers of atoms from the first on are raised by so many
abbrev pub all_raised : (first more : ℕ) → List (List Lit) → List (List Lit)
all_raised first more cs = map (map (raised first more)) cs
