-- Formulas over numbered atoms, and their truth.
use Rattle.std.specs.Prelude.{ℕ, nat_lt, Bool, true, not, ◌&&◌, ◌||◌, List}
use Rattle.std.specs.List.{list_all}
use Rattle.proof_lines.specs.Clauses.{same_bool}

-- A formula whose atoms are numbers. A literal is an atom, or its negation where it isn't positive.
pub data Numbered : Type 0 where
  known : Bool → Numbered
  literal : (atom : ℕ) → (positive : Bool) → Numbered
  negation : Numbered → Numbered
  conjunction : Numbered → Numbered → Numbered
  disjunction : Numbered → Numbered → Numbered

-- The truth of a formula, where each atom has this truth value.
abbrev pub holds : (ℕ → Bool) → Numbered → Bool
holds v (known b) = b
holds v (literal a s) = same_bool (v a) s
holds v (negation f) = not (holds v f)
holds v (conjunction f g) = holds v f && holds v g
holds v (disjunction f g) = holds v f || holds v g

-- all these formulas are true
abbrev pub all_hold : (ℕ → Bool) → List Numbered → Bool
all_hold v fs = list_all (holds v) fs

-- the atoms of a formula are below a number
abbrev pub is_below : ℕ → Numbered → Bool
is_below n (known b) = true
is_below n (literal a s) = nat_lt a n
is_below n (negation f) = is_below n f
is_below n (conjunction f g) = is_below n f && is_below n g
is_below n (disjunction f g) = is_below n f && is_below n g
