-- Every two readings of a relation at the entry, told by their tuples.
use Rattle.std.specs.Prelude.{◌≡◌, ℕ, true, Bool, List, [], ◌∷◌, length, map}
use Rattle.std.specs.List.{list_all}
use Rattle.spec_core.specs.declared.update.Thing.TheVariants as thing
use Rattle.ground_problem.specs.Symbols.{Symbolic}
use Rattle.ground_problem.specs.Equality.{congruent_pairs}
use Rattle.ground_numbers.specs.Numbered.{Numbered}
use Rattle.ground_numbers.specs.Numbers.{Table, has_atom, has_number, number_of, numbered}
use Rattle.lazy_ground.specs.declared.pairs.ReadingPairs.{ReadingPairs}

-- where two of the tuples are equal, the relation holds of both or of neither
abbrev pub pairs_of : ReadingPairs → List Symbolic
pairs_of s = congruent_pairs (thing.Relation s.relation) s.tuples

-- the same over the numbers of a table
abbrev pub pair_forms : Table → ReadingPairs → List Numbered
pair_forms o s = map (numbered o) (pairs_of s)

-- a tuple is as long as each of these, and is none of them
abbrev pub DiffersFrom : List ℕ → List (List ℕ) → Type 0
DiffersFrom t [] = Unit {0}
DiffersFrom t (u ∷ us) = (length t ≡ length u) × (t ≡ u → ⊥) × DiffersFrom t us

-- tuples of one length, no two of which are the same
abbrev pub AreDifferent : List (List ℕ) → Type 0
AreDifferent [] = Unit {0}
AreDifferent (t ∷ ts) = DiffersFrom t ts × AreDifferent ts

-- the readings of these tuples have these numbers
abbrev pub HasAtoms : Table → ReadingPairs → Type 0
HasAtoms o s = s.atoms ≡ map (λ t. number_of o (has_atom [] s.relation t)) s.tuples

-- the relation's readings at these tuples have numbers
abbrev pub readings_known : Table → ℕ → List (List ℕ) → Bool
readings_known o r ts = list_all (λ t. has_number o (has_atom [] r t)) ts

-- these are the numbers of the relation's readings at the tuples
pub record AreNumbers (o : Table) (r : ℕ) (ts : List (List ℕ)) (ns : List ℕ) : Type 0 where
  pub known : readings_known o r ts ≡ true
  pub numbers : ns ≡ map (λ t. number_of o (has_atom [] r t)) ts

-- the readings of each of these have their numbers
abbrev pub AllNumbered : Table → List ReadingPairs → Type 0
AllNumbered o [] = Unit {0}
AllNumbered o (s ∷ more) = AreNumbers o s.relation s.tuples s.atoms × AllNumbered o more
