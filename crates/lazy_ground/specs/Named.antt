-- Readings of relations, and what the formulas of their pairs name. It mirrors the code.
use Rattle.std.specs.Prelude.{◌≡◌, ℕ, ltb, true, Bool, ◌&&◌, List, [], ◌∷◌, map}
use Rattle.std.specs.List.{list_all}
use Rattle.std.specs.Ordering.{nat_cmp, is_lt}
use Rattle.std.specs.Cmp.Lexicographic.{slice_cmp}
use Rattle.spec_core.specs.declared.update.Thing.{Thing}
use Rattle.ground_problem.specs.Symbols.{Symbolic}
use Rattle.ground_problem.specs.Definitions.{Reading}
use Rattle.ground_numbers.specs.Numbers.{Table, naming_all}
use Rattle.ground_atoms.specs.Known.{Known}
use Rattle.ground_atoms.specs.Making.{make}
use Rattle.lazy_ground.specs.declared.pairs.ReadingPairs.{ReadingPairs}
use Rattle.lazy_ground.specs.Equal.{all_known, fits}
use Rattle.lazy_ground.specs.Pairs.{pairs_of, AreDifferent, HasAtoms, readings_known, AreNumbers, AllNumbered}
use Rattle.lazy_ground.specs.Kept.{thing_of, IsBuilt, AllBuilt}

-- a tuple is before the first of these, and each of these before the next
abbrev pub rise_from : List ℕ → List (List ℕ) → Bool
rise_from t [] = true
rise_from t (u ∷ us) = is_lt (slice_cmp nat_cmp t u) && rise_from u us

-- each tuple is before the next
abbrev pub all_rise : List (List ℕ) → Bool
all_rise [] = true
all_rise (t ∷ ts) = rise_from t ts

-- what is known once these formulas are made, in their order
abbrev pub known_after : Known → List Symbolic → Known
known_after k [] = k
known_after k (f ∷ fs) = known_after (make k f).known fs

-- the tuples are different, their readings have these numbers, and the formulas of their pairs name nothing new
pub record IsNamed (o : Table) (s : ReadingPairs) : Type 0 where
  pub different : AreDifferent s.tuples
  pub atoms : HasAtoms o s
  pub known : readings_known o s.relation s.tuples ≡ true
  pub names : naming_all o (pairs_of s) ≡ o

-- the tuples are different, their constants stand in these columns, and their readings have these numbers
pub record AreNumbersOfPairs (o : Table) (r : ℕ) (ts columns : List (List ℕ)) (ns : List ℕ) : Type 0 where
  pub different : AreDifferent ts
  pub numbers : AreNumbers o r ts ns
  pub fit : list_all (fits columns) ts ≡ true

-- the pairs of a relation's tuples, with the numbers of its readings
pub record ArePairsAt (o : Table) (r : ℕ) (ts : List (List ℕ)) (s : ReadingPairs) : Type 0 where
  pub relation : s.relation ≡ r
  pub tuples : s.tuples ≡ ts
  pub built : AreNumbersOfPairs o s.relation s.tuples s.columns s.atoms

-- a thing's pairs, with the numbers of its readings
pub record ArePairsOf (o : Table) (qs : List Reading) (x : Thing) (s : ReadingPairs) : Type 0 where
  pub thing : thing_of s ≡ x
  pub built : IsBuilt qs s
  pub numbers : AreNumbers o s.relation s.tuples s.atoms

-- so it is with each of these
abbrev pub AllNamed : Table → List ReadingPairs → Type 0
AllNamed o [] = Unit {0}
AllNamed o (s ∷ more) = IsNamed o s × AllNamed o more

-- the equalities of each two constants of each relation's columns have numbers
abbrev pub columns_known : Table → List ReadingPairs → Bool
columns_known o ss = list_all (λ s. list_all (all_known o) s.columns) ss

-- the numbers of each relation's readings are below a count
abbrev pub numbers_below : ℕ → List ReadingPairs → Bool
numbers_below n ss = list_all (λ s. list_all (λ m. ltb m n) s.atoms) ss

-- the tuples of each relation fit its columns
abbrev pub AllFit : List ReadingPairs → Type 0
AllFit [] = Unit {0}
AllFit (s ∷ more) = (list_all (fits s.columns) s.tuples ≡ true) × AllFit more

-- they stand for the formulas on equal readings of these things, which have their numbers
pub record AreFound (o : Table) (qs : List Reading) (xs : List Thing) (ss : List ReadingPairs) : Type 0 where
  pub things : map thing_of ss ≡ xs
  pub built : AllBuilt qs ss
  pub numbered : AllNumbered o ss
