-- What of an obligation's ground problem serves the next one: the entry, and the pairs, as long as that one goes on from the same entry and
-- has the same readings at it.
use Rattle.std.specs.Prelude.{◌≡◌, true, Option, Some, None, IfSome, List, [], ◌∷◌, map}
use Rattle.std.specs.List.{list_all, filter}
use Rattle.spec_core.specs.Specification.{Specification}
use Rattle.spec_core.specs.declared.update.Thing.{Thing}
use Rattle.spec_core.specs.declared.update.Thing.TheVariants as thing
use Rattle.effectors.specs.Effect.{is_thing}
use Rattle.ground_problem.specs.Definitions.{Reading}
use Rattle.ground_problem.specs.Equality.{rising}
use Rattle.ground_atoms.specs.Formulas.{form_of}
use Rattle.ground_atoms.specs.Symbols.{reading_of}
use Rattle.instances.specs.Entry.{HasClausesOf, IsEntry, entry_with, HasEntry}
use Rattle.instances.specs.declared.entry.Entry.{Entry}
use Rattle.lazy_ground.specs.declared.pairs.ReadingPairs.{ReadingPairs}
use Rattle.lazy_ground.specs.declared.keeping.KeptPairs.{KeptPairs}
use Rattle.lazy_ground.specs.declared.completing.WholeGround.{WholeGround}
use Rattle.lazy_ground.specs.declared.grounding.LazyGround.{LazyGround}
use Rattle.lazy_ground.specs.declared.grounding.EitherGround.{EitherGround}
use Rattle.lazy_ground.specs.declared.grounding.EitherGround.TheVariants.{Whole, Lazy, TooMany}
use Rattle.lazy_ground.specs.declared.grounding.Kept.{Kept}
use Rattle.lazy_ground.specs.Equal.{fits}
use Rattle.lazy_ground.specs.Pairs.{AreDifferent, AllNumbered}

-- the relation whose readings they are
abbrev pub thing_of : ReadingPairs → Thing
thing_of s = thing.Relation s.relation

-- the tuples of its relation among these readings, which are different, and whose constants stand in its columns
pub record IsBuilt (qs : List Reading) (s : ReadingPairs) : Type 0 where
  pub tuples : s.tuples ≡ rising (filter (λ q. is_thing q.thing (thing_of s)) qs)
  pub different : AreDifferent s.tuples
  pub columns : list_all (fits s.columns) s.tuples ≡ true

-- so it is with each of these
abbrev pub AllBuilt : List Reading → List ReadingPairs → Type 0
AllBuilt qs [] = Unit {0}
AllBuilt qs (s ∷ more) = IsBuilt qs s × AllBuilt qs more

-- the pairs of these readings
abbrev pub IsKeptPairs : KeptPairs → Type 0
IsKeptPairs k = AllBuilt (map reading_of k.readings) k.pairs

-- their readings have the numbers that stand in the pairs, where what the entry's numbers are is kept too
abbrev pub HaveNumbers : Option Entry → Option KeptPairs → Type 0
HaveNumbers (Some e) (Some k) = AllNumbered e.atoms.table k.pairs
HaveNumbers (Some e) None = Unit {0}
HaveNumbers None kept = Unit {0}

-- What is kept for the next obligation: an entry of the specification, and pairs of readings with their numbers.
pub record IsKept (d : Specification) (k : Kept) : Type 0 where
  pub entry : IfSome k.entry (IsEntry d)
  pub pairs : IfSome k.pairs IsKeptPairs
  pub numbers : HaveNumbers k.entry k.pairs

-- The entry can be taken back from a lazy problem, and its pairs are those of its readings, with their numbers.
pub record HasLazyKept (d : Specification) (g : LazyGround) : Type 0 where
  pub entry : IfSome g.part (λ p. IsEntry d (entry_with g.sorts g.atoms g.front p))
  pub pairs : IsKeptPairs (record { readings = g.readings; pairs = g.pairs })
  pub numbers : AllNumbered g.atoms.table g.pairs

-- a problem from which that can be taken back; from a whole one its entry alone, and where there are too many formulas what is there
abbrev pub HasKept : Specification → EitherGround → Type 0
HasKept d (Whole g) = HasEntry d g
HasKept d (Lazy g) = HasLazyKept d g
HasKept d (TooMany k) = IsKept d k

-- The entry can be taken back from a lazy problem that was completed, and its pairs are those of its readings, with their numbers.
pub record HasWholeKept (d : Specification) (w : WholeGround) : Type 0 where
  pub entry : HasEntry d w.ground
  pub pairs : IsKeptPairs w.pairs
  pub numbers : AllNumbered w.ground.atoms.table w.pairs.pairs

-- the clauses that it keeps, if any, are those of its first formulas
abbrev pub HasClauses : LazyGround → Type 0
HasClauses g = IfSome g.part (HasClausesOf (map form_of g.front))

-- so it is with a lazy problem; else nothing is said
abbrev pub HasEitherClauses : EitherGround → Type 0
HasEitherClauses (Whole g) = Unit {0}
HasEitherClauses (Lazy g) = HasClauses g
HasEitherClauses (TooMany k) = Unit {0}
