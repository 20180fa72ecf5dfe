-- The formulas of an obligation before those on equal readings. It mirrors the code.
use Rattle.std.specs.Prelude.{◌≡◌, ℕ, ◌<◌, Option, Some, None, Result, Ok, Err, IfSome, List, [], ◌++◌, length, map}
use Rattle.spec_core.specs.Specification.{Specification}
use Rattle.obligation_list.specs.declared.obligation.Obligation.{Obligation}
use Rattle.ground_problem.specs.Symbols.{Symbolic}
use Rattle.ground_problem.specs.Constants.{constants_of}
use Rattle.ground_problem.specs.Definitions.{Reading, readings_after}
use Rattle.ground_problem.specs.Equality.{equality}
use Rattle.ground_problem.specs.Problem.{defined, formulas_of, most_formulas}
use Rattle.ground_atoms.specs.Calls.{calls_of}
use Rattle.ground_atoms.specs.Formulas.{form_of}
use Rattle.ground_atoms.specs.Known.{Known}
use Rattle.ground_atoms.specs.Symbols.{reading_of}
use Rattle.ground_groups.specs.Calls.{constants_in, numbered_arguments}
use Rattle.ground_groups.specs.Limited.{make_upto, made_in}
use Rattle.ground_numbers.specs.Numbered.{Numbered}
use Rattle.ground_atoms.proofs.Cutting.{Begins, Grows}
use Rattle.instances.specs.Entry.{invariants_at, IsPart}
use Rattle.instances.specs.declared.entry.EntryPart.{EntryPart}
use Rattle.ground_groups.specs.declared.refused.GroundRefused.{GroundRefused}
use Rattle.ground_groups.specs.declared.refused.GroundRefused.TheVariants.{TooMany, Memory}
use Rattle.lazy_ground.specs.declared.front.Front.{Front}
use Rattle.lazy_ground.specs.declared.front.FrontAndPairs.{FrontAndPairs}
use Rattle.lazy_ground.specs.declared.pairs.ReadingPairs.{ReadingPairs}
use Rattle.lazy_ground.specs.Pairs.{AllNumbered}
use Rattle.ground_groups.specs.declared.grounding.Grounding.{Grounding}
use Rattle.lazy_ground.specs.Kept.{AllBuilt}

-- what is stated and defined, and that equality goes over constants
abbrev pub front_of : Specification → Obligation → List Symbolic
front_of d ob = defined d ob (constants_of d ob) ++ equality 0 (constants_of d ob).sorts

-- the readings at the entry
abbrev pub entry_readings : Specification → Obligation → List Reading
entry_readings d ob = readings_after 0 (defined d ob (constants_of d ob))

-- What is made of the entry stands first in a grounding, so that it can be taken back.
pub record HasPart (d : Specification) (ob : Obligation) (g : Grounding)
    (p : EntryPart) : Type 0 where
  pub known : Known
  pub forms : List Numbered
  pub made : make_upto [] (numbered_arguments d ob) (invariants_at d (constants_of d ob).sorts) ≡ Some (record { known = known; forms = forms })
  pub part : IsPart (numbered_arguments d ob).table.ints known forms p
  pub grows : Grows known g.atoms
  pub begins : Begins forms (map form_of g.formulas)

-- these formulas, made, with the readings that they name
pub record IsFront (d : Specification) (ob : Obligation) (f : Front) : Type 0 where
  pub constants : constants_in f.named ≡ constants_of d ob
  pub calls : f.named.calls ≡ calls_of d ob
  pub readings : map reading_of f.readings ≡ entry_readings d ob
  pub made : make_upto [] (numbered_arguments d ob) (front_of d ob)
      ≡ Some (made_in f.grounding)
  pub shared : IfSome f.part (HasPart d ob f.grounding)

-- pairs of the readings that the front names, with their numbers
abbrev pub ArePairsFor : Front → List ReadingPairs → Type 0
ArePairsFor f ss = AllBuilt (map reading_of f.readings) ss × AllNumbered f.grounding.atoms.table ss

-- They are made, with pairs of their readings, if any; or the whole list has too many.
abbrev pub IsFrontOr : Specification → Obligation → Result FrontAndPairs GroundRefused → Type 0
IsFrontOr d ob (Ok f) = IsFront d ob f.front × IfSome f.pairs (ArePairsFor f.front)
IsFrontOr d ob (Err TooMany) = most_formulas < length (formulas_of d ob)
IsFrontOr d ob (Err Memory) = Unit {0}

-- a count of so many, which stops where there are more than there may be formulas
abbrev pub IsCount : Option ℕ → ℕ → Type 0
IsCount (Some n) all = n ≡ all
IsCount None all = most_formulas < all
