-- What obligations share whose constants are of the same sorts and whose calls have the same whole numbers among their arguments: the
-- invariants at these constants, made and numbered, and their clauses.
use Rattle.std.specs.Prelude.{◌≡◌, ℕ, true, false, Option, Some, None, Result, Ok, Err, IfSome, List, [], length, map, take}
use Rattle.spec_core.specs.Specification.{Specification}
use Rattle.obligation_list.specs.declared.obligation.Obligation.{Obligation}
use Rattle.ground_problem.specs.Symbols.{Integer, Symbolic}
use Rattle.ground_problem.specs.Constants.{constants_of}
use Rattle.ground_problem.specs.Entry.{entry, invariants_hold}
use Rattle.ground_numbers.specs.Numbered.{Numbered}
use Rattle.ground_atoms.specs.Formulas.{form_of}
use Rattle.ground_atoms.specs.declared.formula.GroundFormula.{GroundFormula}
use Rattle.ground_atoms.specs.Known.{Known}
use Rattle.ground_atoms.specs.Sizes.{size_of, cut_back}
use Rattle.clausify.specs.Kept.{AreClausesOf}
use Rattle.ground_groups.specs.Calls.{numbered_arguments}
use Rattle.ground_groups.specs.Limited.{make_upto, made_in}
use Rattle.ground_groups.specs.declared.refused.GroundRefused.{GroundRefused}
use Rattle.ground_groups.specs.declared.refused.GroundRefused.TheVariants.{TooMany, Memory}
use Rattle.instances.specs.declared.entry.Entry.{Entry}
use Rattle.instances.specs.declared.entry.EntryPart.{EntryPart}
use Rattle.instances.specs.declared.entry.Begun.{Begun}
use Rattle.instances.specs.declared.grounding.Grounded.{Grounded}

-- the invariants, each once for each assignment of constants of these sorts
abbrev pub invariants_at : Specification → List ℕ → List Symbolic
invariants_at d sorts =
    invariants_hold d (record { sorts = sorts; params = []; chosen = []; elements = [] })

-- what is known where these whole numbers alone have numbers
abbrev pub known_from : List Integer → Known
known_from xs = record { table = record { atoms = []; ints = xs }; named = [] }

-- The clauses that are kept are those of the entry's formulas, which stand first among these.
abbrev pub HasClausesOf : List Numbered → EntryPart → Type 0
HasClausesOf fs p = AreClausesOf (take p.size.formulas fs) p.clauses

-- Cut back to its size, it is what the invariants at its constants make; what was appended since doesn't count.
pub record IsEntry (d : Specification) (e : Entry) : Type 0 where
  pub made : make_upto [] (known_from (take e.part.size.arguments e.atoms.table.ints))
      (invariants_at d e.sorts)
      ≡ Some (record {
        known = cut_back e.part.size.known e.atoms;
        forms = take e.part.size.formulas (map form_of e.formulas);
      })
  pub clauses : HasClausesOf (map form_of e.formulas) e.part

-- a part of this size, with the clauses of these formulas, which are all that there are
pub record IsPart (ints : List Integer) (k : Known) (fs : List Numbered)
    (p : EntryPart) : Type 0 where
  pub arguments : p.size.arguments ≡ length ints
  pub known : p.size.known ≡ size_of k
  pub formulas : p.size.formulas ≡ length fs
  pub clauses : AreClausesOf fs p.clauses

-- The invariants at constants of these sorts, made of what is known, with the size of all that.
pub record IsShared (d : Specification) (k : Known) (sorts : List ℕ) (b : Begun) : Type 0 where
  pub made : make_upto [] k (invariants_at d sorts) ≡ Some (made_in b.grounding)
  pub part : IfSome b.part
      (IsPart k.table.ints b.grounding.atoms (map form_of b.grounding.formulas))

-- They are made, or they have too many formulas.
abbrev pub IsSharedOr : Specification → Known → List ℕ → Result Begun GroundRefused → Type 0
IsSharedOr d k sorts (Ok b) = IsShared d k sorts b
IsSharedOr d k sorts (Err TooMany) = make_upto [] k (invariants_at d sorts) ≡ None
IsSharedOr d k sorts (Err Memory) = Unit {0}

-- What is true at the entry of an obligation, made; in the initial state nothing is asked, and nothing is shared.
pub record IsBegun (d : Specification) (ob : Obligation) (b : Begun) : Type 0 where
  pub made : make_upto [] (numbered_arguments d ob) (entry d ob (constants_of d ob))
      ≡ Some (made_in b.grounding)
  pub shared : IfSome b.part (λ p.
      (entry d ob (constants_of d ob) ≡ invariants_at d (constants_of d ob).sorts)
      × IsPart (numbered_arguments d ob).table.ints b.grounding.atoms
      (map form_of b.grounding.formulas) p)

-- There is one, or what is true at the entry has too many formulas.
abbrev pub IsBegunOr : Specification → Obligation → Result Begun GroundRefused → Type 0
IsBegunOr d ob (Ok b) = IsBegun d ob b
IsBegunOr d ob (Err TooMany) =
    make_upto [] (numbered_arguments d ob) (entry d ob (constants_of d ob)) ≡ None
IsBegunOr d ob (Err Memory) = Unit {0}

-- Where it was cut back, what is known is what was known when the entry that was kept had been made.
abbrev pub IsCutBack : Option Entry → Begun → Type 0
IsCutBack (Some e) b = b.is_cut ≡ true → b.grounding.atoms ≡ cut_back e.part.size.known e.atoms
IsCutBack None b = b.is_cut ≡ false

-- the entry in what was made of it and more
abbrev pub entry_with : List ℕ → Known → List GroundFormula → EntryPart → Entry
entry_with sorts atoms formulas p =
    record { sorts = sorts; atoms = atoms; formulas = formulas; part = p }

-- a ground problem from which its entry can be taken back
abbrev pub HasEntry : Specification → Grounded → Type 0
HasEntry d g = IfSome g.part (λ p. IsEntry d (entry_with g.consts g.atoms g.formulas p))

-- the clauses that it keeps, if any, are those of its first formulas
abbrev pub HasEntryClauses : Grounded → Type 0
HasEntryClauses g = IfSome g.part (HasClausesOf (map form_of g.formulas))
