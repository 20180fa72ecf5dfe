-- What the atoms, integer names, readings and parts of a program stand for.
use Rattle.std.specs.Prelude.{ℕ, zero, suc, List, map}
use Rattle.ground_problem.specs.Symbols.{Integer, argument, reading, partial, Part, number, multiple}
use Rattle.ground_problem.specs.Definitions.{Reading}
use Rattle.ground_numbers.specs.Numbers.{Atom, same_atom, has_atom, row_atom}
use Rattle.ground_numbers.specs.Stages.{stage_of}
use Rattle.ground_atoms.specs.declared.atom.Atom.{Atom as CodeAtom}
use Rattle.ground_atoms.specs.declared.atom.Atom.TheVariants as atom
use Rattle.ground_atoms.specs.declared.atom.IntName.{IntName}
use Rattle.ground_atoms.specs.declared.atom.IntName.TheVariants as name
use Rattle.ground_atoms.specs.declared.atom.NamedReading.{NamedReading}
use Rattle.ground_atoms.specs.declared.part.SumPart.{SumPart}
use Rattle.ground_atoms.specs.declared.part.SumPart.TheVariants as part

-- the atom that a program holds
abbrev pub atom_of : CodeAtom → Atom
atom_of (atom.Same a b) = same_atom a b
atom_of (atom.Has k r t) = has_atom (stage_of k) r t
atom_of (atom.Row r) = row_atom r

-- a counter's reading, or what its first so many updates leave of it
abbrev pub count_of : ℕ → ℕ → ℕ → List ℕ → Integer
count_of k zero c t = reading (stage_of k) c t
count_of k (suc n) c t = partial (suc n) (stage_of k) c t

-- the name of a whole number that a program holds
abbrev pub integer_of : IntName → Integer
integer_of (name.Count k n c t) = count_of k n c t
integer_of (name.Arg c p) = argument c p

-- the reading that a program holds
abbrev pub reading_of : NamedReading → Reading
reading_of r = record { stage = stage_of r.stage; thing = r.thing; tuple = r.tuple }

-- a summand
abbrev pub part_of : SumPart → Part
part_of (part.Number n) = number n
part_of (part.Multiple k x) = multiple k (integer_of x)

-- the sum that a program holds
abbrev pub parts_of : List SumPart → List Part
parts_of ps = map part_of ps
