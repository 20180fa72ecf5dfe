-- What a numbering knows: the table of numbers, and the readings that have been named, in the order in which they first were.
use Rattle.std.specs.Prelude.{Bool, cond, List, [], ◌∷◌, ◌++◌}
use Rattle.spec_core.specs.declared.update.Thing.TheVariants as thing
use Rattle.ground_problem.specs.Symbols.{Integer}
use Rattle.ground_problem.specs.Definitions.{Reading, reading_of_integer}
use Rattle.ground_numbers.specs.Numbers.{Atom, same_atom, has_atom, row_atom, Table, has_number, has_integer, with_atom, with_integer}

-- the table of numbers, and the readings named so far
pub record Known : Type 0 where
  pub table : Table
  pub named : List Reading

-- nothing has a number yet
abbrev pub nothing : Known
nothing = record { table = record { atoms = []; ints = [] }; named = [] }

-- the reading that an atom stands for, if it stands for one
abbrev pub reading_of_atom : Atom → List Reading
reading_of_atom (same_atom a b) = []
reading_of_atom (has_atom k r t) = record { stage = k; thing = thing.Relation r; tuple = t } ∷ []
reading_of_atom (row_atom r) = []

-- the readings with those that are new, unless what names them was there
abbrev pub unless_known : Bool → List Reading → List Reading → List Reading
unless_known known named qs = cond known named (named ++ qs)

-- An atom is known: it has a number, and its reading is named.
abbrev pub know_atom : Known → Atom → Known
know_atom k a = record {
  table = with_atom k.table a;
  named = unless_known (has_number k.table a) k.named (reading_of_atom a);
}

-- A name of a whole number is known: it has a number, and its reading, if it is one, is named.
abbrev pub know_integer : Known → Integer → Known
know_integer k x = record {
  table = with_integer k.table x;
  named = unless_known (has_integer k.table x) k.named (reading_of_integer x);
}
