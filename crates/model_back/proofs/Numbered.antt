-- What has a number in a table stands in its list.
use Rattle.std.proofs.Common.{◌≡◌, true, get_or, sym}
use Rattle.ground_problem.specs.Symbols.{Integer, argument}
use Rattle.ground_numbers.specs.Numbers.{Atom, same_atom, same_atoms, same_integers, Table, has_number, has_integer, number_of, integer_of}
use Rattle.ground_numbers.proofs.Lookups.{passes-there}
use Rattle.ground_numbers.proofs.Sameness.{same_atoms-is, same_integers-is}

abbrev pub no_atom : Atom
no_atom = same_atom 0 0

abbrev pub no_integer : Integer
no_integer = argument 0 0

pub atom-there : (o : Table) (a : Atom) → has_number o a ≡ true → get_or o.atoms (number_of o a) no_atom ≡ a
atom-there o a h = sym (same_atoms-is a _ (passes-there (same_atoms a) o.atoms no_atom h))

pub integer-there : (o : Table) (y : Integer) → has_integer o y ≡ true → get_or o.ints (integer_of o y) no_integer ≡ y
integer-there o y h = sym (same_integers-is y _ (passes-there (same_integers y) o.ints no_integer h))
