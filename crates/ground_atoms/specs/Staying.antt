-- What stays so where a numbering grows: each number that was given.
use Rattle.std.specs.Prelude.{◌≡◌, List, ◌++◌}
use Rattle.ground_atoms.specs.Known.{Known}

-- a list is another one and some more
pub record Begins {A : Type 0} (xs ys : List A) : Type 0 where
  pub more : List A
  pub is : ys ≡ xs ++ more

-- The atoms and the integer names that had numbers stand where they stood; new ones stand behind them.
pub record NumbersStay (old new : Known) : Type 0 where
  pub atoms : Begins old.table.atoms new.table.atoms
  pub ints : Begins old.table.ints new.table.ints

-- What is known begins with what was known: numbers stay, and readings that were named.
pub record Grows (k l : Known) : Type 0 where
  pub atoms : Begins k.table.atoms l.table.atoms
  pub ints : Begins k.table.ints l.table.ints
  pub named : Begins k.named l.named
