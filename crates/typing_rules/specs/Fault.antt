-- What is wrong with a tree, and at which word.
use Rattle.std.specs.Prelude.{ℕ, ◌+◌, nat_lt, List, [], ◌∷◌, Option, None, Some, if◌then◌else◌}
use Rattle.typing_rules.specs.declared.which.Which.{Which}
use Rattle.spec_trees.specs.declared.tree.Mark.{Mark}

-- A name that isn't in scope, one that is declared while it is in scope, one that isn't what its place needs, one with a wrong
-- number of arguments, each with its word; and a limit that is passed, with the number that is reached, and the word.
pub data Fault : Type 0 where
  unknown_fault : List ℕ → ℕ → Fault
  twice_fault : List ℕ → ℕ → Fault
  kind_fault : List ℕ → ℕ → Fault
  count_fault : List ℕ → ℕ → Fault
  limit_fault : Which → ℕ → ℕ → Fault

infixr 3 ◌otherwise◌
-- The first of two faults. In a tree whose places are those of its words, as each tree that is read, the one that is asked
-- first stands at an earlier word; or at the same word, and then it comes first in the order unknown, twice, kind, count, limit.
-- So what is answered of such a tree is the fault with the least word; of another tree, the first that is met.
abbrev pub ◌otherwise◌ : Option Fault → Option Fault → Option Fault
None otherwise g = g
Some f otherwise g = Some f

-- the first fault of the members of a list, which are numbered from a number on
abbrev pub first_fault : {X : Type 0} → (ℕ → X → Option Fault) → ℕ → List X → Option Fault
first_fault fault n [] = None
first_fault fault n (x ∷ xs) = fault n x otherwise first_fault fault (n + 1) xs

-- ---- a fault at a name

-- the name isn't in scope
abbrev pub unknown_at : Mark → Option Fault
unknown_at m = Some (unknown_fault m.text m.word)

-- the name is in scope already
abbrev pub twice_at : Mark → Option Fault
twice_at m = Some (twice_fault m.text m.word)

-- the name isn't what its place needs
abbrev pub kind_at : Mark → Option Fault
kind_at m = Some (kind_fault m.text m.word)

-- the name has another number of arguments than it has places
abbrev pub count_at : Mark → Option Fault
count_at m = Some (count_fault m.text m.word)

-- one more is one too many, where there are as many as there may be
abbrev pub limit_at : Which → ℕ → ℕ → ℕ → Option Fault
limit_at which most count word =
    if nat_lt count most then None else Some (limit_fault which (most + 1) word)
