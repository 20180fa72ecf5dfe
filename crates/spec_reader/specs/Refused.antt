-- Where no spelling goes on with the words of a text.
use Rattle.std.specs.Prelude.{ℕ, List, Result, Ok, Err}
use Rattle.spec_trees.specs.Place.{IsPlace}
use Rattle.spec_reader.specs.declared.parsing.SyntaxRefused.{SyntaxRefused}
use Rattle.spec_reader.specs.declared.parsing.SyntaxRefused.TheVariants as refused

-- A refusal names that place.
abbrev pub IsRefusedAt : List (List ℕ) → SyntaxRefused → Type 0
IsRefusedAt texts refused.Memory = Unit {0}
IsRefusedAt texts (refused.Syntax n) = IsPlace texts n

-- it is read, unless memory runs out
abbrev pub IsReadUnlessMemory : {X : Type 0} → Result X SyntaxRefused → Type 0
IsReadUnlessMemory (Ok x) = Unit {0}
IsReadUnlessMemory (Err refused.Memory) = Unit {0}
IsReadUnlessMemory (Err (refused.Syntax n)) = ⊥
