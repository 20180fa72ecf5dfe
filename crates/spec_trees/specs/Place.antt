-- Which bytes are read as which tree, and where no spelling goes on.
use Rattle.std.specs.Prelude.{◌≡◌, ℕ, ◌+◌, ◌≤◌, List, [], ◌∷◌, ◌++◌, length, take, map}
use Rattle.std.specs.List.{AllByRecursion}
use Rattle.word_cut.specs.declared.word.Word.{Word}
use Rattle.word_cut.specs.Words.{text_of}
use Rattle.parser_combinators.specs.Words.{Spelt}
use Rattle.spec_trees.specs.Form.{TreeForm}
use Rattle.spec_trees.specs.Spelling.{tree, spelling}
use Rattle.spec_trees.specs.Trees.{IsTree}

-- the texts of the words of some bytes
abbrev pub texts_of : List ℕ → List Word → List (List ℕ)
texts_of bytes words = map (text_of bytes) words

-- From the nth word on, each number that the tree has for the place of a word is the place of that
-- word.
abbrev pub IsPlaced : ℕ → List Spelt → Type 0
IsPlaced n [] = Unit {0}
IsPlaced n (s ∷ ss) = AllByRecursion (λ w. w ≡ n) s.claims × IsPlaced (n + 1) ss

-- The words are the spelling of the tree, and each place in the tree is that of its word.
abbrev pub IsRead : List ℕ → List Word → TreeForm → Type 0
IsRead bytes words t = IsTree t × (spelling t ≡ texts_of bytes words) × IsPlaced 0 (tree t)

-- Some spelling, of either version, begins with the first n words.
abbrev pub Begins : List (List ℕ) → ℕ → Type 0
Begins texts n =
    (t : TreeForm) × (more : List (List ℕ)) × IsTree t × (spelling t ≡ take n texts ++ more)

-- The length of the longest prefix with which some spelling begins.
pub record IsPlace (texts : List (List ℕ)) (n : ℕ) : Type 0 where
  pub within : n ≤ length texts
  pub begins : Begins texts n
  pub longest : (m : ℕ) → m ≤ length texts → Begins texts m → m ≤ n
