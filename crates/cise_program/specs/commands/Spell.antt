-- What `spell` answers for the tree of a specification.
use Rattle.std.specs.Prelude.{◌≡◌, ℕ, List}
use Rattle.byte_ports.specs.Ending.{IsFrontOfOne}
use Rattle.spec_trees.specs.Form.{TreeForm}
use Rattle.spec_trees.specs.Layout.{text_of_tree}

-- A specification's words, in the layout of the language.
pub record IsSpelled (tree : TreeForm) (status : ℕ) (text : List ℕ) : Type 0 where
  pub status_is : status ≡ 0
  pub text_is : text ≡ text_of_tree tree

-- what is left of a spelling that is stopped
abbrev pub IsSpellFront : TreeForm → List ℕ → Type 0
IsSpellFront tree front = IsFrontOfOne (IsSpelled tree) front
