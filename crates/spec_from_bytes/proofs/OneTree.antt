-- Bytes are read as one tree at most: each place that a tree has is claimed by a word of its spelling, so where all claims are right, the
-- spelling tells every place.
use Rattle.std.proofs.Common.{◌≡◌, ℕ, List, sym, ap, ◌∙◌}
use Rattle.word_cut.specs.declared.word.Word.{Word}
use Rattle.word_cut.specs.Words.{IsCut}
use Rattle.word_cut.proofs.Unique.{cut_unique}
use Rattle.spec_trees.specs.Form.{TreeForm}
use Rattle.spec_trees.specs.Spelling.{tree, spelling}
use Rattle.spec_trees.specs.Trees.{IsTree}
use Rattle.spec_trees.specs.Place.{texts_of, IsPlaced, IsRead}
use Rattle.spec_reader.proofs.Bytes.{one_spelling}
use Rattle.spec_from_bytes.proofs.PartsTold.{tree_told}

-- trees with one spelling, each with the places of its words, are equal
pub one_spelled : (t u : TreeForm) → IsTree t → IsTree u → spelling t ≡ spelling u → IsPlaced 0 (tree t) → IsPlaced 0 (tree u) → t ≡ u
one_spelled t u f g e h k = tree_told t u (one_spelling t u f g e) 0 h k

-- trees as which the same words of some bytes are read are equal
pub one_read : (bytes : List ℕ) (words : List Word) (t u : TreeForm) → IsRead bytes words t → IsRead bytes words u → t ≡ u
one_read bytes words t u r q = one_spelled t u r.0 q.0 (r.1 ∙ sym q.1) r.2 q.2

pub one_tree : (bytes : List ℕ) (words others : List Word) (t u : TreeForm) → IsCut bytes words → IsCut bytes others → IsRead bytes words t → IsRead bytes others u → t ≡ u
one_tree bytes words others t u c d r q = one_spelled t u r.0 q.0 (r.1 ∙ ap (texts_of bytes) (cut_unique bytes words others c d) ∙ sym q.1) r.2 q.2
