-- Readings of words that are no tree, and of those of a tree with a fault.
use Rattle.std.proofs.Common.{◌≡◌, ℕ, List, length, subst, ◌≤◌}
use Rattle.std.specs.Prelude.{Err}
use Rattle.word_cut.specs.declared.word.Word.{Word}
use Rattle.word_cut.specs.Words.{IsCut}
use Rattle.spec_trees.specs.Form.{TreeForm}
use Rattle.spec_trees.specs.Place.{IsRead}
use Rattle.spec_reader.specs.Refused.{IsReadUnlessMemory}
use Rattle.spec_reader.specs.declared.parsing.SyntaxRefused.{SyntaxRefused}
use Rattle.spec_reader.specs.declared.parsing.SyntaxRefused.TheVariants.{Syntax}
use Rattle.spec_trees.specs.declared.tree.Tree.{Tree}
use Rattle.spec_from_bytes.specs.Refusal.{faulty}
use Rattle.spec_from_bytes.specs.Reading.{SaysFault, SaysRefusal}

-- a refusal of words that are no spelling says that they are none
pub unread-syntax : (e : SyntaxRefused) (n : ℕ) → e ≡ Syntax n → IsReadUnlessMemory {X = Tree} (Err e) → ⊥
unread-syntax e n p h = subst (λ x. IsReadUnlessMemory {X = Tree} (Err x)) p h

-- the bytes of a tree with a fault
pub faulty_refusal : (bytes : List ℕ) (words : List Word) (t : TreeForm) (text : List ℕ) → length bytes ≤ 65536 → IsCut bytes words → IsRead bytes words t
    → SaysFault t text → SaysRefusal bytes text
faulty_refusal bytes words t text within cut read (f, is, said) =
    (faulty f, (t, record { within = within; words = words; cut = cut; read = read }, is), said)
