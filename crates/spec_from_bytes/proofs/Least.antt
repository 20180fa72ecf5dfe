-- Bytes are refused for the least fault of their tree, and a specification is what a tree without faults declares.
use Rattle.std.proofs.Common.{◌≡◌, ◌↔◌, ℕ, ◌<◌, List, length, Result, Ok, Err, arith}
use Rattle.word_cut.specs.declared.word.Word.{Word}
use Rattle.word_cut.specs.Words.{IsCut}
use Rattle.spec_core.specs.Specification.{Specification}
use Rattle.spec_trees.specs.Form.{TreeForm}
use Rattle.spec_trees.specs.Place.{IsRead}
use Rattle.typing_rules.specs.Fault.{Fault}
use Rattle.typing_rules.specs.Items.{typing}
use Rattle.typing_rules.specs.Sites.{specification_of}
use Rattle.typing_rules.specs.FaultRules.{IsLeastFault, HasNoFault, IsTypingOf, IsWritten}
use Rattle.spec_from_bytes.specs.Refusal.{IsTreeOf, IsReadAs, faulty, IsRefusal}

module _ (least : (t : TreeForm) (r : Result Specification Fault) → IsWritten t → IsTypingOf t r ↔ (typing t ≡ r))
    (reads : (bytes : List ℕ) (words : List Word) (t : TreeForm) → length bytes < 4294967296 → IsCut bytes words → IsRead bytes words t → IsWritten t) where
  written : (bytes : List ℕ) (t : TreeForm) → IsTreeOf bytes t → IsWritten t
  written bytes t p = reads bytes p.words t (let within = p.within in omega arith) p.cut p.read

  pub least_refused : (bytes : List ℕ) (f : Fault) → IsRefusal bytes (faulty f) ↔ ((t : TreeForm) × IsTreeOf bytes t × IsLeastFault t f)
  least_refused bytes f = (
    λ r. (r.0, r.1, (least r.0 (Err f) (written bytes r.0 r.1)).1 r.2),
    λ r. (r.0, r.1, (least r.0 (Err f) (written bytes r.0 r.1)).0 r.2),
  )

  pub faultless_specified : (bytes : List ℕ) (t : TreeForm) (d : Specification) → IsReadAs bytes t d ↔ (IsTreeOf bytes t × HasNoFault t × (d ≡ specification_of t))
  faultless_specified bytes t d = (
    λ p. (let q = (least t (Ok d) (written bytes t p.is_tree)).1 p.typed in (p.is_tree, q.0, q.1)),
    λ p. record { is_tree = p.0; typed = (least t (Ok d) (written bytes t p.0)).0 (p.1, p.2) },
  )
