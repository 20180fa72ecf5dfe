-- Some bytes are one specification, or are refused for one reason, and never both.
--
-- A refusal is of one of four kinds, in the order in which bytes are read: there are too many, they aren't cut into words, their
-- words are no tree, their tree has a fault. Bytes of one kind are of no other, and each kind names its reason by one value.
use Rattle.std.proofs.Common.{◌≡◌, ◌≢◌, ℕ, ◌<◌, ◌≤◌, List, length, refl, sym, subst, ap, ◌∙◌, ◌⊎◌, inl, inr, arith}
use Rattle.std.specs.Prelude.{Ok, Err}
use Rattle.word_cut.specs.declared.word.Word.{Word}
use Rattle.word_cut.specs.declared.cutting.CutRefused.{CutRefused}
use Rattle.word_cut.specs.declared.cutting.CutRefused.TheVariants as cutting
use Rattle.word_cut.specs.Words.{IsCut, IsRefused}
use Rattle.word_cut.proofs.Unique.{cut_unique, refused_uncut, refusal_unique}
use Rattle.spec_core.specs.Specification.{Specification}
use Rattle.spec_trees.specs.Form.{TreeForm}
use Rattle.spec_trees.specs.Place.{IsRead, IsPlace, texts_of}
use Rattle.typing_rules.specs.Fault.{Fault}
use Rattle.typing_rules.specs.Items.{typing}
use Rattle.spec_from_bytes.proofs.OneTree.{one_tree}
use Rattle.spec_from_bytes.specs.Refusal.{IsTreeOf, IsSpecificationOf, Refusal, too_long, strange_letter, long_name, long_number, no_reading, faulty, IsRefusal}

-- ---- trees and specifications

pub tree_unique : (bytes : List ℕ) (t u : TreeForm) → IsTreeOf bytes t → IsTreeOf bytes u → t ≡ u
tree_unique bytes t u p q = one_tree bytes p.words q.words t u p.cut q.cut p.read q.read

pub specification_unique : (bytes : List ℕ) (d e : Specification) → IsSpecificationOf bytes d → IsSpecificationOf bytes e → d ≡ e
specification_unique bytes d e (t, p) (u, q) =
    let same : t ≡ u = tree_unique bytes t u p.is_tree q.is_tree in
    let left : typing t ≡ Ok d = p.typed in
    let right : typing u ≡ Ok e = q.typed in
    let moved : typing t ≡ typing u = ap typing same in
    cc (left, right, moved)

-- ---- the kinds of refusals

-- the reason that a cut is refused for
abbrev pub reason_of : CutRefused → Refusal
reason_of (cutting.Letter at) = strange_letter at
reason_of (cutting.TooLongName at) = long_name at
reason_of (cutting.TooLongNumber at) = long_number at
reason_of cutting.Memory = too_long

-- they aren't cut into words
pub record IsUncut (bytes : List ℕ) (why : Refusal) : Type 0 where
  pub cause : CutRefused
  pub refused : IsRefused bytes cause
  pub named : cause ≢ cutting.Memory
  pub is : why ≡ reason_of cause

-- their words are no tree
pub record IsUnread (bytes : List ℕ) (why : Refusal) : Type 0 where
  pub words : List Word
  pub cut : IsCut bytes words
  pub place : ℕ
  pub is_place : IsPlace (texts_of bytes words) place
  pub unread : (t : TreeForm) → IsRead bytes words t → ⊥
  pub is : why ≡ no_reading place

-- their tree has a fault
pub record IsFaulty (bytes : List ℕ) (why : Refusal) : Type 0 where
  pub tree : TreeForm
  pub is_tree : IsTreeOf bytes tree
  pub fault : Fault
  pub typed : typing tree ≡ Err fault
  pub is : why ≡ faulty fault

-- there are too many, or else one of the other kinds
abbrev pub IsOfKind : List ℕ → Refusal → Type 0
IsOfKind bytes why =
    ((65536 < length bytes) × (why ≡ too_long)) ⊎ ((length bytes ≤ 65536) × (IsUncut bytes why ⊎ (IsUnread bytes why ⊎ IsFaulty bytes why)))

pub kind_of_refusal : (bytes : List ℕ) (why : Refusal) → IsRefusal bytes why → IsOfKind bytes why
kind_of_refusal bytes too_long r = inl (r, refl)
kind_of_refusal bytes (strange_letter at) r = inr (r.0, inl (record { cause = cutting.Letter at; refused = r.1; named = λ e. cc; is = refl }))
kind_of_refusal bytes (long_name at) r = inr (r.0, inl (record { cause = cutting.TooLongName at; refused = r.1; named = λ e. cc; is = refl }))
kind_of_refusal bytes (long_number at) r = inr (r.0, inl (record { cause = cutting.TooLongNumber at; refused = r.1; named = λ e. cc; is = refl }))
kind_of_refusal bytes (no_reading n) (within, (words, cut, place, none)) =
    inr (within, inr (inl (record { words = words; cut = cut; place = n; is_place = place; unread = none; is = refl })))
kind_of_refusal bytes (faulty f) (t, tree, typed) =
    inr (tree.within, inr (inr (record { tree = t; is_tree = tree; fault = f; typed = typed; is = refl })))

-- ---- one kind

uncut_unread : (bytes : List ℕ) (why other : Refusal) → IsUncut bytes why → IsUnread bytes other → ⊥
uncut_unread bytes why other a b = refused_uncut bytes a.cause b.words a.refused a.named b.cut

uncut_tree : (bytes : List ℕ) (why : Refusal) (t : TreeForm) → IsUncut bytes why → IsTreeOf bytes t → ⊥
uncut_tree bytes why t a b = refused_uncut bytes a.cause b.words a.refused a.named b.cut

unread_tree : (bytes : List ℕ) (why : Refusal) (t : TreeForm) → IsUnread bytes why → IsTreeOf bytes t → ⊥
unread_tree bytes why t a b = a.unread t (subst (λ words. IsRead bytes words t) (cut_unique bytes b.words a.words b.cut a.cut) b.read)

-- ---- one reason in each kind

one_uncut : (bytes : List ℕ) (why other : Refusal) → IsUncut bytes why → IsUncut bytes other → why ≡ other
one_uncut bytes why other a b = a.is ∙ ap reason_of (refusal_unique bytes a.cause b.cause a.refused b.refused a.named b.named) ∙ sym b.is

-- the longest front is one
place_unique : (texts : List (List ℕ)) (m n : ℕ) → IsPlace texts m → IsPlace texts n → m ≡ n
place_unique texts m n p q =
    let under : m ≤ n = q.longest m p.within p.begins in
    let over : n ≤ m = p.longest n q.within q.begins in
    omega (arith, under, over)

one_unread : (bytes : List ℕ) (why other : Refusal) → IsUnread bytes why → IsUnread bytes other → why ≡ other
one_unread bytes why other a b =
    let moved = subst (λ words. IsPlace (texts_of bytes words) a.place) (cut_unique bytes a.words b.words a.cut b.cut) a.is_place in
    a.is ∙ ap no_reading (place_unique (texts_of bytes b.words) a.place b.place moved b.is_place) ∙ sym b.is

one_faulty : (bytes : List ℕ) (why other : Refusal) → IsFaulty bytes why → IsFaulty bytes other → why ≡ other
one_faulty bytes why other a b =
    let left : typing a.tree ≡ Err a.fault = a.typed in
    let right : typing b.tree ≡ Err b.fault = b.typed in
    let moved : typing a.tree ≡ typing b.tree = ap typing (tree_unique bytes a.tree b.tree a.is_tree b.is_tree) in
    let same : a.fault ≡ b.fault = cc (left, right, moved) in
    a.is ∙ ap faulty same ∙ sym b.is

one_of_kind : (bytes : List ℕ) (why other : Refusal) → IsOfKind bytes why → IsOfKind bytes other → why ≡ other
one_of_kind bytes why other (inl a) (inl b) = a.1 ∙ sym b.1
one_of_kind bytes why other (inl a) (inr b) = absurd (omega (arith, a.0, b.0))
one_of_kind bytes why other (inr a) (inl b) = absurd (omega (arith, a.0, b.0))
one_of_kind bytes why other (inr (within, inl a)) (inr (also, inl b)) = one_uncut bytes why other a b
one_of_kind bytes why other (inr (within, inl a)) (inr (also, inr (inl b))) = absurd (uncut_unread bytes why other a b)
one_of_kind bytes why other (inr (within, inl a)) (inr (also, inr (inr b))) = absurd (uncut_tree bytes why b.tree a b.is_tree)
one_of_kind bytes why other (inr (within, inr (inl a))) (inr (also, inl b)) = absurd (uncut_unread bytes other why b a)
one_of_kind bytes why other (inr (within, inr (inl a))) (inr (also, inr (inl b))) = one_unread bytes why other a b
one_of_kind bytes why other (inr (within, inr (inl a))) (inr (also, inr (inr b))) = absurd (unread_tree bytes why b.tree a b.is_tree)
one_of_kind bytes why other (inr (within, inr (inr a))) (inr (also, inl b)) = absurd (uncut_tree bytes other a.tree b a.is_tree)
one_of_kind bytes why other (inr (within, inr (inr a))) (inr (also, inr (inl b))) = absurd (unread_tree bytes other a.tree b a.is_tree)
one_of_kind bytes why other (inr (within, inr (inr a))) (inr (also, inr (inr b))) = one_faulty bytes why other a b

pub refusal_is_unique : (bytes : List ℕ) (why other : Refusal) → IsRefusal bytes why → IsRefusal bytes other → why ≡ other
refusal_is_unique bytes why other r q = one_of_kind bytes why other (kind_of_refusal bytes why r) (kind_of_refusal bytes other q)

-- ---- never both

faulty_specified : (bytes : List ℕ) (d : Specification) (why : Refusal) → IsSpecificationOf bytes d → IsFaulty bytes why → ⊥
faulty_specified bytes d why (t, p) b =
    let left : typing t ≡ Ok d = p.typed in
    let right : typing b.tree ≡ Err b.fault = b.typed in
    let moved : typing t ≡ typing b.tree = ap typing (tree_unique bytes t b.tree p.is_tree b.is_tree) in
    let e : Ok d ≡ Err b.fault = sym left ∙ moved ∙ right in
    cc

specified_of_kind : (bytes : List ℕ) (d : Specification) (why : Refusal) → IsSpecificationOf bytes d → IsOfKind bytes why → ⊥
specified_of_kind bytes d why (t, p) (inl b) = let within = p.is_tree.within in omega (arith, within, b.0)
specified_of_kind bytes d why (t, p) (inr (within, inl b)) = uncut_tree bytes why t b p.is_tree
specified_of_kind bytes d why (t, p) (inr (within, inr (inl b))) = unread_tree bytes why t b p.is_tree
specified_of_kind bytes d why (t, p) (inr (within, inr (inr b))) = faulty_specified bytes d why (t, p) b

pub refused_or_specified : (bytes : List ℕ) (d : Specification) (why : Refusal) → IsSpecificationOf bytes d → IsRefusal bytes why → ⊥
refused_or_specified bytes d why p r = specified_of_kind bytes d why p (kind_of_refusal bytes why r)
