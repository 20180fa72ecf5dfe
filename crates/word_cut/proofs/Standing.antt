-- The words of some bytes stand in them.
use Rattle.std.proofs.Common.{◌≡◌, ℕ, ◌+◌, ◌≤◌, List, [], ◌∷◌, ◌++◌, length, take, drop, sym, ap, subst, ◌∙◌, arith, length-append, length-drop, zero, suc, ◌<◌, get_or}
use Rattle.std.proofs.lemmas.Bool.{false≢true}
use Rattle.std.specs.List.{AllByRecursion}
use Rattle.std.proofs.lemmas.List.{drop-drop}
use Rattle.std.proofs.Math.Seq.{drop-append_seam, take-append_seam}
use Rattle.word_cut.specs.declared.word.Word.{Word}
use Rattle.word_cut.specs.Texts.{kind_of}
use Rattle.word_cut.specs.Words.{Next, Leaves, IsCut, Stands, text_of, IsLongest}

text_of-next : (bytes : List ℕ) (at line : ℕ) (w : Word) (after : List ℕ) (n : Next at line (drop at bytes) w after) → (text_of bytes w ≡ n.text) × (drop (w.at + w.len) bytes ≡ after)
text_of-next bytes at line w after n =
    let behind : drop w.at bytes ≡ n.text ++ after =
    ap (λ k. drop k bytes) n.place ∙ sym (drop-drop (length n.gap) at bytes) ∙ ap (drop (length n.gap)) n.split ∙ drop-append_seam n.gap (n.text ++ after) in (
      ap (take w.len) behind ∙ ap (λ k. take k (n.text ++ after)) n.len ∙ take-append_seam n.text after,
      sym (drop-drop w.len w.at bytes) ∙ ap (drop w.len) behind ∙ ap (λ k. drop k (n.text ++ after)) n.len ∙ drop-append_seam n.text after,
    )

ends_within : (bytes : List ℕ) (at line : ℕ) (w : Word) (after : List ℕ) → at ≤ length bytes → Next at line (drop at bytes) w after → w.at + w.len ≤ length bytes
ends_within bytes at line w after h n =
    let whole = ap length n.split in
    let a = length-append n.gap (n.text ++ after) in
    let b = length-append n.text after in
    let d = length-drop at bytes in
    omega (arith, n.place, n.len)

Stands-next : (bytes : List ℕ) (at line : ℕ) (w : Word) (after : List ℕ) → at ≤ length bytes → Next at line (drop at bytes) w after → Stands bytes w
Stands-next bytes at line w after h n =
    let t = (text_of-next bytes at line w after n).0 in
    record {
      within = ends_within bytes at line w after h n;
      is_one = rw t n.longest.is_one;
      kind = n.kind ∙ ap kind_of (sym t);
      short_name = rw t n.short_name;
      short_number = rw t n.short_number;
    }

leaves_stand : (bytes : List ℕ) (at line : ℕ) (words : List Word) (rest : List ℕ) → at ≤ length bytes → Leaves at line (drop at bytes) words rest → AllByRecursion (Stands bytes) words
leaves_stand bytes at line [] rest h l = tt
leaves_stand bytes at line (w ∷ ws) rest h l =
    let e = (text_of-next bytes at line w l.0 l.1).1 in
    let P : List ℕ → Type 0 = λ xs. Leaves (w.at + w.len) w.line xs ws rest in
    (Stands-next bytes at line w l.0 h l.1, leaves_stand bytes (w.at + w.len) w.line ws rest (ends_within bytes at line w l.0 h l.1) (subst P (sym e) l.2))

pub words_stand : (bytes : List ℕ) (words : List Word) → IsCut bytes words → AllByRecursion (Stands bytes) words
words_stand bytes words c = leaves_stand bytes 0 1 words [] (omega arith) c

-- ---- the place of a word is at least its number

text_some : (text rest : List ℕ) → IsLongest text rest → 1 ≤ length text
text_some [] rest l = absurd (false≢true l.is_one)
text_some (b ∷ text) rest l = omega arith

leaves_rise : (at line : ℕ) (bytes : List ℕ) (words : List Word) (rest : List ℕ) → Leaves at line bytes words rest → (i : ℕ) (d : Word) → i < length words → at + i ≤ (get_or words i d).at
leaves_rise at line bytes [] rest l i d h = absurd (omega arith)
leaves_rise at line bytes (w ∷ ws) rest l zero d h = omega (arith, l.1.place)
leaves_rise at line bytes (w ∷ ws) rest l (suc i) d h =
    let some = text_some l.1.text l.0 l.1.longest in
    omega (arith, leaves_rise (w.at + w.len) w.line l.0 ws rest l.2 i d (omega arith), l.1.place, l.1.len)

pub words_rise : (bytes : List ℕ) (words : List Word) → IsCut bytes words → (i : ℕ) (d : Word) → i < length words → i ≤ (get_or words i d).at
words_rise bytes words c i d h = omega (arith, leaves_rise 0 1 bytes words [] c i d h)
