-- What is noted of lines, one more at the end.
use Rattle.std.proofs.Common.{◌≡◌, ℕ, List, [], ◌∷◌, ◌++◌, length, refl, sym, ap, subst, ◌∙◌}
use Rattle.std.specs.List.{join_with_byte}
use Rattle.std.proofs.lemmas.List.Splits.{join_with_byte-slice_split}
use Rattle.report_bytes.specs.Bytes.{pieces}
use Rattle.report_bytes.proofs.Cutting.{IsSome, pieces_some}
use Rattle.report_verifier.specs.Notes.{NoteForm, IsLong, IsPair, AreNotedTo}

-- a line that is cut off, and its line feed
feed_behind : (line behind bytes : List ℕ) → pieces bytes ≡ line ∷ pieces behind → bytes ≡ line ++ 10 ∷ behind
feed_behind line behind bytes h =
    sym (join_with_byte-slice_split 10 bytes) ∙ ap (λ (ps : List (List ℕ)). join_with_byte 10 ps) h ∙ one_more line (pieces behind) (pieces_some behind)
    ∙ ap (λ (x : List ℕ). line ++ 10 ∷ x) (join_with_byte-slice_split 10 behind)
  where
    one_more : (p : List ℕ) (ps : List (List ℕ)) → IsSome ps → join_with_byte 10 (p ∷ ps) ≡ p ++ 10 ∷ join_with_byte 10 ps
    one_more p [] s = absurd s
    one_more p (q ∷ ps) s = refl

noted_more : (ns : List NoteForm) (n : NoteForm) (bytes rest : List ℕ) → AreNotedTo ns bytes rest → (h : IsLong n.len rest) → IsPair n.pair h.line → AreNotedTo (ns ++ n ∷ []) bytes h.behind
noted_more [] n bytes rest are h is = subst (λ (b : List ℕ). (g : IsLong n.len b) × (IsPair n.pair g.line × (g.behind ≡ h.behind))) (sym are) (h, (is, refl))
noted_more (x ∷ ns) n bytes rest are h is = (are.0, (are.1.0, noted_more ns n are.0.behind rest are.1.1 h is))

-- what is noted of a line that was taken
abbrev pub IsNoteMore : List NoteForm → List NoteForm → List ℕ → Type 0
IsNoteMore old new line = (note : NoteForm) × ((new ≡ old ++ note ∷ []) × ((note.len ≡ length line) × IsPair note.pair line))

pub noted_on : (old new : List NoteForm) (bytes rest line behind : List ℕ) → AreNotedTo old bytes rest → pieces rest ≡ line ∷ pieces behind → IsNoteMore old new line → AreNotedTo new bytes behind
noted_on old new bytes rest line behind are cut (n, (is, (long, pair))) =
    subst (λ (ns : List NoteForm). AreNotedTo ns bytes behind) (sym is)
    (noted_more old n bytes rest are (record { line = line; behind = behind; are = feed_behind line behind rest cut; long = sym long; cut = cut }) pair)

pub none_noted : (ns : List NoteForm) (bytes : List ℕ) → ns ≡ [] → AreNotedTo ns bytes bytes
none_noted [] bytes none = refl
none_noted (n ∷ ns) bytes none = absurd cc
