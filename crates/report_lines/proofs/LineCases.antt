-- A line of a log is read by its first word.
use Rattle.std.proofs.Common.{◌≡◌, ℕ, ℤ, true, false, List, Some, None, ◌⊎◌, inl, inr, refl, sym, ap, ◌∙◌}
use Rattle.std.specs.Prelude.{codes}
use Rattle.std.specs.Str.{bytes_eq}
use Rattle.proof_lines.specs.declared.clause.Lit.{Lit}
use Rattle.proof_lines.specs.declared.line.RowStep.{RowStep}
use Rattle.proof_lines.specs.declared.line.Line.{Line}
use Rattle.report_lines.specs.Words.{next_of}
use Rattle.report_lines.specs.Formats.{Read, Format, mapped, behind, or_else}
use Rattle.report_lines.specs.Logs.{used_words, resolve_words, split_words, drop_words, LineParts, to_line, line_format}
use Rattle.report_lines.proofs.ShownCases.{first_word, other_word, key_word, two_views}

abbrev Rows : Type 0
Rows = List Lit × List RowStep

abbrev Parts : Type 0
Parts = ℕ × (ℤ × (Rows × (ℕ × (ℕ × List ℤ))))

pub resolve_read : (ws rest : List (List ℕ)) (first : List ℕ) → next_of ws ≡ Some (first, rest) → bytes_eq first (codes "r") ≡ true
    → mapped {A = ℕ × (ℕ × ℕ)} {B = Line} (λ (x : ℕ × (ℕ × ℕ)). to_line (inl x)) (resolve_words.get rest) ≡ line_format.get ws
resolve_read ws rest first is same =
    let splits : Format (Parts ⊎ List ℕ) = or_else (codes "s") split_words (behind (codes "d") drop_words) in
    let rows : Format (Rows ⊎ (Parts ⊎ List ℕ)) = or_else (codes "f") used_words splits in
    two_views {A = ℕ × (ℕ × ℕ)} {B = LineParts} {C = Line} inl to_line (resolve_words.get rest)
    ∙ ap (λ (r : Read LineParts). mapped {A = LineParts} {B = Line} to_line r) (sym (first_word (codes "r") resolve_words rows ws rest first is same))

pub rows_read : (ws rest : List (List ℕ)) (first : List ℕ) → next_of ws ≡ Some (first, rest) → bytes_eq first (codes "r") ≡ false → bytes_eq first (codes "f") ≡ true
    → mapped {A = Rows} {B = Line} (λ (x : Rows). to_line (inr (inl x))) (used_words.get rest) ≡ line_format.get ws
rows_read ws rest first is no_resolve same =
    let splits : Format (Parts ⊎ List ℕ) = or_else (codes "s") split_words (behind (codes "d") drop_words) in
    let rows : Format (Rows ⊎ (Parts ⊎ List ℕ)) = or_else (codes "f") used_words splits in
    two_views {A = Rows} {B = Rows ⊎ (Parts ⊎ List ℕ)} {C = Line} inl (λ x. to_line (inr x)) (used_words.get rest)
    ∙ ap (λ (r : Read (Rows ⊎ (Parts ⊎ List ℕ))). mapped {A = Rows ⊎ (Parts ⊎ List ℕ)} {B = Line} (λ x. to_line (inr x)) r) (sym (first_word (codes "f") used_words splits ws rest first is same))
    ∙ two_views {A = Rows ⊎ (Parts ⊎ List ℕ)} {B = LineParts} {C = Line} inr to_line (rows.get ws)
    ∙ ap (λ (r : Read LineParts). mapped {A = LineParts} {B = Line} to_line r) (sym (other_word (codes "r") resolve_words rows ws rest first is no_resolve))

pub split_read : (ws rest : List (List ℕ)) (first : List ℕ) → next_of ws ≡ Some (first, rest) → bytes_eq first (codes "r") ≡ false → bytes_eq first (codes "f") ≡ false → bytes_eq first (codes "s") ≡ true
    → mapped {A = Parts} {B = Line} (λ (x : Parts). to_line (inr (inr (inl x)))) (split_words.get rest) ≡ line_format.get ws
split_read ws rest first is no_resolve no_rows same =
    let drops : Format (List ℕ) = behind (codes "d") drop_words in
    let splits : Format (Parts ⊎ List ℕ) = or_else (codes "s") split_words drops in
    let rows : Format (Rows ⊎ (Parts ⊎ List ℕ)) = or_else (codes "f") used_words splits in
    two_views {A = Parts} {B = Parts ⊎ List ℕ} {C = Line} inl (λ x. to_line (inr (inr x))) (split_words.get rest)
    ∙ ap (λ (r : Read (Parts ⊎ List ℕ)). mapped {A = Parts ⊎ List ℕ} {B = Line} (λ x. to_line (inr (inr x))) r) (sym (first_word (codes "s") split_words drops ws rest first is same))
    ∙ two_views {A = Parts ⊎ List ℕ} {B = Rows ⊎ (Parts ⊎ List ℕ)} {C = Line} inr (λ x. to_line (inr x)) (splits.get ws)
    ∙ ap (λ (r : Read (Rows ⊎ (Parts ⊎ List ℕ))). mapped {A = Rows ⊎ (Parts ⊎ List ℕ)} {B = Line} (λ x. to_line (inr x)) r) (sym (other_word (codes "f") used_words splits ws rest first is no_rows))
    ∙ two_views {A = Rows ⊎ (Parts ⊎ List ℕ)} {B = LineParts} {C = Line} inr to_line (rows.get ws)
    ∙ ap (λ (r : Read LineParts). mapped {A = LineParts} {B = Line} to_line r) (sym (other_word (codes "r") resolve_words rows ws rest first is no_resolve))

pub drop_read : (ws rest : List (List ℕ)) (first : List ℕ) → next_of ws ≡ Some (first, rest) → bytes_eq first (codes "r") ≡ false → bytes_eq first (codes "f") ≡ false → bytes_eq first (codes "s") ≡ false → bytes_eq first (codes "d") ≡ true
    → mapped {A = List ℕ} {B = Line} (λ (x : List ℕ). to_line (inr (inr (inr x)))) (drop_words.get rest) ≡ line_format.get ws
drop_read ws rest first is no_resolve no_rows no_split same =
    let drops : Format (List ℕ) = behind (codes "d") drop_words in
    let splits : Format (Parts ⊎ List ℕ) = or_else (codes "s") split_words drops in
    let rows : Format (Rows ⊎ (Parts ⊎ List ℕ)) = or_else (codes "f") used_words splits in
    ap (λ (r : Read (List ℕ)). mapped {A = List ℕ} {B = Line} (λ x. to_line (inr (inr (inr x)))) r) (sym (key_word (codes "d") drop_words ws rest first is same))
    ∙ two_views {A = List ℕ} {B = Parts ⊎ List ℕ} {C = Line} inr (λ x. to_line (inr (inr x))) (drops.get ws)
    ∙ ap (λ (r : Read (Parts ⊎ List ℕ)). mapped {A = Parts ⊎ List ℕ} {B = Line} (λ x. to_line (inr (inr x))) r) (sym (other_word (codes "s") split_words drops ws rest first is no_split))
    ∙ two_views {A = Parts ⊎ List ℕ} {B = Rows ⊎ (Parts ⊎ List ℕ)} {C = Line} inr (λ x. to_line (inr x)) (splits.get ws)
    ∙ ap (λ (r : Read (Rows ⊎ (Parts ⊎ List ℕ))). mapped {A = Rows ⊎ (Parts ⊎ List ℕ)} {B = Line} (λ x. to_line (inr x)) r) (sym (other_word (codes "f") used_words splits ws rest first is no_rows))
    ∙ two_views {A = Rows ⊎ (Parts ⊎ List ℕ)} {B = LineParts} {C = Line} inr to_line (rows.get ws)
    ∙ ap (λ (r : Read LineParts). mapped {A = LineParts} {B = Line} to_line r) (sym (other_word (codes "r") resolve_words rows ws rest first is no_resolve))
