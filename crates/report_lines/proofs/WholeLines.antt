-- A format that is exact and clean, and writes some word, is the format of a line.
use Rattle.std.proofs.Common.{◌≡◌, ℕ, true, false, List, [], ◌∷◌, sym, ap, ◌∙◌}
use Rattle.std.specs.List.{list_all}
use Rattle.std.proofs.lemmas.Bool.{false≢true}
use Rattle.report_lines.specs.Words.{parts, joined, is_part}
use Rattle.report_lines.specs.Formats.{Format, IsExact, IsClean, IsLine, is_empty, read}
use Rattle.report_lines.proofs.Exact.{read_ok, read_again}
use Rattle.report_lines.proofs.Splitting.{parts_joined, joined_parts}

-- what is written has a word
abbrev pub HasWord : {A : Type 0} → Format A → Type 0
HasWord {A} f = (a : A) → is_empty (f.put a) ≡ false

found : (ws : List (List ℕ)) → is_empty ws ≡ false → list_all is_part ws ≡ true → parts (joined ws) ≡ ws
found [] e h = absurd (false≢true (sym e))
found (w ∷ ws) e h = parts_joined w ws h

pub line_of : {A : Type 0} (f : Format A) → HasWord f → IsExact f → IsClean f → IsLine f
line_of f some exact clean = record {
  written = λ a fit. ap (read f) (found (f.put a) (some a) (clean.parts a fit)) ∙ read_again exact a fit;
  only_that = λ line a e. let r = read_ok exact (parts line) a e in (sym (joined_parts line) ∙ ap joined r.0, r.1);
}
