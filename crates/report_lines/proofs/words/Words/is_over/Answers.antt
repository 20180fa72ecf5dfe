use Rattle.std.proofs.Common.{List, ℕ, Option, Bor, sym, ap, ◌∙◌}
use Rattle.report_lines.specs.Formats.{is_empty}
use Rattle.report_lines.specs.Words.{parts_left}
use Rattle.report_lines.proofs.FirstWord.{parts_some}
use Rattle.report_lines.proofs.words.Words.is_over.Goals as goal

pub returns-in-Some : goal.returns-in-Some
returns-in-Some c =
    sym (ap (λ (r : Option (Bor (List ℕ))). is_empty (parts_left r)) c.in-Some.is ∙ parts_some c.in-Some.field-0.now)
