use Rattle.std.proofs.Common.{◌≡◌, ℕ, drop}
use Rattle.spec_core.specs.World.{size_of}
use Rattle.report_lines.specs.Formats.{list_at}
use Rattle.report_lines.specs.Fields.{element_format}
use Rattle.report_lines.specs.Words.{left}
use Rattle.report_lines.proofs.Loops.{with_front}
use Rattle.report_lines.proofs.witness.tuple.Given as goal

abbrev pub invariant-sorts : goal.invariant-sorts
invariant-sorts l = with_front l.tuple (list_at (λ (s : ℕ). element_format (size_of l.world s)) (drop l.sort-index l.sorts) (left l.rest)) ≡ list_at (λ (s : ℕ). element_format (size_of l.world s)) l.sorts (left l.words)
