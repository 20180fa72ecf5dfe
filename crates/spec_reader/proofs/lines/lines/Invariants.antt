use Rattle.std.proofs.Common.{◌≡◌, length, map}
use Rattle.spec_trees.specs.Form.{line_of}
use Rattle.spec_reader.specs.Reading.{lines_at}
use Rattle.parser_combinators.proofs.Loop.{with_front}
use Rattle.spec_reader.proofs.lines.lines.Given as goal

abbrev pub invariant-lines : goal.invariant-lines
invariant-lines l = with_front (map line_of l.lines) (lines_at l.version l.depth l.rest) ≡ lines_at l.version l.depth l.fn.tokens

abbrev pub decreases-lines : goal.decreases-lines
decreases-lines l = length l.rest
