use Rattle.std.proofs.Common.{◌≡◌, ◌++◌, take}
use Rattle.parser_combinators.specs.Words.{plain, each}
use Rattle.spec_trees.specs.Form.{line_of}
use Rattle.spec_trees.specs.Spelling.{line}
use Rattle.spec_trees.proofs.putting.put_lines.Given as goal

abbrev pub invariant-lines : goal.invariant-lines
invariant-lines l = l.out ≡ l.fn.out ++ plain (each (λ x. line (line_of x)) (take l.line-index l.lines))
