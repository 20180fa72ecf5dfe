use Rattle.spec_trees.specs.Form.{line_of}
use Rattle.spec_trees.specs.Spelling.{line}
use Rattle.spec_trees.proofs.Written.{written}
use Rattle.spec_trees.proofs.putting.put_lines.Goals as goal

pub lines-preserved : goal.lines-preserved
lines-preserved c = written (λ x. line (line_of x)) c.args.lines.now c.lines.line-index c.line-item.result c.args.out.now c.lines.out c.put_line.new.out c.lines-test.true c.line-item.is c.lines.invariant c.in_ok-put_line.ensures
