use Rattle.std.proofs.Common.{Some, [], sym, ap, ◌∙◌, take_all, arith}
use Rattle.report_lines.proofs.FirstWord.{next_last, next_more}
use Rattle.report_lines.proofs.words.behind.Goals as goal

pub returns-then-len-line : goal.returns-then-len-line
returns-then-len-line c =
    next_last c.args.line.now c.args.len c.requires.len c.if-len-line.true
    ∙ ap (λ (w : _). Some (w, [])) (sym (take_all c.args.len c.args.line.now (omega (arith, c.if-len-line.true))))

pub returns : goal.returns
returns c = next_more c.args.line.now c.args.len c.requires.len c.requires.within c.if-len-line.false
