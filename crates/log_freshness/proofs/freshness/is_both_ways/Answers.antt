use Rattle.std.proofs.Common.{◌∙◌, ap, Bool, List}
use Rattle.log_freshness.specs.Index.{marked_both_ways}
use Rattle.log_freshness.proofs.Index.{both-marked, marks-taken}
use Rattle.log_freshness.proofs.freshness.is_both_ways.Goals as goal

pub returns-clause-is : goal.returns-clause-is
returns-clause-is c =
    let m = c.args.count in
    let lits = c.args.lits.now in
    c.marked_both_ways-both.ensures
    ∙ ap (λ (z : List Bool). marked_both_ways m z lits) (c.as_slice.ensures.value ∙ c.mark.ensures.is)
    ∙ both-marked m c.args.marks.now.items lits c.requires.some c.requires.sized c.requires.clear

pub returns-clause-clear : goal.returns-clause-clear
returns-clause-clear c = marks-taken c.args.count c.args.marks.now.items c.mark.new.marks.items c.mark-2.new.marks.items c.args.lits.now c.requires.some c.requires.sized c.requires.clear c.mark.ensures.is c.mark.ensures.sized c.mark-2.ensures.is
