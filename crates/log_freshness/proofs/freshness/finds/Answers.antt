use Rattle.std.proofs.Common.{◌∙◌, sym, subst, Bool, List}
use Rattle.log_freshness.specs.Index.{MarksAre}
use Rattle.log_freshness.proofs.Index.{marks-are, marks-taken}
use Rattle.log_freshness.proofs.freshness.finds.Goals as goal

pub finds_either-found-requires-clause-marks : goal.finds_either-found-requires-clause-marks
finds_either-found-requires-clause-marks c =
    subst (λ (z : List Bool). MarksAre c.args.index.now.count z c.args.lits.now) (sym (c.as_slice.ensures.value ∙ c.mark.ensures.is))
    (marks-are c.args.index.now.count c.args.marks.now.items c.args.lits.now c.requires.fits.some c.requires.sized c.requires.clear)

pub returns-clause-is : goal.returns-clause-is
returns-clause-is c = c.finds_either-found.ensures

pub returns-clause-clear : goal.returns-clause-clear
returns-clause-clear c = marks-taken c.args.index.now.count c.args.marks.now.items c.mark.new.marks.items c.mark-2.new.marks.items c.args.lits.now c.requires.fits.some c.requires.sized c.requires.clear c.mark.ensures.is c.mark.ensures.sized c.mark-2.ensures.is
