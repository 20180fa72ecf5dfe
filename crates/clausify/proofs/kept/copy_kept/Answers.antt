use Rattle.clausify.proofs.Raised.{copied_unnamed, copied_raised}
use Rattle.clausify.proofs.kept.copy_kept.Goals as goal

pub returns-then-kept-eq0 : goal.returns-then-kept-eq0
returns-then-kept-eq0 c =
    copied_unnamed c.args.kept.now c.args.next c.copy_all.result c.as_slice-clauses.result.now c.args.out.now c.copy_all.new.out c.requires c.if-kept-eq0.true c.as_slice-clauses.ensures c.copy_all.ensures

pub returns : goal.returns
returns c =
    copied_raised c.args.kept.now c.args.next c.raise_all.result c.as_slice-clauses.result.now c.args.out.now c.raise_all.new.out c.requires c.as_slice-clauses.ensures c.raise_all.ensures
