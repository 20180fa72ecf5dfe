use Rattle.std.proofs.lemmas.Slice.Eq.{slice_eq-Decides}
use Rattle.lazy_logs.proofs.Same.{lit_Decides}
use Rattle.lazy_logs.proofs.comparing.same_lits.Goals as goal

pub returns : goal.returns
returns c = (slice_eq-Decides lit_Decides c.args.left.now c.args.right.now c.eq.result c.eq.ensures).0
