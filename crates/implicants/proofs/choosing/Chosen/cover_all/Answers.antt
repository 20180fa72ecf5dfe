use Rattle.implicants.proofs.Meeting.{covered_parts, more_met}
use Rattle.implicants.proofs.choosing.Chosen.cover_all.Goals as goal

pub loop-i-preserved : goal.loop-i-preserved
loop-i-preserved c =
    let h = covered_parts _ _ c.args.problem.now.atoms c.args.values.now c.args.trail.now _ _ _ _ c.in_ok-cover.ensures c.if-not-branch.false c.lits_at-lits.ensures c.atoms_of-atoms.ensures in
    (h.0, more_met c.loop-i.i c.args.problem.now.atoms c.args.problem.now.clauses c.args.values.now c.loop-i.self c.cover.new.self c.loop-i.invariant.1 h.1 h.2)
