use Rattle.check_run.proofs.Shown.{shown_refutes}
use Rattle.check_run.proofs.Refutations.{refutation_shown}
use Rattle.check_run.proofs.deciding.refute_by.Goals as goal

pub returns-clause-good : goal.returns-clause-good
returns-clause-good c = λ budget.
    let h = c.shrink.ensures in
    shown_refutes c.args.spec.now c.shrink.new.witness h.breaks.state c.args.ob.now h

pub returns-clause-shown : goal.returns-clause-shown
returns-clause-shown c = refutation_shown c.args.spec.now c.args.ob.now c.shrink.new.witness c.shrink.ensures c.stays_in_range.ensures
