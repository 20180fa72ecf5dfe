use Rattle.obligation_list.specs.Refuting.{IsRefutation}
use Rattle.check_run.proofs.Shown.{shown_refutes}
use Rattle.check_run.proofs.Refutations.{refutation_shown}
use Rattle.check_run.proofs.deciding.refuted_by.Goals as goal

pub returns-clause-good : goal.returns-clause-good
returns-clause-good c = λ budget.
    let h : IsRefutation c.args.spec.now c.args.ob.now c.args.witness.world c.args.witness.state c.args.witness.calls c.args.witness.elements = c.breaks.ensures.0 c.if-not-breaks.false in
    shown_refutes c.args.spec.now c.args.witness h.breaks.state c.args.ob.now h

pub returns-clause-fit : goal.returns-clause-fit
returns-clause-fit c =
    let h : IsRefutation c.args.spec.now c.args.ob.now c.args.witness.world c.args.witness.state c.args.witness.calls c.args.witness.elements = c.breaks.ensures.0 c.if-not-breaks.false in
    refutation_shown c.args.spec.now c.args.ob.now c.args.witness h c.stays_in_range.ensures
