use Rattle.std.proofs.Common.{sym, ◌∙◌}
use Rattle.obligation_list.proofs.Refuted.{refuted, refuting}
use Rattle.obligation_list.proofs.breaking.breaks.Goals as goal

pub returns : goal.returns
returns c =
    let w = c.args.w.now in (
      λ h. refuted c.args.spec.now c.args.ob.now w.world w.state w.elements w.calls (sym c.refutes.ensures ∙ h),
      λ r. c.refutes.ensures ∙ refuting c.args.spec.now c.args.ob.now w.world w.state w.elements w.calls r,
    )
