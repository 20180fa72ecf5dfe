use Rattle.std.proofs.Common.{◌+◌, refl, ◌∙◌, ap}
use Rattle.proof_report.specs.Events.{told}
use Rattle.check_run.proofs.Blocks.{none_decided, decided_at, all_decided, told_next}
use Rattle.check_run.proofs.counting.decide_from.Goals as goal

pub loop-ob-init : goal.loop-ob-init
loop-ob-init c = (none_decided c.args.spec.now c.args.budget, refl, c.requires.kept)

pub loop-ob-preserved : goal.loop-ob-preserved
loop-ob-preserved c =
    let b = c.in_ok-tally.ensures.counted in (
      decided_at c.args.spec.now c.args.budget c.args.obligations.now c.loop-ob.ob-index c.loop-ob.tally c.in_ok-tally.tally c.loop-ob-test.true c.loop-ob.invariant.0 b,
      ap told b.2 ∙ told_next b.0 c.loop-ob.tally ∙ ap (λ n. n + 1) c.loop-ob.invariant.1,
      c.in_ok-tally.ensures.kept,
    )

pub returns : goal.returns
returns c = all_decided c.args.spec.now c.args.budget c.args.obligations.now c.loop-ob.ob-index c.loop-ob.tally c.loop-ob-test.false c.loop-ob.auto.ob-index-end c.loop-ob.invariant.0
