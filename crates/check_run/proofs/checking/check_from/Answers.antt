use Rattle.std.proofs.Common.{◌<◌, ◌≤◌, ◌+◌, Ok, Err, length, get_or, subst, refl, ◌∙◌, ap, arith}
use Rattle.obligation_list.specs.declared.obligation.Obligation.TheVariants.{Init}
use Rattle.proof_report.specs.Events.{told}
use Rattle.report_bytes.specs.Showing.{shown_verdict}
use Rattle.check_run.specs.Checking.{progress, IsBlock}
use Rattle.check_run.proofs.Blocks.{none_written, next_written, stopped_written, all_written, told_next}
use Rattle.check_run.proofs.checking.check_from.Goals as goal

pub loop-ob-init : goal.loop-ob-init
loop-ob-init g c = (none_written c.args.spec.now c.args.budget (g.K.Sink.held c.args.out.now), refl, (let e : g.K.Sink.faults c.args.out.now ≤ g.K.Sink.faults c.args.out.now = omega arith in e), c.requires.kept)

pub loop-ob-preserved : goal.loop-ob-preserved
loop-ob-preserved g c =
    let d = c.args.spec.now in
    let i = c.loop-ob.ob-index in
    let mid = g.K.Sink.held c.loop-ob.out in
    let after = g.K.Sink.held c.check_one.new.out in
    let b = c.in-Ok.ensures.block in
    let listed = c.requires.listed.list in
    let here = subst (λ os. i < length os) listed c.loop-ob-test.true in
    let block = subst (λ os. IsBlock d c.args.budget (get_or os i (Init 0)) (progress c.loop-ob.tally mid) (progress c.check_one.new.tally after) (Ok tt)) listed b in
    let before = c.loop-ob.invariant.2 in
    let now = c.in-Ok.ensures.never_falls in (
      next_written d c.args.budget i c.loop-ob.tally (g.K.Sink.held c.args.out.now) mid after here c.loop-ob.invariant.0 c.check_one.new.tally block,
      ap told b.2 ∙ told_next (shown_verdict d b.0) c.loop-ob.tally ∙ ap (λ n. n + 1) c.loop-ob.invariant.1,
      (let e : g.K.Sink.faults c.args.out.now ≤ g.K.Sink.faults c.check_one.new.out = omega (arith, before, now) in e),
      c.in-Ok.ensures.kept,
    )

pub returns-in-Err-clause-blocks : goal.returns-in-Err-clause-blocks
returns-in-Err-clause-blocks g c =
    let d = c.args.spec.now in
    let i = c.loop-ob.ob-index in
    let mid = g.K.Sink.held c.loop-ob.out in
    let after = g.K.Sink.held c.check_one.new.out in
    let why = c.in-Err.why in
    let listed = c.requires.listed.list in
    let here = subst (λ os. i < length os) listed c.loop-ob-test.true in
    let block = subst (λ os. IsBlock d c.args.budget (get_or os i (Init 0)) (progress c.loop-ob.tally mid) (progress c.check_one.new.tally after) (Err why)) listed c.in-Err.ensures.block in
    stopped_written d c.args.budget i c.loop-ob.tally (g.K.Sink.held c.args.out.now) mid after here c.loop-ob.invariant.0 c.check_one.new.tally why block

pub returns-clause-blocks : goal.returns-clause-blocks
returns-clause-blocks g c =
    let listed = c.requires.listed.list in
    let most = subst (λ os. length os ≤ c.loop-ob.ob-index) listed c.loop-ob-test.false in
    let least = subst (λ os. c.loop-ob.ob-index ≤ length os) listed c.loop-ob.auto.ob-index-end in
    all_written c.args.spec.now c.args.budget c.loop-ob.ob-index c.loop-ob.tally (g.K.Sink.held c.args.out.now) (g.K.Sink.held c.loop-ob.out) most least c.loop-ob.invariant.0
