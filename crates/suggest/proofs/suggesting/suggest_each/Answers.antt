use Rattle.std.proofs.Common.{◌<◌, ◌≤◌, Ok, Err, List, length, get_or, subst, arith}
use Rattle.std.proofs.lemmas.List.Elements.{Contains-get_or}
use Rattle.check_run.specs.Checking.{progress}
use Rattle.suggest.specs.Writing.{IsPairWritten}
use Rattle.suggest.specs.declared.answer.Pair.{Pair}
use Rattle.suggest.proofs.Written.{none_written, next_written, stopped_written, all_written}
use Rattle.suggest.proofs.suggesting.suggest_each.Goals as goal

pub invariant_of-question-clause-is_pair : goal.invariant_of-question-clause-is_pair
invariant_of-question-clause-is_pair g c =
    let p : Pair = record { first = 0; second = 0 } in
    c.requires.listed.members (get_or c.args.pairs.now c.loop-pair.pair-index p) (Contains-get_or c.args.pairs.now c.loop-pair.pair-index p c.loop-pair-test.true)

pub loop-pair-init : goal.loop-pair-init
loop-pair-init g c = (none_written c.args.spec.now c.args.budget (g.K.Sink.held c.args.out.now), (let e : g.K.Sink.faults c.args.out.now ≤ g.K.Sink.faults c.args.out.now = omega arith in e))

pub loop-pair-preserved : goal.loop-pair-preserved
loop-pair-preserved g c =
    let d = c.args.spec.now in
    let i = c.loop-pair.pair-index in
    let mid = g.K.Sink.held c.loop-pair.out in
    let after = g.K.Sink.held c.suggest_one.new.out in
    let listed = c.requires.listed.list in
    let here = subst (λ (ps : List Pair). i < length ps) listed c.loop-pair-test.true in
    let one = subst (λ (ps : List Pair). IsPairWritten d c.args.budget (get_or ps i (record { first = 0; second = 0 })) (progress c.loop-pair.tally mid) after (Ok c.in-Ok.now)) listed c.in-Ok.ensures.pair in
    let before = c.loop-pair.invariant.1 in
    let now = c.in-Ok.ensures.never_falls in (
      next_written d c.args.budget i c.loop-pair.tally (g.K.Sink.held c.args.out.now) mid after (record { first = 0; second = 0 }) here c.loop-pair.invariant.0 c.in-Ok.now one,
      (let e : g.K.Sink.faults c.args.out.now ≤ g.K.Sink.faults c.suggest_one.new.out = omega (arith, before, now) in e),
    )

pub returns-in-Err-clause-pairs : goal.returns-in-Err-clause-pairs
returns-in-Err-clause-pairs g c =
    let d = c.args.spec.now in
    let i = c.loop-pair.pair-index in
    let mid = g.K.Sink.held c.loop-pair.out in
    let after = g.K.Sink.held c.suggest_one.new.out in
    let why = c.in-Err.why in
    let listed = c.requires.listed.list in
    let here = subst (λ (ps : List Pair). i < length ps) listed c.loop-pair-test.true in
    let one = subst (λ (ps : List Pair). IsPairWritten d c.args.budget (get_or ps i (record { first = 0; second = 0 })) (progress c.loop-pair.tally mid) after (Err why)) listed c.in-Err.ensures.pair in
    stopped_written d c.args.budget i c.loop-pair.tally (g.K.Sink.held c.args.out.now) mid after (record { first = 0; second = 0 }) here c.loop-pair.invariant.0 why one

pub returns-clause-pairs : goal.returns-clause-pairs
returns-clause-pairs g c =
    let listed = c.requires.listed.list in
    let most = subst (λ (ps : List Pair). length ps ≤ c.loop-pair.pair-index) listed c.loop-pair-test.false in
    let least = subst (λ (ps : List Pair). c.loop-pair.pair-index ≤ length ps) listed c.loop-pair.auto.pair-index-end in
    all_written c.args.spec.now c.args.budget c.loop-pair.pair-index c.loop-pair.tally (g.K.Sink.held c.args.out.now) (g.K.Sink.held c.loop-pair.out) most least c.loop-pair.invariant.0
