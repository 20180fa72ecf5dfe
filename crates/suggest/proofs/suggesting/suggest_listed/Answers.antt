use Rattle.suggest.proofs.Whole.{head_left, pairs_left, end_left, whole}
use Rattle.suggest.proofs.suggesting.suggest_listed.Goals as goal

pub returns-in-Err-clause-suggested : goal.returns-in-Err-clause-suggested
returns-in-Err-clause-suggested g c =
    head_left c.args.spec.now c.args.budget (g.K.Sink.held c.args.out.now) (g.K.Sink.held c.write_opening.new.out) c.in-Err.why c.in-Err.ensures.text

pub returns-in-Err-suggest_each-clause-suggested : goal.returns-in-Err-suggest_each-clause-suggested
returns-in-Err-suggest_each-clause-suggested g c =
    pairs_left c.args.spec.now c.args.budget (g.K.Sink.held c.args.out.now) (g.K.Sink.held c.write_opening.new.out) (g.K.Sink.held c.suggest_each.new.out) c.in-Err-suggest_each.why c.in-Ok.ensures.text c.in-Err-suggest_each.ensures.pairs

pub returns-in-Ok-write_closing-clause-suggested : goal.returns-in-Ok-write_closing-clause-suggested
returns-in-Ok-write_closing-clause-suggested g c =
    whole c.args.spec.now c.args.budget c.in-Ok-suggest_each.tally (g.K.Sink.held c.args.out.now) (g.K.Sink.held c.write_opening.new.out) (g.K.Sink.held c.suggest_each.new.out) (g.K.Sink.held c.write_closing.new.out) c.in-Ok.ensures.text c.in-Ok-suggest_each.ensures.pairs c.in-Ok-write_closing.ensures.text

pub returns-in-Err-write_closing-clause-suggested : goal.returns-in-Err-write_closing-clause-suggested
returns-in-Err-write_closing-clause-suggested g c =
    end_left c.args.spec.now c.args.budget c.in-Ok-suggest_each.tally (g.K.Sink.held c.args.out.now) (g.K.Sink.held c.write_opening.new.out) (g.K.Sink.held c.suggest_each.new.out) (g.K.Sink.held c.write_closing.new.out) c.in-Ok.ensures.text c.in-Ok-suggest_each.ensures.pairs c.in-Err-write_closing.why c.in-Err-write_closing.ensures.text
