use Rattle.check_run.proofs.Whole.{head_left, blocks_left, end_left, whole}
use Rattle.check_run.proofs.checking.check_listed.Goals as goal

pub returns-in-Err-clause-report : goal.returns-in-Err-clause-report
returns-in-Err-clause-report g c =
    head_left c.args.spec.now c.args.budget (g.K.Sink.held c.args.out.now) (g.K.Sink.held c.write_opening.new.out) c.in-Err.why c.in-Err.ensures.text

pub returns-in-Err-check_each-clause-report : goal.returns-in-Err-check_each-clause-report
returns-in-Err-check_each-clause-report g c =
    blocks_left c.args.spec.now c.args.budget (g.K.Sink.held c.args.out.now) (g.K.Sink.held c.write_opening.new.out) (g.K.Sink.held c.check_each.new.out) c.in-Err-check_each.why c.in-Ok.ensures.text c.in-Err-check_each.ensures.blocks

pub returns-in-Ok-write_closing-clause-report : goal.returns-in-Ok-write_closing-clause-report
returns-in-Ok-write_closing-clause-report g c =
    whole c.args.spec.now c.args.budget c.in-Ok-check_each.tally (g.K.Sink.held c.args.out.now) (g.K.Sink.held c.write_opening.new.out) (g.K.Sink.held c.check_each.new.out) (g.K.Sink.held c.write_closing.new.out) c.in-Ok.ensures.text c.in-Ok-check_each.ensures.blocks c.in-Ok-write_closing.ensures.text

pub returns-in-Err-write_closing-clause-report : goal.returns-in-Err-write_closing-clause-report
returns-in-Err-write_closing-clause-report g c =
    end_left c.args.spec.now c.args.budget c.in-Ok-check_each.tally (g.K.Sink.held c.args.out.now) (g.K.Sink.held c.write_opening.new.out) (g.K.Sink.held c.check_each.new.out) (g.K.Sink.held c.write_closing.new.out) c.in-Ok.ensures.text c.in-Ok-check_each.ensures.blocks c.in-Err-write_closing.why c.in-Err-write_closing.ensures.text
