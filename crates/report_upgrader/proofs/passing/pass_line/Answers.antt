use Rattle.std.proofs.Common.{ℕ, Option, subst}
use Rattle.report_upgrader.specs.Passing.{IsBegun}
use Rattle.report_upgrader.proofs.Steps.{plain_next, log_next, plain_ok, log_ok, same_bytes, stopped_at}
use Rattle.report_upgrader.proofs.passing.pass_line.Goals as goal

pub returns-in_default-clause-front : goal.returns-in_default-clause-front
returns-in_default-clause-front g c = λ task rest cut way. stopped_at task (record { rest = rest; text = c.args.text.now.items }) (g.K.Sink.held c.args.out.now) way

-- a log

pub returns-in-Some-clause-ok : goal.returns-in-Some-clause-ok
returns-in-Some-clause-ok g c = λ task rest cut way.
    let there = g.K.Sink.held c.args.out.now in
    let n = log_next task c.args.line.now c.args.behind.bytes.now c.args.text.now.items rest c.in-Some.count there cut (λ d e es says followed. subst (λ (b : Option ℕ). IsBegun b e) c.in-Some.is (c.in-Ok.ensures d e es says followed)) way in
    log_ok c.pass_log.result (λ left. left.bytes.now) task c.in-Some.count c.args.behind.bytes.now there (g.K.Sink.held c.pass_log.new.out) c.args.text.now.items c.pass_log.new.text.items n
    (c.pass_log.ensures.ok n.log n.long n.says task.whole n.later task.before n.gathered) c.pass_log.ensures.behind

pub returns-in-Some-clause-front : goal.returns-in-Some-clause-front
returns-in-Some-clause-front g c = λ task rest cut way.
    let there = g.K.Sink.held c.args.out.now in
    let n = log_next task c.args.line.now c.args.behind.bytes.now c.args.text.now.items rest c.in-Some.count there cut (λ d e es says followed. subst (λ (b : Option ℕ). IsBegun b e) c.in-Some.is (c.in-Ok.ensures d e es says followed)) way in
    c.pass_log.ensures.front n.log n.long n.says task.whole n.later task.before n.gathered

-- any other line

pub returns-in-None-clause-ok : goal.returns-in-None-clause-ok
returns-in-None-clause-ok g c = λ task rest cut way.
    let there = g.K.Sink.held c.args.out.now in
    let n = plain_next task c.args.line.now c.args.behind.bytes.now c.args.text.now.items rest there cut (λ d e es says followed. subst (λ (b : Option ℕ). IsBegun b e) c.in-None.is (c.in-Ok.ensures d e es says followed)) way in
    plain_ok c.pass_plain.result (λ left. left.bytes.now) task c.args.line.now c.args.behind.bytes.now there (g.K.Sink.held c.pass_plain.new.out) c.args.text.now.items c.pass_plain.new.text.items n
    (c.pass_plain.ensures.ok task.whole n.later task.before n.gathered) (same_bytes c.pass_plain.result (λ left. left.bytes.now) c.args.behind c.pass_plain.ensures.behind)

pub returns-in-None-clause-front : goal.returns-in-None-clause-front
returns-in-None-clause-front g c = λ task rest cut way.
    let there = g.K.Sink.held c.args.out.now in
    let n = plain_next task c.args.line.now c.args.behind.bytes.now c.args.text.now.items rest there cut (λ d e es says followed. subst (λ (b : Option ℕ). IsBegun b e) c.in-None.is (c.in-Ok.ensures d e es says followed)) way in
    c.pass_plain.ensures.front task.whole n.later task.before n.gathered
