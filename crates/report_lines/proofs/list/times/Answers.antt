use Rattle.std.proofs.lemmas.Result.{err_from_is_err_and}
use Rattle.report_lines.specs.Formats.{times_at}
use Rattle.report_lines.specs.Words.{left}
use Rattle.report_lines.proofs.Loops.{begins, goes_on, ends, is_done}
use Rattle.report_lines.proofs.list.times.Goals as goal

pub entries-init : goal.entries-init
entries-init g c = begins g.T.Entry.format c.in_ok-entries.entries c.args.count (left c.args.words) c.in_ok-entries.ensures

pub returns-in_err-entry : goal.returns-in_err-entry
returns-in_err-entry g c =
    let p = err_from_is_err_and c.from_residual-in_err-entry.result c.from_residual-in_err-entry.ensures.1 in
    rw (p.1, p.2) (ends g.T.Entry.format c.in_err-entry.field-0.0 c.entries.entries c.args.count c.entries.counter (left c.entries.rest) (times_at g.T.Entry.format c.args.count (left c.args.words)) c.entries-test.true c.in_err-entry.ensures c.entries.invariant)

pub entries-preserved : goal.entries-preserved
entries-preserved g c =
    rw c.in_ok-push.ensures.ok (goes_on g.T.Entry.format c.entries.entries c.args.count c.entries.counter (left c.entries.rest) c.in_ok-entry.entry (left c.in_ok-entry.after) (times_at g.T.Entry.format c.args.count (left c.args.words)) c.entries-test.true c.in_ok-entry.ensures c.entries.invariant)

pub returns : goal.returns
returns g c = is_done g.T.Entry.format c.entries.entries c.args.count c.entries.counter (left c.entries.rest) (times_at g.T.Entry.format c.args.count (left c.args.words)) c.entries-test.false c.entries.invariant
