use Rattle.std.proofs.Common.{refl, arith}
use Rattle.report_bytes.proofs.Cutting.{no_bytes}
use Rattle.report_verifier.proofs.FedLines.{onward_more, onward_end}
use Rattle.report_verifier.proofs.held.feed_lines.Goals as goal

pub lines-init : goal.lines-init
lines-init c = record {
  fed = (refl, refl);
  fewer = omega arith;
}

pub returns-in_default-clause-fed : goal.returns-in_default-clause-fed
returns-in_default-clause-fed c = onward_end c.args.verifier.now c.args.bytes.now c.lines.verifier c.lines.rest.now c.lines.invariant.fed c.in_default.ensures.none

pub lines-preserved : goal.lines-preserved
lines-preserved c =
    let fewer = c.lines.invariant.fewer in
    let less = c.in-Some.ensures.fewer in
    record {
      fed = onward_more c.args.verifier.now c.args.bytes.now c.lines.verifier c.lines.rest.now c.in-Some.line.now c.in-Some.behind.now c.feed.new.self c.lines.invariant.fed c.in-Some.ensures.some c.in_ok-feed.ensures.1;
      fewer = omega (arith, fewer, less);
    }

pub returns-clause-fed : goal.returns-clause-fed
returns-clause-fed c =
    let fewer = c.lines.invariant.fewer in
    onward_end c.args.verifier.now c.args.bytes.now c.lines.verifier c.lines.rest.now c.lines.invariant.fed (no_bytes c.lines.rest.now (omega (arith, fewer)))

pub returns-clause-over : goal.returns-clause-over
returns-clause-over c = let fewer = c.lines.invariant.fewer in no_bytes c.lines.rest.now (omega (arith, fewer))
