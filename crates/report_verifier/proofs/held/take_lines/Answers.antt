use Rattle.std.proofs.Common.{refl, arith}
use Rattle.report_bytes.proofs.Cutting.{no_bytes}
use Rattle.report_verifier.proofs.FedLines.{onward_more, onward_end, onward_fed, unnoted}
use Rattle.report_verifier.proofs.NotedLines.{noted_on, none_noted}
use Rattle.report_verifier.proofs.held.take_lines.Goals as goal

pub lines-init : goal.lines-init
lines-init c = record {
  fed = (refl, refl);
  noted = none_noted c.args.notes.now.items c.args.bytes.now c.requires;
  fewer = omega arith;
}

pub returns-in_default-clause-fed : goal.returns-in_default-clause-fed
returns-in_default-clause-fed c = onward_end c.args.verifier.now c.args.bytes.now c.lines.verifier c.lines.rest.now c.lines.invariant.fed c.in_default.ensures.none

pub lines-preserved : goal.lines-preserved
lines-preserved c =
    let fewer = c.lines.invariant.fewer in
    let less = c.in-Some.ensures.fewer in
    record {
      fed = onward_more c.args.verifier.now c.args.bytes.now c.lines.verifier c.lines.rest.now c.in-Some.line.now c.in-Some.behind.now c.take_line.new.verifier c.lines.invariant.fed c.in-Some.ensures.some c.in_ok-take_line.ensures.fed;
      noted = noted_on c.lines.notes.items c.take_line.new.notes.items c.args.bytes.now c.lines.rest.now c.in-Some.line.now c.in-Some.behind.now c.lines.invariant.noted c.in-Some.ensures.some (c.in_ok-take_line.ensures.noted c.if-not-branch.false);
      fewer = omega (arith, fewer, less);
    }

pub returns-then-not-branch-clause-fed : goal.returns-then-not-branch-clause-fed
returns-then-not-branch-clause-fed c =
    onward_fed c.feed_lines.result (λ rest. rest.now) c.args.verifier.now c.args.bytes.now c.take_line.new.verifier c.in-Some.behind.now c.feed_lines.new.verifier
    (onward_more c.args.verifier.now c.args.bytes.now c.lines.verifier c.lines.rest.now c.in-Some.line.now c.in-Some.behind.now c.take_line.new.verifier c.lines.invariant.fed c.in-Some.ensures.some c.in_ok-take_line.ensures.fed)
    c.feed_lines.ensures.fed

pub returns-then-not-branch-clause-noted : goal.returns-then-not-branch-clause-noted
returns-then-not-branch-clause-noted c =
    unnoted c.feed_lines.result (λ rest. rest.now) c.take_line.new.notes.items c.args.bytes.now c.lines.verifier c.in-Some.line.now c.take_line.new.verifier c.in-Some.behind.now c.feed_lines.new.verifier
    c.in_ok-take_line.ensures.fed (c.in_ok-take_line.ensures.faulty c.if-not-branch.true) c.feed_lines.ensures.fed

pub returns-clause-fed : goal.returns-clause-fed
returns-clause-fed c =
    let fewer = c.lines.invariant.fewer in
    onward_end c.args.verifier.now c.args.bytes.now c.lines.verifier c.lines.rest.now c.lines.invariant.fed (no_bytes c.lines.rest.now (omega (arith, fewer)))

pub returns-clause-over : goal.returns-clause-over
returns-clause-over c = let fewer = c.lines.invariant.fewer in no_bytes c.lines.rest.now (omega (arith, fewer))
