use Rattle.std.proofs.Common.{◌++◌, List, ℕ, length, refl, sym, subst, arith}
use Rattle.report_verifier.specs.Pieces.{IsUnended}
use Rattle.report_verifier.proofs.FedLines.{onward_line, onward_kept, onward_over}
use Rattle.report_verifier.proofs.pieces.feed_piece.Goals as goal

pub returns-in_default : goal.returns-in_default
returns-in_default c =
    onward_kept c.args.verifier.now (c.args.line.now.items ++ c.args.piece.now) c.lines.verifier c.lines.line.items c.lines.rest.now c.extend_from_slice.new.self.items c.extend_from_slice.result
    c.lines.invariant.0 c.lines.invariant.1 c.in_default.ensures.none c.extend_from_slice.ensures.items

pub lines-preserved : goal.lines-preserved
lines-preserved c = (
  onward_line c.args.verifier.now (c.args.line.now.items ++ c.args.piece.now) c.lines.verifier c.lines.line.items c.lines.rest.now c.in-Some.front.now c.in-Some.behind.now c.end_line.new.line.items c.end_line.new.verifier
      c.lines.invariant.0 c.lines.invariant.1 c.in-Some.ensures.some c.in_ok-end_line.ensures.fed c.in_ok-end_line.ensures.begun,
  subst (λ (line : List ℕ). IsUnended line) (sym c.in_ok-end_line.ensures.begun) refl,
  omega (arith, c.in-Some.ensures.fewer, c.lines.invariant.2),
)

pub returns : goal.returns
returns c = onward_over c.args.verifier.now (c.args.line.now.items ++ c.args.piece.now) c.lines.verifier c.lines.line.items c.lines.rest.now c.lines.taken (length c.args.piece.now) c.lines.invariant.0 c.lines.invariant.1 c.lines.invariant.2 (omega arith)
