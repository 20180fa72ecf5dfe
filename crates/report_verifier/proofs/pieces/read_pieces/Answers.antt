use Rattle.std.proofs.Common.{◌≡◌, ◌+◌, ◌++◌, List, ℕ, length, take, drop, subst, arith}
use Rattle.std.proofs.lemmas.List.{take-append-le}
use Rattle.std.proofs.KnownBytes.{Consumes-trans}
use Rattle.report_verifier.specs.Verifier.{AreFed}
use Rattle.report_verifier.proofs.FedLines.{taking_none, taking_more, taking_unended}
use Rattle.report_verifier.proofs.pieces.read_pieces.Goals as goal

pub loop-given-init : goal.loop-given-init
loop-given-init g c = taking_none (g.E.Source.left c.args.report.now) (g.E.Source.faults c.args.report.now) c.args.verifier.now c.args.line.now.items c.requires

pub returns-then-count-gt-MOST_REPORT_BYTES-clause-given_up :
    goal.returns-then-count-gt-MOST_REPORT_BYTES-clause-given_up
returns-then-count-gt-MOST_REPORT_BYTES-clause-given_up g c = (_, Consumes-trans _ _ _ _ _ c.loop-given.invariant.given c.in-Ok.ensures.bytes.0)

pub feed_piece-requires : goal.feed_piece-requires
feed_piece-requires g c = taking_unended _ _ _ _ _ _ _ _ c.loop-given.invariant

pub returns-in_default-clause-given_up : goal.returns-in_default-clause-given_up
returns-in_default-clause-given_up g c = (_, Consumes-trans _ _ _ _ _ c.loop-given.invariant.given c.in-Ok.ensures.bytes.0)

pub loop-given-preserved : goal.loop-given-preserved
loop-given-preserved g c =
    let front : List ℕ = take c.in-Ok.given c.read.new.buf in
    let same : take c.in-Ok.given (c.read.new.buf ++ drop (c.min-room.result + 1) c.loop-given.piece) ≡ front = take-append-le _ _ _ c.in-Ok.ensures.within.0 in
    let size : c.in-Ok.given ≡ length front = c.in-Ok.ensures.within.1 in
    taking_more (g.E.Source.left c.args.report.now) (g.E.Source.left c.loop-given.report) (g.E.Source.left c.read.new.self) (g.E.Source.faults c.args.report.now) (g.E.Source.faults c.loop-given.report) (g.E.Source.faults c.read.new.self)
    c.loop-given.count c.args.verifier.now c.loop-given.verifier c.loop-given.line.items front (c.loop-given.count + c.in-Ok.given) c.feed_piece.new.verifier c.feed_piece.new.line.items
    c.loop-given.invariant c.in-Ok.ensures.bytes.0 c.read.ensures.never_falls
    (subst (λ (x : List ℕ). AreFed c.loop-given.verifier (c.loop-given.line.items ++ x) c.feed_piece.new.verifier c.feed_piece.new.line.items) same c.in-Ok-feed_piece.ensures)
    (omega (arith, size)) (omega arith)
