use Rattle.std.proofs.Common.{◌≡◌, ◌-◌, ◌∷◌, List, drop, sym, ◌∙◌, ap, arith, reverse}
use Rattle.proof_lines.specs.declared.line.Line.{Line}
use Rattle.report_upgrader.specs.UpgradedLogs.{is_named, upgraded}
use Rattle.report_upgrader.proofs.Backwards.{front_at, written}
use Rattle.report_upgrader.proofs.dropping.upgrade_log.Goals as goal

pub loop-i-preserved : goal.loop-i-preserved
loop-i-preserved c =
    let ls = c.args.lines.now in
    let i = c.loop-i.i in
    let line : Line = c.index-lines-i.result in
    let later = drop i ls in
    let front : drop (i - 1) ls ≡ line ∷ later = front_at ls i line c.loop-i-test.true c.loop-i.invariant.within ∙ ap (λ (z : Line). z ∷ later) (sym c.index-lines-i.is) in
    record {
      within = omega (arith, c.loop-i.invariant.within);
      seen = λ n. c.in_ok-put.ensures.seen later c.loop-i.invariant.seen n ∙ ap (λ (z : List Line). is_named z n) (sym front);
      out = written line later c.loop-i.out.items c.put.new.out.items c.loop-i.invariant.out (c.in_ok-put.ensures.out later c.loop-i.invariant.seen) ∙ ap (λ (z : List Line). reverse (upgraded z)) (sym front);
    }
