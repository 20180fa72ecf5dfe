use Rattle.std.proofs.Common.{◌≤◌, length, sym, ◌∙◌, arith}
use Rattle.watched_search.proofs.Easy.{none-uneasy}
use Rattle.watched_search.proofs.Proposals.{unsplit-none, refuted-by}
use Rattle.watched_search.proofs.proposed.is_refutation.Goals as goal

pub returns-in-Ok : goal.returns-in-Ok
returns-in-Ok c = λ t split.
    let p = c.args.problem.now in
    let ls = c.args.lines.now in
    let u = unsplit-none ls (sym c.are_unsplit.ensures ∙ c.if-not-are_unsplit.false) in
    let w : length ls ≤ c.args.budget = omega (arith, c.if-lines-budget.false) in
    let m : 32 ≤ length p.atoms = omega (arith, c.if-atoms_in-lt-MANY_ATOMS.false, c.atoms_in.ensures) in
    refuted-by split p c.args.budget ls c.in-Ok.field-0 (omega (arith, c.ranges.budget.fits)) w m u (none-uneasy p (c.in-Ok.ensures.sound cc)) c.in-Ok.ensures.exact
