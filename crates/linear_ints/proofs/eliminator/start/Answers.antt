use Rattle.elimination.specs.declared.tableau.Tableau.{Tableau}
use Rattle.linear_ints.proofs.Starting.{left-all, left-below}
use Rattle.elimination.proofs.Taking.{taking-start}
use Rattle.linear_ints.proofs.eliminator.start.Goals as goal

pub returns-clause-taking : goal.returns-clause-taking
returns-clause-taking c =
    let t : Tableau = record { ints = c.args.ints; used = c.new.result; steps = c.new-2.result; held = c.new-3.result; order = c.new-4.result; left = c.in_ok-left.left } in
    taking-start c.args.rows.now t c.requires.rows c.new.ensures c.new-2.ensures c.new-3.ensures c.new-4.ensures (left-below c.args.rows.now c.args.ints c.in_ok-left.left c.requires.places c.in_ok-left.ensures)
    (left-all c.args.rows.now c.in_ok-left.left c.in_ok-left.ensures)
