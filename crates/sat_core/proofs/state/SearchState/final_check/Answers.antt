use Rattle.std.proofs.Common.{ℕ, List, length, subst}
use Rattle.lin_rows.specs.Rows.{Row}
use Rattle.theory_api.specs.Laws.{IsAnswer}
use Rattle.sat_core.proofs.Outcomes.{places-so, takes-so}
use Rattle.sat_core.proofs.state.SearchState.final_check.Goals as goal

pub check-answer-requires-clause-places : goal.check-answer-requires-clause-places
check-answer-requires-clause-places g c =
    places-so c.args.self.now.grown c.args.self.now.trail (length c.args.self.now.grown.atoms) c.in_ok-assignment.assignment.lits c.in_ok-assignment.assignment.rows c.as_slice.result.now c.int_count.result c.law_fits.ensures c.in_ok-assignment.ensures c.as_slice.ensures c.int_count.ensures

pub check-answer-requires-clause-taken : goal.check-answer-requires-clause-taken
check-answer-requires-clause-taken g c =
    takes-so g.T.Theory.MAY_SPLIT g.T.Theory.takes c.args.problem.now c.args.budget c.args.self.now (length c.args.self.now.grown.atoms) c.in_ok-assignment.assignment.lits c.in_ok-assignment.assignment.rows c.as_slice.result.now c.int_count.result
    g.met.T.Theory.takes_all c.requires.taken c.requires.search c.in_ok-assignment.ensures c.as_slice.ensures c.int_count.ensures
    (places-so c.args.self.now.grown c.args.self.now.trail (length c.args.self.now.grown.atoms) c.in_ok-assignment.assignment.lits c.in_ok-assignment.assignment.rows c.as_slice.result.now c.int_count.result c.law_fits.ensures c.in_ok-assignment.ensures c.as_slice.ensures c.int_count.ensures)

pub follow-requires-clause-answered : goal.follow-requires-clause-answered
follow-requires-clause-answered g c =
    subst (λ (z : List Row). IsAnswer g.T.Theory.MAY_SPLIT g.T.Theory.MAY_STOP c.args.self.now.grown.ints z c.check-answer.result) c.as_slice.ensures
    (subst (λ (z : ℕ). IsAnswer g.T.Theory.MAY_SPLIT g.T.Theory.MAY_STOP z c.as_slice.result.now c.check-answer.result) c.int_count.ensures c.check-answer.ensures)
