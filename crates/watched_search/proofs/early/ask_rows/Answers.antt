use Rattle.std.proofs.Common.{◌≡◌, true, List, ℕ, map, sym, ◌∙◌, ap, subst}
use Rattle.lin_rows.specs.Rows.{Row}
use Rattle.proof_lines.specs.Problems.{PlainProblem}
use Rattle.theory_api.specs.Laws.{all_below, are_given, IsConflict, IsAnswer}
use Rattle.theory_api.proofs.Standing.{lit_at}
use Rattle.sat_core.proofs.Outcomes.{places-so, picks-so}
use Rattle.theory_api.specs.declared.answer.TheoryAnswer.{TheoryAnswer}
use Rattle.watched_search.proofs.Rows.{assignment-held, clash-so}
use Rattle.watched_search.proofs.early.ask_rows.Goals as goal

pub answer_of-requires-clause-places : goal.answer_of-requires-clause-places
answer_of-requires-clause-places g c =
    let d = c.in_ok-assignment.assignment in
    places-so c.args.problem.now c.args.trail.now 0 d.lits d.rows c.as_slice.result.now c.problem.inside.ints c.law_fits.ensures (assignment-held c.args.problem.now.atoms c.args.trail.now d.lits d.rows c.in_ok-assignment.ensures) c.as_slice.ensures (ap (λ (z : PlainProblem). z.ints) c.problem.view_is)

pub answer_of-requires-clause-taken : goal.answer_of-requires-clause-taken
answer_of-requires-clause-taken g c =
    let d = c.in_ok-assignment.assignment in
    let i = ap (λ (z : PlainProblem). z.ints) c.problem.view_is in
    let b = places-so c.args.problem.now c.args.trail.now 0 d.lits d.rows c.as_slice.result.now c.problem.inside.ints c.law_fits.ensures (assignment-held c.args.problem.now.atoms c.args.trail.now d.lits d.rows c.in_ok-assignment.ensures) c.as_slice.ensures i in
    let k : all_below c.args.problem.now.ints d.rows ≡ true = subst (λ (z : ℕ). all_below z d.rows ≡ true) i (subst (λ (z : List Row). all_below c.problem.inside.ints z ≡ true) c.as_slice.ensures b) in
    subst (λ (z : ℕ). g.T.Theory.takes c.as_slice.result.now z) (sym i) (subst (λ (z : List Row). g.T.Theory.takes z c.args.problem.now.ints) (sym c.as_slice.ensures) (c.requires.taken d.lits d.rows c.in_ok-assignment.ensures.stand k))

pub pick-requires : goal.pick-requires
pick-requires g c =
    let d = c.in_ok-assignment.assignment in
    let con : IsConflict c.as_slice.result.now c.in-Conflict.used c.in-Conflict.steps = subst (λ (z : TheoryAnswer). IsAnswer true true c.problem.inside.ints c.as_slice.result.now z) c.in-Conflict.is c.in-Some.ensures in
    let given : are_given d.rows c.in-Conflict.used ≡ true = subst (λ (z : List Row). are_given z c.in-Conflict.used ≡ true) c.as_slice.ensures con.given in
    picks-so c.args.problem.now c.args.trail.now 0 d.lits c.as_slice-in-Conflict.result.now d.rows c.in-Conflict.used c.as_slice-in-Conflict-2.result.now (assignment-held c.args.problem.now.atoms c.args.trail.now d.lits d.rows c.in_ok-assignment.ensures) given c.as_slice-in-Conflict.ensures c.as_slice-in-Conflict-2.ensures

pub returns-in-Ok : goal.returns-in-Ok
returns-in-Ok g c =
    let d = c.in_ok-assignment.assignment in
    let early : IsConflict c.as_slice.result.now c.in-Conflict.used c.in-Conflict.steps = subst (λ (z : TheoryAnswer). IsAnswer true true c.problem.inside.ints c.as_slice.result.now z) c.in-Conflict.is c.in-Some.ensures in
    let con : IsConflict d.rows c.in-Conflict.used c.in-Conflict.steps = subst (λ (z : List Row). IsConflict z c.in-Conflict.used c.in-Conflict.steps) c.as_slice.ensures early in
    let e : c.in-Ok.value ≡ map (lit_at d.lits) c.in-Conflict.used = c.in-Ok.ensures ∙ (λ i. map (lit_at (c.as_slice-in-Conflict.ensures i)) (c.as_slice-in-Conflict-2.ensures i)) in
    clash-so c.args.problem.now c.args.trail.now d.lits d.rows c.in-Conflict.used c.in-Ok.value c.in-Conflict.steps c.in_ok-assignment.ensures con e
