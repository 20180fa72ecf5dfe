use Rattle.std.proofs.Common.{◌≡◌, true, List, ◌∙◌, ap, subst}
use Rattle.std.specs.List.{list_all}
use Rattle.proof_lines.specs.declared.problem.AtomKind.{AtomKind}
use Rattle.proof_lines.specs.Problems.{PlainProblem, has_good_row}
use Rattle.sat_core.proofs.Ends.{shows-none}
use Rattle.watched_search.proofs.solving.solve.Goals as goal

pub returns-clause-none : goal.returns-clause-none
returns-clause-none g c =
    let good = subst (λ (z : List AtomKind). list_all has_good_row z ≡ true) (c.as_slice.ensures ∙ ap (λ (z : PlainProblem). z.atoms) c.problem.view_is) c.law_rows.ensures in
    shows-none g.T.Theory.MAY_SPLIT g.T.Theory.MAY_STOP c.args.problem.now c.args.budget c.search.result c.search.ensures c.law_fits.ensures good
