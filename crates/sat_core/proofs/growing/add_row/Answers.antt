use Rattle.std.proofs.Common.{◌≡◌, true, List, sym, subst}
use Rattle.lin_rows.specs.Rows.{places_below}
use Rattle.proof_lines.specs.declared.problem.AtomKind.{AtomKind}
use Rattle.proof_lines.specs.Problems.{PlainProblem, fits}
use Rattle.sat_core.proofs.Keeping.{fits-row}
use Rattle.sat_core.proofs.growing.add_row.Goals as goal

pub invariant_of-problem-2 : goal.invariant_of-problem-2
invariant_of-problem-2 c =
    let below = subst (λ (z : PlainProblem). places_below z.ints c.args.row ≡ true) (sym c.problem.view_is) c.requires in
    subst (λ (z : List AtomKind). fits (record { atoms = z; ints = c.problem.inside.ints; clauses = c.problem.inside.clauses }) ≡ true) (sym c.in_ok-push.ensures.ok)
    (fits-row (record { atoms = c.problem.inside.atoms; ints = c.problem.inside.ints; clauses = c.problem.inside.clauses }) c.args.row c.problem.invariant below)
