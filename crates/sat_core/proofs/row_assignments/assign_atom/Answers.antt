use Rattle.std.proofs.Common.{◌≡◌, ◌<◌, ◌+◌, List, [], ◌∷◌, ◌++◌, length, refl, sym, ◌∙◌, ap, subst, Some, slice_get}
use Rattle.std.proofs.lemmas.Option.{slice_get_read}
use Rattle.lin_rows.specs.Rows.{Row}
use Rattle.proof_lines.specs.declared.clause.Lit.{Lit}
use Rattle.proof_lines.specs.declared.problem.AtomKind.{AtomKind}
use Rattle.proof_lines.specs.declared.problem.AtomKind.TheVariants.{Row as OfRow}
use Rattle.proof_lines.specs.Clauses.{lit_of}
use Rattle.proof_lines.specs.Problems.{PlainProblem}
use Rattle.sat_core.specs.Searching.{IsRowAssignment}
use Rattle.sat_core.proofs.Checked.{assignment-row}
use Rattle.sat_core.proofs.row_assignments.assign_atom.Goals as goal

pub returns-in_ok-push-in-Row-2 : goal.returns-in_ok-push-in-Row-2
returns-in_ok-push-in-Row-2 c =
    let v : c.as_slice.result.now ≡ c.args.problem.now.atoms = c.as_slice.ensures ∙ ap (λ (z : PlainProblem). z.atoms) c.problem.view_is in
    let l : c.args.atom < length c.as_slice.result.now = subst (λ (z : List AtomKind). c.args.atom < length z) (sym v) c.requires.there in
    let k : slice_get c.args.problem.now.atoms c.args.atom ≡ Some (OfRow c.in-Row.row) =
    ap (λ (z : List AtomKind). slice_get z c.args.atom) (sym v) ∙ slice_get_read c.as_slice.result.now (length c.as_slice.result.now) c.args.atom c.index-as_slice-atom.result refl l c.index-as_slice-atom.is ∙ ap (λ (z : AtomKind). Some z) c.in-Row.is in
    let d = assignment-row c.args.problem.now.atoms c.args.trail.now c.args.atom c.args.assignment.now.lits c.args.assignment.now.rows c.in-Row.row c.in_ok-row-in-Row.row c.holds-positive.result c.requires.assignment k c.requires.assigned c.holds-positive.ensures c.in_ok-row-in-Row.ensures in
    subst (λ (z : List Lit). IsRowAssignment c.args.problem.now.atoms c.args.trail.now (c.args.atom + 1) z c.push-in-Row.new.self) (sym c.in_ok-push-in-Row.ensures.ok)
    (subst (λ (z : List Row). IsRowAssignment c.args.problem.now.atoms c.args.trail.now (c.args.atom + 1) (c.args.assignment.now.lits ++ lit_of c.args.atom c.holds-positive.result ∷ []) z) (sym c.in_ok-push-in-Row-2.ensures.ok) d)
