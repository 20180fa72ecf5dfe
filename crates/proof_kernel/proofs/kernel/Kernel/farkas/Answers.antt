use Rattle.std.proofs.Common.{◌≡◌, true, length, sym, ◌∙◌, ap, subst, List}
use Rattle.proof_lines.specs.declared.clause.Lit.{Lit}
use Rattle.proof_lines.specs.declared.problem.AtomKind.{AtomKind}
use Rattle.proof_lines.specs.Clauses.{negations}
use Rattle.line_rows.specs.Kept.{Ends}
use Rattle.proof_lines.specs.Problems.{atoms_below}
use Rattle.line_rows.specs.Steps.{line_rows}
use Rattle.proof_kernel.specs.Rules.{State}
use Rattle.line_rows.proofs.Names.{negations-below}
use Rattle.proof_kernel.proofs.kernel.Kernel.farkas.Goals as goal

pub grow-grown-requires-clause-named : goal.grow-grown-requires-clause-named
grow-grown-requires-clause-named c =
    let atoms = c.as_slice.ensures ∙ ap (λ (s : State). s.atoms) c.self.view_is in
    let ends : Ends c.in-Ok-true.field-0 (line_rows c.as_slice.result.now c.args.used.now c.args.steps.now) = c.in-Ok-true.ensures in
    let below = negations-below c.as_slice.result.now c.args.used.now c.args.steps.now ends.0 ends.1 in
    subst (λ (z : List Lit). atoms_below (length c.args.self.now.atoms) z ≡ true) (sym (c.lits.ensures ∙ c.in-Ok.ensures))
    (subst (λ (z : List AtomKind). atoms_below (length z) (negations c.args.used.now) ≡ true) atoms below)
