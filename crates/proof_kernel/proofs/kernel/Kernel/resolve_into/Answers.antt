use Rattle.std.proofs.Common.{◌≡◌, true, length, sym, ◌∙◌, subst, List}
use Rattle.proof_lines.specs.declared.clause.Lit.{Lit}
use Rattle.proof_lines.specs.Clauses.{distinct, resolvent}
use Rattle.proof_lines.specs.Problems.{atoms_below}
use Rattle.proof_kernel.specs.Rules.{State}
use Rattle.proof_lines.proofs.Sets.{distinct-resolvent}
use Rattle.line_rows.proofs.Names.{all-resolvent}
use Rattle.proof_kernel.proofs.States.{live-named}
use Rattle.proof_kernel.proofs.kernel.Kernel.resolve_into.Goals as goal

made_is : (c : goal.After-as_slice) → c.as_slice.result.now ≡ resolvent c.args.pivot c.in-Some-Some.left.now c.in-Some-Some.right.now
made_is c = c.as_slice.ensures.value ∙ c.in-Ok-true.ensures.put c.in-Ok-true.field-0-test

pub grow-requires-clause-named : goal.grow-requires-clause-named
grow-requires-clause-named c =
    let left = live-named _ c.self.invariant c.args.left c.in-Some-Some.left.now c.in-Some-Some.ensures.there in
    let right = live-named _ c.self.invariant c.args.right c.in-Some-Some.right.now c.in-Some-Some.ensures'.there in
    let both = all-resolvent _ c.args.pivot c.in-Some-Some.left.now c.in-Some-Some.right.now left right in
    subst (λ (z : State). atoms_below (length z.atoms) c.as_slice.result.now ≡ true) c.self.view_is
    (subst (λ (z : List Lit). atoms_below (length c.self.inside.atoms) z ≡ true) (sym (made_is c)) both)

pub grow-requires-clause-apart : goal.grow-requires-clause-apart
grow-requires-clause-apart c =
    subst (λ (z : List Lit). distinct z ≡ true) (sym (made_is c)) (distinct-resolvent c.args.pivot c.in-Some-Some.left.now c.in-Some-Some.right.now c.in-Some-Some.ensures.apart)
