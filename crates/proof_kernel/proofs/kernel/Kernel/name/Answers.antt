use Rattle.std.proofs.Common.{◌≡◌, true, sym, subst, arith, ap, ◌∙◌, length, length-append, ◌∷◌, []}
use Rattle.proof_lines.specs.declared.problem.AtomKind.TheVariants.{Row as OfRow}
use Rattle.lin_rows.specs.Rows.{places_below}
use Rattle.proof_kernel.specs.Rules.{State}
use Rattle.proof_kernel.proofs.States.{fits-named}
use Rattle.proof_kernel.proofs.kernel.Kernel.name.Goals as goal

pub invariant_of-self-2 : goal.invariant_of-self-2
invariant_of-self-2 c =
    let below = subst (λ (s : State). places_below s.ints c.args.row ≡ true) (sym c.self.view_is) c.requires.below in
    let is = c.in_ok-push.ensures.ok in
    let few = ap length is ∙ length-append c.self.inside.atoms (OfRow c.args.row ∷ []) in
    fits-named _ _ c.args.row c.self.invariant is (omega (arith, few, c.if-len.false, c.len.ensures)) c.requires.good below
