use Rattle.std.proofs.Common.{◌≡◌, [], ◌∷◌, Some, true, length, sym, ap, ◌∙◌, subst, arith}
use Rattle.std.proofs.lemmas.List.{length-append}
use Rattle.proof_lines.specs.Problems.{atoms_below}
use Rattle.proof_kernel.specs.Rules.{State}
use Rattle.proof_kernel.proofs.States.{fits-grown}
use Rattle.proof_kernel.proofs.kernel.Kernel.grow.Goals as goal

pub invariant_of-self-2 : goal.invariant_of-self-2
invariant_of-self-2 c =
    let below = subst (λ (s : State). atoms_below (length s.atoms) c.args.lits.now ≡ true) (sym c.self.view_is) c.requires.named in
    let more = ap length c.in_ok-push.ensures.ok ∙ length-append c.self.inside.slots (Some c.args.lits.now ∷ []) in
    fits-grown _ _ _ _ c.self.invariant c.in_ok-push.ensures.ok (omega (arith, c.if-len.false, c.len.ensures, more)) below
