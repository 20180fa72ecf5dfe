use Rattle.std.proofs.Common.{◌≡◌, false, not, ◌&&◌, List, sym, subst, get_or}
use Rattle.proof_lines.specs.declared.clause.Lit.{Lit}
use Rattle.proof_lines.specs.Clauses.{has, same_lit}
use Rattle.proof_lines.proofs.Resolving.{has-left}
use Rattle.proof_lines.proofs.clause.put_right.Goals as goal

pub put_new-requires-clause-there : goal.put_new-requires-clause-there
put_new-requires-clause-there c =
    let none : Lit = record { atom = 0; positive = false } in
    let x : Lit = get_or c.args.right.now c.loop-lit.lit-index none in
    subst (λ (z : List Lit). has z x ≡ (not (same_lit x c.args.up) && has c.args.left.now x)) (sym c.loop-lit.invariant)
    (has-left c.args.up c.args.left.now c.args.right.now c.loop-lit.lit-index none c.requires.right c.loop-lit-test.true)
