use Rattle.std.proofs.Common.{◌≡◌, true, false, sym, subst, List, ◌∙◌}
use Rattle.proof_lines.specs.declared.clause.Lit.{Lit}
use Rattle.proof_lines.specs.Clauses.{has, distinct}
use Rattle.proof_lines.proofs.Sets.{distinct-push}
use Rattle.proof_lines.proofs.clause.Clause.insert.Goals as goal

pub invariant_of-self-2 : goal.invariant_of-self-2
invariant_of-self-2 c =
    let absent : has c.self.inside.lits c.args.lit ≡ false = rw (c.self.view_is) (sym c.holds.ensures ∙ c.if-holds.false) in
    subst (λ (z : List Lit). distinct z ≡ true) (sym c.in_ok-push.ensures.ok) (distinct-push c.self.inside.lits c.args.lit c.self.invariant absent)
