use Rattle.std.proofs.Common.{◌≡◌, ◌++◌, true, sym, subst, List, ap, ◌∙◌}
use Rattle.proof_lines.specs.declared.clause.Lit.{Lit}
use Rattle.proof_lines.specs.Clauses.{distinct, without}
use Rattle.proof_lines.proofs.Sets.{distinct-without}
use Rattle.proof_lines.proofs.clause.Clause.without.Goals as goal

pub invariant_of-result : goal.invariant_of-result
invariant_of-result c =
    let apart : distinct c.lits.result.now ≡ true = rw c.lits.ensures c.law_distinct.ensures in
    let made = c.in_ok-push_others.ensures ∙ ap (λ (z : List Lit). z ++ without c.args.lit c.lits.result.now) c.new-lits.ensures in
    subst (λ (z : List Lit). distinct z ≡ true) (sym made) (distinct-without c.args.lit c.lits.result.now apart)
