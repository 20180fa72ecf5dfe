use Rattle.std.proofs.Common.{◌≡◌, true, sym, subst, List, ◌∙◌}
use Rattle.proof_lines.specs.declared.clause.Lit.{Lit}
use Rattle.proof_lines.specs.Clauses.{distinct}
use Rattle.proof_lines.proofs.Sets.{distinct-resolvent}
use Rattle.proof_lines.proofs.clause.Clause.long_resolvent.Goals as goal

pub invariant_of-result : goal.invariant_of-result
invariant_of-result c =
    let left : distinct c.lits-left.result.now ≡ true = rw c.lits-left.ensures c.law_distinct.ensures in
    subst (λ (z : List Lit). distinct z ≡ true) (sym (c.from_vec.ensures ∙ c.in_ok-put_both.ensures)) (distinct-resolvent c.args.atom c.lits-left.result.now c.lits-right.result.now left)
