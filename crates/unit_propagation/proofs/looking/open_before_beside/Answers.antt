use Rattle.std.proofs.Common.{◌≡◌, ◌≤◌, true, List, length, subst, arith}
use Rattle.std.proofs.lemmas.List.{take_all}
use Rattle.proof_lines.specs.declared.clause.Lit.{Lit}
use Rattle.sat_core.specs.Trails.{others_false, before_last}
use Rattle.unit_propagation.proofs.looking.open_before_beside.Goals as goal

pub returns : goal.returns
returns c =
    let l : length c.args.lits.now ≤ c.loop-lit.lit-index = omega arith in
    subst (λ (z : List Lit). others_false (before_last c.args.trail.now) z c.args.one ≡ true) (take_all c.loop-lit.lit-index c.args.lits.now l) c.loop-lit.invariant
