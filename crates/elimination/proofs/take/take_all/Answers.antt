use Rattle.std.proofs.Common.{◌≡◌, ℕ, length, refl, ◌∙◌, subst, arith}
use Rattle.elimination.specs.Tableaux.{IsTaking}
use Rattle.elimination.proofs.take.take_all.Goals as goal

pub loop-number-init : goal.loop-number-init
loop-number-init c = (c.requires, refl)

pub take_row-requires-clause-taking : goal.take_row-requires-clause-taking
take_row-requires-clause-taking c = c.loop-number.invariant.0

pub loop-number-preserved : goal.loop-number-preserved
loop-number-preserved c = (c.in-Ok.ensures.0, c.in-Ok.ensures.1 ∙ c.loop-number.invariant.1)

pub returns : goal.returns
returns c =
    let e : c.loop-number.number ≡ length c.args.rows.now = omega arith in
    (subst (λ (n : ℕ). IsTaking c.args.rows.now n c.loop-number.tableau) e c.loop-number.invariant.0, c.loop-number.invariant.1)
