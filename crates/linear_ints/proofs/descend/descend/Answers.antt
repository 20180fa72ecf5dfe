use Rattle.std.proofs.Common.{◌≡◌, ℕ, ℤ, ◌+◌, ◌-◌, List, sym, subst, arith}
use Rattle.theory_api.specs.Laws.{IsModel}
use Rattle.linear_ints.specs.Descending.{IsDescent}
use Rattle.linear_ints.proofs.Descents.{descent-start, descent-model}
use Rattle.linear_ints.proofs.descend.descend.Goals as goal

pub stages-init : goal.stages-init
stages-init c = (
  subst (λ (n : ℕ). IsDescent c.args.tableau.now n c.in-Ok.values.items) (sym c.len-stage.ensures)
      (descent-start c.args.rows.now c.args.tableau.now c.in-Ok.values.items c.requires.elimination c.requires.left c.in-Ok.ensures.whole c.in-Ok.ensures.zero c.in-Ok.ensures.in_range),
  omega (arith, c.len-stage.ensures),
)

pub choose_value-requires-clause-descent : goal.choose_value-requires-clause-descent
choose_value-requires-clause-descent c =
    let h = c.stages-test.true in
    let e : c.stages.stage ≡ c.stages.stage - 1 + 1 = omega arith in
    subst (λ (n : ℕ). IsDescent c.args.tableau.now n c.stages.values.items) e c.stages.invariant.0

pub stages-preserved : goal.stages-preserved
stages-preserved c = (c.in-Ok-choose_value.ensures, (let h = c.stages.invariant.1 in omega arith))

pub returns : goal.returns
returns c =
    let h = c.stages-test.false in
    let e : c.stages.stage ≡ 0 = omega arith in
    subst (λ (l : List ℤ). IsModel c.args.tableau.now.ints c.args.rows.now l) (sym c.from_vec.ensures)
    (descent-model c.args.rows.now c.args.tableau.now c.stages.values.items c.requires.elimination c.requires.rows (subst (λ (n : ℕ). IsDescent c.args.tableau.now n c.stages.values.items) e c.stages.invariant.0))
