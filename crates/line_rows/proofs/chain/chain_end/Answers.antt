use Rattle.std.proofs.Common.{◌≡◌, ◌+◌, ◌∷◌, ◌++◌, [], ℕ, pos, get_or, List, length, None, Some, Ok, refl, sym, ◌∙◌, ap, subst, arith}
use Rattle.std.specs.Prelude.{slice_get, Option, IfSome}
use Rattle.std.proofs.lemmas.List.{drop_all}
use Rattle.std.proofs.lemmas.Option.{slice_get-get_or}
use Rattle.lin_rows.specs.Rows.{Row}
use Rattle.proof_lines.specs.declared.line.RowStep.{RowStep}
use Rattle.line_rows.specs.Refusals.{IsTold}
use Rattle.line_rows.specs.Steps.{with_steps, step_row}
use Rattle.line_rows.specs.Kept.{IsChain}
use Rattle.line_rows.proofs.Keeping.{steps-next, steps-stop}
use Rattle.line_rows.proofs.Chains.{chain-first, chain-next, last-chain}
use Rattle.line_rows.proofs.chain.chain_end.Goals as goal

abbrev no_step : RowStep
no_step = record { left = 0; first = pos 0; right = 0; second = pos 0 }

pub loop-i-init : goal.loop-i-init
loop-i-init c all k =
    let kept = c.args.kept.now in
    let e : length kept ≡ length kept + 0 = omega arith in
    (all, refl, subst (λ (n : ℕ). IsChain all kept None n) e (chain-first all kept k))

pub returns-in-Err : goal.returns-in-Err
returns-in-Err c all k =
    let w = c.loop-i.invariant all k in
    let steps = c.args.steps.now in
    let i = c.loop-i.i in
    let s : RowStep = get_or steps i no_step in
    let g : slice_get steps i ≡ Some s = slice_get-get_or steps i no_step c.loop-i-test.true in
    subst (IsTold c.in-Err.refused) (sym w.1) (steps-stop w.0 steps i s c.in-Err.refused g (c.in-Err.ensures w.0 w.2))

pub loop-i-preserved : goal.loop-i-preserved
loop-i-preserved c all k =
    let w = c.loop-i.invariant all k in
    let steps = c.args.steps.now in
    let kept = c.args.kept.now in
    let i = c.loop-i.i in
    let row = c.in-Ok-Some.row in
    let s : RowStep = get_or steps i no_step in
    let g : slice_get steps i ≡ Some s = slice_get-get_or steps i no_step c.loop-i-test.true in (
      w.0 ++ row ∷ [],
      w.1 ∙ steps-next w.0 steps i (i + 1) s row (omega arith) g (subst (λ (o : Option Row). IfSome o (λ r. step_row w.0 s ≡ Ok r)) c.in-Ok-Some.field-0-is (c.in-Ok-Some.ensures w.0 w.2)),
      chain-next w.0 kept c.loop-i.last (length kept + i) (length kept + (i + 1)) row (omega arith) (omega arith) w.2,
    )

pub returns : goal.returns
returns c all k =
    let w = c.loop-i.invariant all k in
    let steps = c.args.steps.now in
    let i = c.loop-i.i in
    last-chain (with_steps all steps) w.0 c.args.kept.now c.loop-i.last (length c.args.kept.now + i)
    (w.1 ∙ ap (λ (rest : List RowStep). with_steps w.0 rest) (drop_all i steps c.loop-i-test.false)) w.2
