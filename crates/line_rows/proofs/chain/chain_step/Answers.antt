use Rattle.std.proofs.Common.{◌≡◌, Some, rules, sym, ◌∙◌, subst}
use Rattle.line_rows.specs.Refusals.{IsTold}
use Rattle.line_rows.specs.Kept.{chain_at}
use Rattle.line_rows.proofs.Chains.{step-chain}
use Rattle.line_rows.proofs.chain.chain_step.Goals as goal

pub returns-in-Ok : goal.returns-in-Ok
returns-in-Ok c rows k =
    let kept = c.args.kept.now in
    let step = c.args.step.now in
    let left : chain_at kept c.args.last.now c.args.end step.left ≡ Some c.in-Some-Some.left.now = search rules in
    let right : chain_at kept c.args.last.now c.args.end step.right ≡ Some c.in-Some-Some.right.now = search rules in
    step-chain rows kept c.args.last.now c.args.end step c.in-Some-Some.left.now c.in-Some-Some.right.now k left right ∙ c.in-Ok.ensures

pub returns-in-Err : goal.returns-in-Err
returns-in-Err c rows k =
    let kept = c.args.kept.now in
    let step = c.args.step.now in
    let left : chain_at kept c.args.last.now c.args.end step.left ≡ Some c.in-Some-Some.left.now = search rules in
    let right : chain_at kept c.args.last.now c.args.end step.right ≡ Some c.in-Some-Some.right.now = search rules in
    subst (IsTold c.in-Err.refused) (sym (step-chain rows kept c.args.last.now c.args.end step c.in-Some-Some.left.now c.in-Some-Some.right.now k left right)) c.in-Err.ensures
