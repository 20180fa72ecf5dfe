use Rattle.std.proofs.Common.{List, Option, [], sym, subst}
use Rattle.std.specs.Prelude.{IfSome}
use Rattle.lin_rows.specs.Rows.{Row}
use Rattle.line_rows.specs.Kept.{KeptUntil, HasLast}
use Rattle.line_rows.specs.Steps.{with_steps}
use Rattle.line_rows.proofs.Chains.{ends-chain}
use Rattle.line_rows.proofs.chain.refutes_chain.Goals as goal

pub returns-in-Ok-Some : goal.returns-in-Ok-Some
returns-in-Ok-Some c =
    let k = c.in-Ok.ensures in
    let kept : KeptUntil k.0 [] 0 c.as_slice.result.now = subst (λ (z : List (Option Row)). KeptUntil k.0 [] 0 z) (sym c.as_slice.ensures.value) k.2 in
    ends-chain c.args.atoms.now c.args.used.now c.args.steps.now k.0 c.in-Ok-Some.row c.is_contradiction.result k.1 (subst (λ (o : Option Row). IfSome o (λ row. HasLast (with_steps k.0 c.args.steps.now) row)) c.in-Ok-Some.field-0-is (c.in-Ok-Some.ensures k.0 kept)) c.is_contradiction.ensures.contradiction
