use Rattle.std.proofs.Common.{◌+◌, ◌++◌, drop, List, Some, sym, ◌∙◌, ap, arith, append-nil}
use Rattle.std.proofs.lemmas.List.{drop_all}
use Rattle.std.specs.Option.{option_map}
use Rattle.lin_rows.specs.Rows.{Row}
use Rattle.proof_lines.specs.declared.clause.Lit.{Lit}
use Rattle.proof_lines.specs.declared.line.Why.TheVariants.{Range}
use Rattle.line_rows.specs.Steps.{has_row, lit_rows}
use Rattle.line_rows.specs.Refusals.{or_broken}
use Rattle.line_rows.proofs.Certificates.{all_at, rows-more, rows-stop, told-stop}
use Rattle.line_rows.proofs.steps.all_rows.Goals as goal

pub lit_row-requires : goal.lit_row-requires
lit_row-requires c = all_at (has_row c.args.atoms.now) c.args.used.now c.loop-lit.lit-index _ c.loop-lit-test.true c.requires

pub returns-in-Err : goal.returns-in-Err
returns-in-Err c =
    told-stop _ (lit_rows c.args.atoms.now c.args.used.now) c.in-Err.refused c.in-Err.ensures
    (λ e. c.loop-lit.invariant ∙ rows-stop c.args.atoms.now c.args.used.now c.loop-lit.lit-index _ c.loop-lit.rows.items c.loop-lit-test.true e)

pub loop-lit-preserved : goal.loop-lit-preserved
loop-lit-preserved c =
    let more = rows-more c.args.atoms.now c.args.used.now c.loop-lit.lit-index (c.loop-lit.lit-index + 1) _ c.loop-lit.rows.items c.in-Ok.row (omega arith) c.loop-lit-test.true c.in-Ok.ensures in
    c.loop-lit.invariant ∙ more ∙ ap (λ (z : List Row). option_map (λ rest. z ++ rest) (lit_rows c.args.atoms.now (drop (c.loop-lit.lit-index + 1) c.args.used.now))) (sym c.in-Ok-push.ensures.items)

pub returns : goal.returns
returns c =
    let last = ap (λ (ls : List Lit). option_map (λ more. c.loop-lit.rows.items ++ more) (lit_rows c.args.atoms.now ls)) (drop_all c.loop-lit.lit-index c.args.used.now c.loop-lit-test.false) in
    ap (or_broken Range) (c.loop-lit.invariant ∙ last ∙ ap (λ (z : List Row). Some z) (append-nil c.loop-lit.rows.items))
