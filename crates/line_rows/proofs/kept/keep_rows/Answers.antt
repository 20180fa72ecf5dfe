use Rattle.std.proofs.Common.{◌+◌, ◌∷◌, ◌++◌, [], List, Option, Some, None, cond, length, sym, ◌∙◌, ap, subst, arith, append-nil}
use Rattle.std.proofs.lemmas.List.{drop_all}
use Rattle.std.specs.Option.{option_map}
use Rattle.lin_rows.specs.Rows.{Row}
use Rattle.proof_lines.specs.declared.clause.Lit.{Lit}
use Rattle.proof_lines.specs.declared.line.Why.TheVariants.{Range}
use Rattle.line_rows.specs.Steps.{has_row, lit_rows}
use Rattle.line_rows.specs.Refusals.{or_broken}
use Rattle.line_rows.specs.Kept.{KeptUntil, is_done}
use Rattle.line_rows.proofs.Certificates.{all_at, rows-more, rows-stop, told-stop}
use Rattle.line_rows.proofs.Keeping.{kept-more}
use Rattle.line_rows.proofs.kept.keep_rows.Goals as goal

pub kept_row-requires : goal.kept_row-requires
kept_row-requires c = all_at (has_row c.args.atoms.now) c.args.used.now c.loop-lit.lit-index _ c.loop-lit-test.true c.requires

pub returns-in-Err : goal.returns-in-Err
returns-in-Err c =
    let w = c.loop-lit.invariant in
    told-stop _ (lit_rows c.args.atoms.now c.args.used.now) c.in-Err.refused c.in-Err.ensures
    (λ e. w.1 ∙ rows-stop c.args.atoms.now c.args.used.now c.loop-lit.lit-index _ w.0 c.loop-lit-test.true e)

pub loop-lit-preserved : goal.loop-lit-preserved
loop-lit-preserved c =
    let w = c.loop-lit.invariant in
    let k = c.in-Ok.ensures in
    let ends = c.args.ends.now in
    let now = c.loop-lit.rows.items in
    let more : KeptUntil (w.0 ++ k.0 ∷ []) ends 0 (now ++ cond (is_done ends 0 (length now)) None c.in-Ok.row ∷ []) =
    subst (λ (o : Option Row). KeptUntil (w.0 ++ k.0 ∷ []) ends 0 (now ++ cond (is_done ends 0 (length now)) None o ∷ [])) (sym k.1) (kept-more w.0 ends 0 now k.0 w.2) in (
      w.0 ++ k.0 ∷ [],
      w.1 ∙ rows-more c.args.atoms.now c.args.used.now c.loop-lit.lit-index (c.loop-lit.lit-index + 1) _ w.0 k.0 (omega arith) c.loop-lit-test.true k.2,
      subst (λ (z : List (Option Row)). KeptUntil (w.0 ++ k.0 ∷ []) ends 0 z) (sym c.in-Ok-push_row.ensures) more,
    )

pub returns : goal.returns
returns c =
    let w = c.loop-lit.invariant in
    let last = ap (λ (ls : List Lit). option_map (λ more. w.0 ++ more) (lit_rows c.args.atoms.now ls)) (drop_all c.loop-lit.lit-index c.args.used.now c.loop-lit-test.false) in
    (w.0, ap (or_broken Range) (w.1 ∙ last ∙ ap (λ (z : List Row). Some z) (append-nil w.0)), w.2)
