use Rattle.std.proofs.Common.{◌≡◌, ◌+◌, ◌∷◌, ◌++◌, [], ℕ, pos, get_or, List, Option, Some, Ok, sym, ◌∙◌, subst, arith}
use Rattle.std.specs.Prelude.{slice_get}
use Rattle.std.proofs.lemmas.Option.{slice_get-get_or}
use Rattle.lin_rows.specs.Rows.{Row}
use Rattle.proof_lines.specs.declared.line.RowStep.{RowStep}
use Rattle.line_rows.specs.Refusals.{IsTold}
use Rattle.line_rows.specs.Kept.{kept_at, step_sum, KeptUntil}
use Rattle.line_rows.proofs.Keeping.{next-kept, steps-next, steps-stop, kept-later}
use Rattle.line_rows.proofs.kept.take_steps.Goals as goal

abbrev no_step : RowStep
no_step = record { left = 0; first = pos 0; right = 0; second = pos 0 }

pub returns-in-Err : goal.returns-in-Err
returns-in-Err c all k =
    let w = c.loop-i.invariant all k in
    let steps = c.args.steps.now in
    let i = c.loop-i.i in
    let s : RowStep = get_or steps i no_step in
    let g : slice_get steps i ≡ Some s = slice_get-get_or steps i no_step c.loop-i-test.true in
    let q = next-kept w.0 c.args.ends.now steps i s c.loop-i.rows.items w.2 c.requires c.loop-i-test.true g in
    let t : IsTold c.in-Err.refused (step_sum (kept_at c.loop-i.rows.items s.left) (kept_at c.loop-i.rows.items s.right) s) =
    subst (λ (z : List (Option Row)). IsTold c.in-Err.refused (step_sum (kept_at z s.left) (kept_at z s.right) s)) c.as_slice.ensures.value c.in-Err.ensures in
    subst (IsTold c.in-Err.refused) (sym w.1) (steps-stop w.0 steps i s c.in-Err.refused g (subst (IsTold c.in-Err.refused) (sym q) t))

pub loop-i-preserved : goal.loop-i-preserved
loop-i-preserved c all k =
    let w = c.loop-i.invariant all k in
    let steps = c.args.steps.now in
    let i = c.loop-i.i in
    let s : RowStep = get_or steps i no_step in
    let g : slice_get steps i ≡ Some s = slice_get-get_or steps i no_step c.loop-i-test.true in
    let q = next-kept w.0 c.args.ends.now steps i s c.loop-i.rows.items w.2 c.requires c.loop-i-test.true g in
    let t : step_sum (kept_at c.loop-i.rows.items s.left) (kept_at c.loop-i.rows.items s.right) s ≡ Ok c.in-Ok.row =
    subst (λ (z : List (Option Row)). step_sum (kept_at z s.left) (kept_at z s.right) s ≡ Ok c.in-Ok.row) c.as_slice.ensures.value c.in-Ok.ensures in (
      w.0 ++ c.in-Ok.row ∷ [],
      w.1 ∙ steps-next w.0 steps i (i + 1) s c.in-Ok.row (omega arith) g (q ∙ t),
      c.in-Ok-push_step.ensures w.0 (subst (λ (n : ℕ). KeptUntil w.0 c.args.ends.now n c.loop-i.rows.items) (omega arith) (kept-later w.0 c.args.ends.now i c.loop-i.rows.items w.2)),
    )
