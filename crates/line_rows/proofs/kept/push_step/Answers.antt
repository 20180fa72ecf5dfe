use Rattle.std.proofs.Common.{◌∷◌, ◌++◌, [], List, Option, None, cond, length, sym, subst}
use Rattle.lin_rows.specs.Rows.{Row}
use Rattle.line_rows.specs.Kept.{KeptUntil, is_done}
use Rattle.line_rows.proofs.Keeping.{kept-more, kept-let-go}
use Rattle.line_rows.proofs.kept.push_step.Goals as goal

pub returns : goal.returns
returns c all k =
    let ends = c.args.ends.now in
    let taken = c.args.taken in
    let old = c.args.rows.now.items in
    let rows = all ++ c.args.row ∷ [] in
    let pushed : KeptUntil rows ends taken c.push_row.new.rows.items =
    subst (λ (z : List (Option Row)). KeptUntil rows ends taken z) (sym c.in_ok-push_row.ensures)
    (subst (λ (o : Option Row). KeptUntil rows ends taken (old ++ cond (is_done ends taken (length old)) None o ∷ [])) (sym c.made.ensures) (kept-more all ends taken old c.args.row k)) in
    let left : KeptUntil rows ends taken c.let_go.new.rows.items = subst (λ (z : List (Option Row)). KeptUntil rows ends taken z) (sym c.let_go.ensures) (kept-let-go rows ends taken c.push_row.new.rows.items c.args.step.now.left pushed) in
    subst (λ (z : List (Option Row)). KeptUntil rows ends taken z) (sym c.let_go-2.ensures) (kept-let-go rows ends taken c.let_go.new.rows.items c.args.step.now.right left)
