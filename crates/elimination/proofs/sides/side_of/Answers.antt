use Rattle.std.proofs.Common.{◌≡◌, ℕ, List, length, ◌∙◌, ap}
use Rattle.std.specs.List.{filter}
use Rattle.std.proofs.lemmas.Result.{IfOk-weaker}
use Rattle.lin_rows.specs.Rows.{Row}
use Rattle.elimination.specs.Sides.{is_on_at, IsSide}
use Rattle.elimination.proofs.SideNumbers.{side-filtered}
use Rattle.elimination.proofs.sides.side_of.Goals as goal

pub returns : goal.returns
returns c =
    IfOk-weaker c.of_side.result (λ (numbers : List ℕ). numbers ≡ filter (is_on_at c.args.upper c.args.tableau.now.order c.args.place c.as_slice-held.result.now) c.naming-named.result.now)
    (λ (numbers : List ℕ). IsSide c.args.upper c.args.tableau.now.order c.args.place c.args.tableau.now.held (length c.args.tableau.now.held) numbers)
    (λ numbers h. side-filtered c.args.upper c.args.tableau.now.order c.args.place c.args.tableau.now.held c.naming-named.result.now numbers c.naming-named.ensures
    (h ∙ ap (λ (l : List Row). filter (is_on_at c.args.upper c.args.tableau.now.order c.args.place l) c.naming-named.result.now) c.as_slice-held.ensures)) c.of_side.ensures
