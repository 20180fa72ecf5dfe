use Rattle.std.proofs.Common.{◌≡◌, ℕ, ℤ, ◌<◌, length, map, List, [], ◌∷◌, sym, ◌∙◌, ap, subst}
use Rattle.std.specs.Prelude.{IfOk}
use Rattle.lin_rows.specs.Rows.{Row, point_of}
use Rattle.line_rows.specs.Splits.{other_names}
use Rattle.elimination.proofs.SideLemmas.{indexed}
use Rattle.linear_ints.proofs.descend.values_of_one.Goals as goal

pub bounds-held-row : goal.bounds-held-row
bounds-held-row c = subst (λ (l : List Row). c.args.row < length l) (sym c.as_slice-held.ensures) c.requires

pub returns : goal.returns
returns c =
    subst (λ (ns : List ℕ). IfOk c.values_at.result (λ (list : List ℤ). list ≡ map (point_of c.args.values.now) ns))
    (c.as_slice-listed.ensures.value ∙ c.in_ok-names.ensures ∙ ap (λ (r : Row). other_names c.args.place (r ∷ [])) (indexed c.args.tableau.now.held c.as_slice-held.result.now c.args.row c.index-held-row.result c.as_slice-held.ensures c.requires c.index-held-row.is)) c.values_at.ensures
