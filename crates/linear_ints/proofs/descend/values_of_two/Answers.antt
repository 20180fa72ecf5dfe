use Rattle.std.proofs.Common.{◌≡◌, ℕ, ℤ, ◌<◌, length, map, List, [], ◌∷◌, sym, ◌∙◌, subst}
use Rattle.std.specs.Prelude.{IfOk}
use Rattle.lin_rows.specs.Rows.{Row, point_of}
use Rattle.line_rows.specs.Splits.{other_names}
use Rattle.elimination.proofs.SideLemmas.{indexed}
use Rattle.linear_ints.proofs.descend.values_of_two.Goals as goal

pub bounds-held-low : goal.bounds-held-low
bounds-held-low c = subst (λ (l : List Row). c.args.low < length l) (sym c.as_slice-held.ensures) c.requires.low

pub bounds-held-high : goal.bounds-held-high
bounds-held-high c = subst (λ (l : List Row). c.args.high < length l) (sym c.as_slice-held.ensures) c.requires.high

pub returns : goal.returns
returns c =
    let u = indexed c.args.tableau.now.held c.as_slice-held.result.now c.args.low c.index-held-low.result c.as_slice-held.ensures c.requires.low c.index-held-low.is in
    let v = indexed c.args.tableau.now.held c.as_slice-held.result.now c.args.high c.index-held-high.result c.as_slice-held.ensures c.requires.high c.index-held-high.is in
    subst (λ (ns : List ℕ). IfOk c.values_at.result (λ (list : List ℤ). list ≡ map (point_of c.args.values.now) ns))
    (c.as_slice-listed.ensures.value ∙ c.in_ok-names.ensures ∙ (λ i. other_names c.args.place (u i ∷ v i ∷ []))) c.values_at.ensures
