use Rattle.std.proofs.Common.{◌≡◌, ◌+◌, take, get_or, sym, ◌∙◌, ap, subst, arith, refl, rules, FitsSigned, to_z-of_z}
use mir.Syntax.{w128}
use Rattle.linear_ints.specs.declared.bounds.Bound.{Bound}
use Rattle.std.specs.Prelude.{int_lt, cond}
use Rattle.lin_rows.specs.Rows.{Row}
use Rattle.elimination.specs.Sides.{is_on}
use Rattle.linear_ints.specs.Bounds.{IsBoundAt, IsGreatestOf}
use Rattle.linear_ints.specs.Descending.{IsFault}
use Rattle.elimination.proofs.SideLemmas.{indexed}
use Rattle.elimination.proofs.Signs.{on-named}
use Rattle.elimination.proofs.SideNumbers.{on-parts}
use Rattle.linear_ints.proofs.Greatest.{greatest-none, greatest-skip, greatest-more, greatest-to}
use Rattle.linear_ints.proofs.bounds.greatest.Goals as goal
use Rattle.linear_ints.proofs.bounds.greatest.Goals.{then-is_on_at+in-Ok, else-is_on_at}

pub loop-number-init : goal.loop-number-init
loop-number-init c = greatest-none c.args.upper c.args.before.now c.args.place c.args.held.now c.args.values.now 0

pub bounds-held-row : goal.bounds-held-row
bounds-held-row c = (on-parts c.args.upper c.args.before.now c.args.place c.args.held.now _ (sym c.is_on_at.ensures ∙ c.if-is_on_at.true)).0

pub bound_of-requires : goal.bound_of-requires
bound_of-requires c =
    let o = on-parts c.args.upper c.args.before.now c.args.place c.args.held.now _ (sym c.is_on_at.ensures ∙ c.if-is_on_at.true) in
    let v = indexed c.args.held.now c.args.held.now _ c.index-held-row.result refl o.0 c.index-held-row.is in
    on-named c.args.upper c.args.before.now c.args.place c.index-held-row.result (ap (λ (r : Row). is_on c.args.upper c.args.before.now c.args.place r) v ∙ o.1)

pub returns-in-Err : goal.returns-in-Err
returns-in-Err c =
    let o = on-parts c.args.upper c.args.before.now c.args.place c.args.held.now _ (sym c.is_on_at.ensures ∙ c.if-is_on_at.true) in
    let v = indexed c.args.held.now c.args.held.now _ c.index-held-row.result refl o.0 c.index-held-row.is in
    record { below = o.0; upper = c.args.upper; on = o.1; fault = subst (λ (r : Row). IsFault c.args.values.now c.args.place r c.in-Err.fault) v c.in-Err.ensures }

pub loop-number-preserved : goal.loop-number-preserved
loop-number-preserved c =
    elim c.if-is_on_at.branch [
      | then-is_on_at+in-Ok w ↦ (let on = sym c.is_on_at.ensures ∙ w.if-is_on_at.true in
          let o = on-parts c.args.upper c.args.before.now c.args.place c.args.held.now _ on in
          let v = indexed c.args.held.now c.args.held.now _ w.index-held-row.result refl o.0 w.index-held-row.is in
          let f : FitsSigned w128 w.in-Ok.value = search rules in
          let g : FitsSigned w128 c.loop-number.greatest.value = search rules in
          let p = to_z-of_z f in
          let q = to_z-of_z g in
          let x : w.greater-greatest.result.value ≡ cond (int_lt c.loop-number.greatest.value w.in-Ok.value) w.in-Ok.value c.loop-number.greatest.value = cc (w.greater-greatest.ensures.value, p, q) in
          let y : w.greater-greatest.result.row ≡ cond (int_lt c.loop-number.greatest.value w.in-Ok.value) (get_or c.args.named.now c.loop-number.number-index 0) c.loop-number.greatest.row = cc (w.greater-greatest.ensures.row, p, q) in
          subst (λ (b : Bound). IsGreatestOf c.args.upper c.args.before.now c.args.place c.args.held.now c.args.values.now (take (c.loop-number.number-index + 1) c.args.named.now) b.row b.value) (sym w.greatest-is)
          (greatest-more c.args.upper c.args.before.now c.args.place c.args.held.now c.args.values.now c.args.named.now c.loop-number.number-index _ c.loop-number.greatest.row w.greater-greatest.result.row c.loop-number.greatest.value w.in-Ok.value w.greater-greatest.result.value
          c.loop-number.invariant c.loop-number-test.true refl on (subst (λ (r : Row). IsBoundAt c.args.values.now c.args.place r w.in-Ok.value) v w.in-Ok.ensures) x y))
      | else-is_on_at w ↦ subst (λ (b : Bound). IsGreatestOf c.args.upper c.args.before.now c.args.place c.args.held.now c.args.values.now (take (c.loop-number.number-index + 1) c.args.named.now) b.row b.value) (sym w.greatest-is)
          (greatest-skip c.args.upper c.args.before.now c.args.place c.args.held.now c.args.values.now c.args.named.now c.loop-number.number-index _ c.loop-number.greatest.row c.loop-number.greatest.value c.loop-number.invariant c.loop-number-test.true refl (sym c.is_on_at.ensures ∙ w.if-is_on_at.false))
    ]

pub returns : goal.returns
returns c = greatest-to c.args.upper c.args.before.now c.args.place c.args.held.now c.args.values.now c.args.named.now c.loop-number.number-index c.loop-number.greatest.row c.loop-number.greatest.value c.loop-number.invariant (omega arith)
