use Rattle.std.proofs.Common.{◌≡◌, ◌<◌, true, List, [], length, get_or, sym, subst}
use Rattle.std.specs.List.{list_all}
use Rattle.spec_core.specs.declared.spec.Invariant.{Invariant}
use Rattle.spec_core.specs.Specification.{Specification}
use Rattle.spec_core.specs.Fits.{line_fits}
use Rattle.spec_core.proofs.Lists.{list_all-within}
use Rattle.spec_core.proofs.Operations.{fitting_world, invariants_fit}
use Rattle.witness_shrinking.proofs.reading.is_true.Goals as goal

pub line_holds-requires-clause-fits : goal.line_holds-requires-clause-fits
line_holds-requires-clause-fits c =
    let d = c.args.spec.now in
    let w = c.args.world.now in
    let fits = λ (i : Invariant). line_fits d w [] i.line in
    let item = c.index-as_slice-number.result in
    let items : c.as_slice.result.now ≡ d.invariants = subst (λ (e : Specification). c.as_slice.result.now ≡ e.invariants) c.spec.view_is c.as_slice.ensures in
    let many : c.len.result ≡ length d.invariants = subst (λ (e : Specification). c.len.result ≡ length e.invariants) c.spec.view_is c.len.ensures in
    let lt : c.args.number < length d.invariants = subst (λ n. c.args.number < n) many c.if-number-len.false in
    let all : list_all fits d.invariants ≡ true = invariants_fit d w c.well_formed-2.ensures (fitting_world d w c.requires) in
    subst (λ (xs : List Invariant). fits (get_or xs c.args.number item) ≡ true) (sym items) (list_all-within fits d.invariants all c.args.number item lt)
