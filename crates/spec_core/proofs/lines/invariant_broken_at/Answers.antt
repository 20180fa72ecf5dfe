use Rattle.std.proofs.Common.{◌≡◌, ◌<◌, true, not, List, [], length, get_or, refl, sym, ◌∙◌, ap, subst, arith}
use Rattle.std.specs.List.{position_from}
use Rattle.spec_core.specs.declared.spec.Invariant.{Invariant}
use Rattle.spec_core.specs.Specification.{Specification}
use Rattle.spec_core.specs.Typed.{is_specification, is_invariant, is_line}
use Rattle.spec_core.specs.Truth.{is_exists, line_true}
use Rattle.std.proofs.lemmas.Bool.{and_parts}
use Rattle.spec_core.proofs.Lists.{list_all-within}
use Rattle.spec_core.proofs.Parts.{parts_of}
use Rattle.spec_core.proofs.Fitting.{line_fits_typed}
use Rattle.spec_core.proofs.Positions.{position_here, position_later, position_past}
use Rattle.spec_core.proofs.lines.invariant_broken_at.Goals as goal

pub line_holds-requires-clause-fits : goal.line_holds-requires-clause-fits
line_holds-requires-clause-fits g c =
    let d = c.args.spec.now in
    let w = c.args.world.now in
    let item = c.invariant-item.result in
    let well : is_specification d ≡ true = subst (λ (d : Specification). is_specification d ≡ true) c.spec.view_is c.spec.invariant in
    let of_spec = λ (d : Specification). d.invariants in
    let items : c.as_slice-invariant-items.result.now ≡ d.invariants = subst (λ (e : Specification). c.as_slice-invariant-items.result.now ≡ e.invariants) c.spec.view_is c.as_slice-invariant-items.ensures in
    let lt : c.loop-i.i < length d.invariants = subst (λ (xs : List Invariant). c.loop-i.i < length xs) items c.loop-i-test.true in
    let at : is_invariant d (get_or d.invariants c.loop-i.i item) ≡ true = list_all-within (is_invariant d) d.invariants (parts_of d well).invariants c.loop-i.i item lt in
    let here : is_invariant d item ≡ true = subst (λ (x : Invariant). is_invariant d x ≡ true) (sym c.invariant-item.is) (subst (λ (xs : List Invariant). is_invariant d (get_or xs c.loop-i.i item) ≡ true) (sym items) at) in
    line_fits_typed d w (and_parts _ _ c.requires).0 [] [] refl item.line (and_parts (not (is_exists item.line.prefix)) (is_line d [] item.line) here).1

pub returns-then-not-line_holds : goal.returns-then-not-line_holds
returns-then-not-line_holds g c =
    let p = λ (i : Invariant). not (line_true c.args.world.now (g.R.Readings.reads c.args.at.now) [] i.line) in
    let items : c.as_slice-invariant-items.result.now ≡ c.args.spec.now.invariants = subst (λ (e : Specification). c.as_slice-invariant-items.result.now ≡ e.invariants) c.spec.view_is c.as_slice-invariant-items.ensures in
    sym (ap (position_from p 0) (sym items) ∙ c.loop-i.invariant
    ∙ position_here p c.as_slice-invariant-items.result.now c.loop-i.i c.invariant-item.result c.loop-i-test.true (ap p (sym c.invariant-item.is) ∙ ap not (sym c.line_holds.ensures ∙ c.if-not-line_holds.true)))

pub returns : goal.returns
returns g c =
    let p = λ (i : Invariant). not (line_true c.args.world.now (g.R.Readings.reads c.args.at.now) [] i.line) in
    let items : c.as_slice-invariant-items.result.now ≡ c.args.spec.now.invariants = subst (λ (e : Specification). c.as_slice-invariant-items.result.now ≡ e.invariants) c.spec.view_is c.as_slice-invariant-items.ensures in
    sym (ap (position_from p 0) (sym items) ∙ c.loop-i.invariant
    ∙ position_past p c.as_slice-invariant-items.result.now c.loop-i.i c.loop-i.i (omega (arith, c.loop-i-test.false)))

pub loop-i-preserved : goal.loop-i-preserved
loop-i-preserved g c =
    let p = λ (i : Invariant). not (line_true c.args.world.now (g.R.Readings.reads c.args.at.now) [] i.line) in
    c.loop-i.invariant
    ∙ position_later p c.as_slice-invariant-items.result.now c.loop-i.i c.invariant-item.result c.loop-i-test.true (ap p (sym c.invariant-item.is) ∙ ap not (sym c.line_holds.ensures ∙ c.if-not-line_holds.false))
