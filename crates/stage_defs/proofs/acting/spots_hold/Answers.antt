use Rattle.std.proofs.Common.{ap, sym, ◌∙◌, Option, arith}
use Rattle.std.specs.Option.{option_map}
use Rattle.ground_numbers.specs.Numbered.{Numbered}
use Rattle.ground_atoms.specs.Formulas.{form_of}
use Rattle.ground_atoms.proofs.Staying.{stay_then}
use Rattle.stage_defs.specs.Settings.{caller_in}
use Rattle.stage_defs.proofs.Joined.{spots-next, spots-done}
use Rattle.stage_defs.proofs.acting.spots_hold.Goals as goal

pub loop-place-preserved : goal.loop-place-preserved
loop-place-preserved c =
    let s = c.args.setting.now in
    let made = spots-next (caller_in s) c.args.spots.now c.args.tuple.now c.loop-place.place (omega (arith, c.loop-place-test.true, c.min-count.ensures)) (omega (arith, c.loop-place-test.true, c.min-count.ensures))
    (option_map form_of c.loop-place.done) c.loop-place.atoms (option_map form_of c.in_ok-done.done) c.join_spot.new.atoms c.in_ok-done.ensures.made
    ∙ c.loop-place.invariant.made in
    record { made = made; stay = stay_then c.loop-place.invariant.stay c.in_ok-done.ensures.stay }

pub returns-clause-made : goal.returns-clause-made
returns-clause-made c =
    let s = c.args.setting.now in
    sym c.loop-place.invariant.made
    ∙ spots-done (caller_in s) c.args.spots.now c.args.tuple.now c.loop-place.place (omega (arith, c.loop-place-test.false, c.loop-place.auto.place-end, c.min-count.ensures)) (option_map form_of c.loop-place.done) c.loop-place.atoms
    ∙ ap (λ (o : Option Numbered). record { known = c.loop-place.atoms; parts = o }) (sym c.in_ok-all.ensures)
