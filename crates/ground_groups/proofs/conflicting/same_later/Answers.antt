use Rattle.std.proofs.Common.{arith, slice_index, sym, ap, ◌∙◌}
use Rattle.std.specs.Option.{option_map}
use Rattle.ground_atoms.specs.Formulas.{form_of}
use Rattle.stage_defs.specs.Parts.{make_parts}
use Rattle.ground_groups.proofs.Joining.{later_step, later_end}
use Rattle.ground_groups.proofs.conflicting.same_later.Goals as goal

pub loop-later-preserved : goal.loop-later-preserved
loop-later-preserved c =
    let vs = c.args.vars.now in let cs = c.args.consts.now in
    later_step (slice_index vs c.args.place) (slice_index cs c.args.place) vs cs c.loop-later.later (omega (arith, c.loop-later-test.true, c.min-count.ensures)) (omega (arith, c.loop-later-test.true, c.min-count.ensures))
    _ _ _ _ c.in_ok-done.ensures
    ∙ c.loop-later.invariant

pub returns : goal.returns
returns c =
    let vs = c.args.vars.now in let cs = c.args.consts.now in
    sym c.loop-later.invariant
    ∙ ap (make_parts (option_map form_of c.loop-later.done) c.loop-later.atoms) (later_end (slice_index vs c.args.place) (slice_index cs c.args.place) vs cs c.loop-later.later (omega (arith, c.loop-later-test.false, c.loop-later.auto.later-end, c.min-count.ensures, c.requires.vars, c.requires.consts)))
