use Rattle.std.proofs.Common.{◌≡◌, ◌+◌, drop, slice_index}
use Rattle.std.specs.Option.{option_map}
use Rattle.ground_problem.specs.Entry.{same_later}
use Rattle.ground_atoms.specs.Formulas.{form_of}
use Rattle.stage_defs.specs.Parts.{make_parts}
use Rattle.ground_groups.proofs.conflicting.same_later.Given as goal

abbrev pub invariant-loop-later : goal.invariant-loop-later
invariant-loop-later l =
    let v = slice_index l.vars l.place in let a = slice_index l.consts l.place in
    make_parts (option_map form_of l.done) l.atoms (same_later v a (drop l.later l.vars) (drop l.later l.consts))
    ≡ make_parts (option_map form_of l.initial.done) l.initial.atoms (same_later v a (drop (l.place + 1) l.vars) (drop (l.place + 1) l.consts))
