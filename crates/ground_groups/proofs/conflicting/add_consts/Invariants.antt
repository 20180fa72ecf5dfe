use Rattle.std.proofs.Common.{◌≡◌, ◌++◌, [], drop}
use Rattle.ground_problem.specs.Formulas.{consts_of}
use Rattle.stage_defs.specs.Settings.{caller_in}
use Rattle.ground_groups.proofs.conflicting.add_consts.Given as goal

abbrev pub invariant-loop-element : goal.invariant-loop-element
invariant-loop-element l = l.out ++ consts_of (caller_in l.setting) [] (drop l.element-index l.elements) ≡ l.initial.out ++ consts_of (caller_in l.setting) [] l.elements
