use Rattle.std.proofs.Common.{◌≡◌, ◌++◌, drop, map}
use Rattle.ground_problem.specs.Formulas.{part_of}
use Rattle.ground_atoms.specs.Symbols.{parts_of}
use Rattle.stage_defs.specs.Settings.{caller_in, readings_in}
use Rattle.stage_defs.proofs.sums.parts_of.Given as goal

abbrev pub invariant-loop-summand : goal.invariant-loop-summand
invariant-loop-summand l =
    parts_of l.parts ++ map (part_of (readings_in l.setting) (caller_in l.setting) l.vars) (drop l.summand-index l.summand-items)
    ≡ map (part_of (readings_in l.setting) (caller_in l.setting) l.vars) l.summand-items
