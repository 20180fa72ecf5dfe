use Rattle.std.proofs.Common.{◌≡◌, take, map}
use Rattle.typing_rules.specs.Scope.{var_sort}
use Rattle.spec_types.specs.faults.Names.{meaning_in}
use Rattle.spec_types.proofs.elaborating.formulas.var_sorts.Given as goal

-- the sorts so far
abbrev pub invariant-loop-var : goal.invariant-loop-var
invariant-loop-var l = l.sorts ≡ map (var_sort (meaning_in l.names)) (take l.var-index l.vars)
