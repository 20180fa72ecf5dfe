use Rattle.std.proofs.Common.{◌≡◌, take, map}
use Rattle.typing_rules.specs.Scope.{param_of}
use Rattle.spec_types.specs.faults.Names.{meaning_in}
use Rattle.spec_types.proofs.operations.params_of.Given as goal

-- the parameters so far
abbrev pub invariant-loop-param : goal.invariant-loop-param
invariant-loop-param l = l.made ≡ map (param_of (meaning_in l.names)) (take l.param-index l.params)
