use Rattle.std.proofs.Common.{◌≡◌, take, drop}
use Rattle.typing_rules.specs.Fault.{first_fault}
use Rattle.typing_rules.specs.Formulas.{with_vars, variable_fault}
use Rattle.spec_types.specs.faults.Views.{scope_of}
use Rattle.spec_types.proofs.faults.sentences.variables_fault.Given as goal

-- the first fault is the first of what remains
abbrev pub invariant-loop-place : goal.invariant-loop-place
invariant-loop-place l = first_fault (λ n v. variable_fault (with_vars (scope_of l.scope) (take n l.vars)) n v) 0 l.vars ≡ first_fault (λ n v. variable_fault (with_vars (scope_of l.scope) (take n l.vars)) n v) l.place (drop l.place l.vars)
