use Rattle.std.proofs.Common.{◌≡◌, take, drop}
use Rattle.typing_rules.specs.Fault.{first_fault}
use Rattle.typing_rules.specs.Items.{with_params, param_fault}
use Rattle.spec_types.specs.faults.Views.{scope_of}
use Rattle.spec_types.proofs.operations.params_fault.Given as goal

-- the first fault is the first of what remains
abbrev pub invariant-loop-place : goal.invariant-loop-place
invariant-loop-place l = first_fault (λ n p. param_fault (with_params (scope_of l.scope) (take n l.params)) n p) 0 l.params ≡ first_fault (λ n p. param_fault (with_params (scope_of l.scope) (take n l.params)) n p) l.place (drop l.place l.params)
