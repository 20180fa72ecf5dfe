use Rattle.std.proofs.Common.{◌≡◌, drop}
use Rattle.typing_rules.specs.Fault.{first_fault}
use Rattle.typing_rules.specs.Terms.{signed_fault}
use Rattle.spec_types.specs.faults.Views.{scope_of}
use Rattle.spec_types.proofs.faults.terms.signeds_fault.Given as goal

-- the first fault is the first of what remains
abbrev pub invariant-loop-place : goal.invariant-loop-place
invariant-loop-place l = first_fault (signed_fault (scope_of l.scope)) 0 l.more ≡ first_fault (signed_fault (scope_of l.scope)) l.place (drop l.place l.more)
