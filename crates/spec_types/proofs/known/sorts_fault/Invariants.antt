use Rattle.std.proofs.Common.{◌≡◌, drop}
use Rattle.typing_rules.specs.Fault.{first_fault}
use Rattle.typing_rules.specs.Items.{place_fault}
use Rattle.spec_types.specs.faults.Views.{scope_of}
use Rattle.spec_types.proofs.known.sorts_fault.Given as goal

-- the first fault is the first of what remains
abbrev pub invariant-loop-place : goal.invariant-loop-place
invariant-loop-place l = first_fault (place_fault (scope_of l.scope) l.own l.most) 0 l.marks ≡ first_fault (place_fault (scope_of l.scope) l.own l.most) l.place (drop l.place l.marks)
