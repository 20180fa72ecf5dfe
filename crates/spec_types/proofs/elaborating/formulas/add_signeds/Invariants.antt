use Rattle.std.proofs.Common.{◌≡◌, ◌++◌, take, map}
use Rattle.typing_rules.specs.Terms.{signed_of}
use Rattle.spec_types.specs.faults.Views.{scope_of}
use Rattle.spec_types.proofs.elaborating.formulas.add_signeds.Given as goal

-- the summands so far
abbrev pub invariant-loop-signed : goal.invariant-loop-signed
invariant-loop-signed l = l.summands ≡ l.initial.summands ++ map (signed_of (scope_of l.scope)) (take l.signed-index l.more)
