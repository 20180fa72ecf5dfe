-- The tie from the code to the definitions of typing: faults and scopes, as a program holds them.
use Rattle.std.specs.Prelude.{◌≡◌, Option, None, Some, option_map, Result, Ok, Err, codes}
use Rattle.std.specs.Borrow.{Bor}
use Rattle.spec_trees.specs.declared.tree.Mark.{Mark}
use Rattle.spec_core.specs.Specification.{Specification}
use Rattle.typing_rules.specs.Fault.{Fault, unknown_fault, twice_fault, kind_fault, count_fault, limit_fault}
use Rattle.typing_rules.specs.Scope.{Scope}
use Rattle.spec_types.specs.declared.faults.fault.Fault.{Fault as Held}
use Rattle.spec_types.specs.declared.faults.fault.Fault.TheVariants as held
use Rattle.spec_types.specs.declared.faults.scope.Scope.{Scope as HeldScope}
use Rattle.spec_types.specs.faults.Names.{meaning_in}

-- the fault that a program holds
abbrev pub fault_of : Held → Fault
fault_of (held.Unknown m) = unknown_fault m.now.text m.now.word
fault_of (held.Twice m) = twice_fault m.now.text m.now.word
fault_of (held.Kind m) = kind_fault m.now.text m.now.word
fault_of (held.Exists w) = kind_fault (codes "exists") w
fault_of (held.Count m) = count_fault m.now.text m.now.word
fault_of (held.Limit which n w) = limit_fault which n w

-- the fault that a program has found, if it has found one
abbrev pub faulted : Option Held → Option Fault
faulted f = option_map fault_of f

-- a mark that is lent
abbrev pub marked : Option (Bor Mark) → Option Mark
marked m = option_map (λ x. x.now) m

-- the scope that a program holds
abbrev pub scope_of : HeldScope → Scope
scope_of s = record {
  design = s.draft.now;
  names = meaning_in s.names.now;
  params = s.params.now;
  vars = s.vars.now;
}
