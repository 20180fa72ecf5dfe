use Rattle.std.proofs.Common.{◌≡◌, take, map}
use Rattle.typing_rules.specs.Terms.{elem_of}
use Rattle.spec_types.specs.faults.Views.{scope_of}
use Rattle.spec_types.proofs.elaborating.formulas.elems_of.Given as goal

-- the elements so far
abbrev pub invariant-loop-mark : goal.invariant-loop-mark
invariant-loop-mark l = l.elems ≡ map (elem_of (scope_of l.scope)) (take l.mark-index l.marks)
