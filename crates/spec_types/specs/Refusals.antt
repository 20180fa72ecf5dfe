-- What an answer says of the typing of a tree.
use Rattle.std.specs.Prelude.{◌≡◌, Result, Ok, Err}
use Rattle.typing_rules.specs.Fault.{Fault, unknown_fault, twice_fault, kind_fault, count_fault, limit_fault}
use Rattle.spec_types.specs.declared.refusal.TypeRefused.{TypeRefused}
use Rattle.spec_types.specs.declared.refusal.TypeRefused.TheVariants as refused
use Rattle.spec_types.specs.declared.refusal.Stop.{Stop}
use Rattle.spec_types.specs.declared.refusal.Stop.TheVariants as stop
use Rattle.spec_trees.specs.Form.{TreeForm}
use Rattle.typing_rules.specs.FaultRules.{IsLeastFault}
use Rattle.spec_types.specs.faults.Views.{fault_of}

-- a refusal says which fault it was, unless memory is wanting
abbrev pub IsTypeRefusal : {A : Type 0} → Result A Fault → TypeRefused → Type 0
IsTypeRefusal r (refused.Unknown n w) = r ≡ Err (unknown_fault n w)
IsTypeRefusal r (refused.Twice n w) = r ≡ Err (twice_fault n w)
IsTypeRefusal r (refused.Kind n w) = r ≡ Err (kind_fault n w)
IsTypeRefusal r (refused.Count n w) = r ≡ Err (count_fault n w)
IsTypeRefusal r (refused.Limit which number w) = r ≡ Err (limit_fault which number w)
IsTypeRefusal r refused.Memory = Unit {0}

-- a refusal says which fault of a tree is the least, unless memory is wanting
abbrev pub IsLeastRefusal : TreeForm → TypeRefused → Type 0
IsLeastRefusal t (refused.Unknown n w) = IsLeastFault t (unknown_fault n w)
IsLeastRefusal t (refused.Twice n w) = IsLeastFault t (twice_fault n w)
IsLeastRefusal t (refused.Kind n w) = IsLeastFault t (kind_fault n w)
IsLeastRefusal t (refused.Count n w) = IsLeastFault t (count_fault n w)
IsLeastRefusal t (refused.Limit which number w) = IsLeastFault t (limit_fault which number w)
IsLeastRefusal t refused.Memory = Unit {0}

-- why the reading of a tree stopped
abbrev pub IsStop : {A : Type 0} → Result A Fault → Stop → Type 0
IsStop r (stop.Fault f) = r ≡ Err (fault_of f)
IsStop r stop.Memory = Unit {0}

-- an answer is what was to be answered, or says why there is none
abbrev pub Gives : {A : Type 0} → Result A Fault → Result A Stop → Type 0
Gives r (Ok x) = r ≡ Ok x
Gives r (Err s) = IsStop r s

-- a value is what was to be made where the answer is Ok, which says why there is none otherwise
abbrev pub Makes : {A B : Type 0} → Result A Fault → A → Result B Stop → Type 0
Makes r x (Ok done) = r ≡ Ok x
Makes r x (Err s) = IsStop r s
