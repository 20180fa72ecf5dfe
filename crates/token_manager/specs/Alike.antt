-- Calls that take the same tokens. This serves the speed of the code.
use Rattle.std.specs.Prelude.{Bool, ◌&&◌, ◌==◌, List, [], ℤ}
use Rattle.std.specs.List.{list_all}
use Rattle.spec_core.specs.declared.world.World.{World}
use Rattle.spec_core.specs.declared.world.Call.{Call}
use Rattle.spec_core.specs.declared.formula.Elem.{Elem}
use Rattle.spec_core.specs.declared.operation.Take.{Take}
use Rattle.spec_core.specs.Specification.{Specification, op_of}
use Rattle.spec_core.specs.Truth.{elem_of}

-- these elements are the same at both arguments
abbrev pub same_elems : World → List ℤ → List ℤ → List Elem → Bool
same_elems w one other elems = list_all (λ e. elem_of w one [] e == elem_of w other [] e) elems

-- each of these takes lines names the same elements at both arguments
abbrev pub same_takes : World → List ℤ → List ℤ → List Take → Bool
same_takes w one other takes = list_all (λ t. same_elems w one other t.args) takes

-- Two calls take the same tokens: they are of one operation, and each of its takes lines names the same elements for both.
abbrev pub take_alike : Specification → World → Call → Call → Bool
take_alike d w a b = (a.op == b.op) && same_takes w a.args b.args (op_of d b.op).takes
