-- The bare specification: without tokens, conflict rules and takes lines.
use Rattle.std.specs.Prelude.{List, [], map}
use Rattle.spec_core.specs.declared.spec.Token.{Token}
use Rattle.spec_core.specs.declared.spec.Rule.{Rule}
use Rattle.spec_core.specs.declared.operation.Operation.{Operation}
use Rattle.spec_core.specs.Specification.{Specification}
use Rattle.conflict_variants.specs.Takes.{with_takes}

-- a specification, but with these tokens, rules and operations
abbrev pub with_tokens : Specification → List Token → List Rule → List Operation → Specification
with_tokens d ts rs os = record {
  version = d.version;
  sorts = d.sorts;
  consts = d.consts;
  relations = d.relations;
  counters = d.counters;
  tokens = ts;
  rules = rs;
  invariants = d.invariants;
  operations = os;
}

-- The bare specification: the given one without tokens, conflict rules and takes lines. No two of its calls conflict.
abbrev pub bare : Specification → Specification
bare d = with_tokens d [] [] (map (λ o. with_takes o []) d.operations)
