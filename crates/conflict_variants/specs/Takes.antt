-- Operations with other takes lines.
use Rattle.std.specs.Prelude.{List}
use Rattle.spec_core.specs.declared.operation.Take.{Take}
use Rattle.spec_core.specs.declared.operation.Operation.{Operation}

-- an operation, but with these takes lines
abbrev pub with_takes : Operation → List Take → Operation
with_takes o ts = record {
  name = o.name;
  params = o.params;
  requires_ = o.requires_;
  updates = o.updates;
  takes = ts;
  observes = o.observes;
}
