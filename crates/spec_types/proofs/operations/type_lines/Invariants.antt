use Rattle.std.proofs.Common.{◌≡◌, drop, map}
use Rattle.spec_trees.specs.Form.{line_of}
use Rattle.typing_rules.specs.Lines.{typed_lines}
use Rattle.spec_types.specs.faults.Views.{scope_of}
use Rattle.spec_types.proofs.operations.type_lines.Given as goal

-- the operation is that of what remains
abbrev pub invariant-loop-line : goal.invariant-loop-line
invariant-loop-line l = typed_lines (scope_of l.scope) l.initial.operation (map line_of l.lines) ≡ typed_lines (scope_of l.scope) l.operation (map line_of (drop l.line-index l.lines))
