use Rattle.std.proofs.Common.{◌≡◌, map}
use Rattle.std.specs.List.{range_with_len}
use Rattle.model_back.specs.Equals.{alike_by, element_by}
use Rattle.model_back.proofs.values.all_elements.Given as goal

abbrev pub invariant-loop-sort : goal.invariant-loop-sort
invariant-loop-sort l = record {
  elements : l.elements.items ≡ map (element_by (alike_by l.equals) l.sorts) (range_with_len 0 l.sort-index);
  constant : l.constant ≡ l.sort-index;
}
