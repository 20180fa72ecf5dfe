use Rattle.std.proofs.Common.{◌≡◌, ◌++◌, ℕ, true, pos, map, drop, slice_index, slice_index_or}
use Rattle.std.specs.List.{list_all}
use Rattle.spec_core.specs.Fits.{in_state_range}
use Rattle.model_back.specs.Calls.{argument_by}
use Rattle.model_back.proofs.calls.arguments_at.Given as goal

abbrev pub invariant-loop-arg : goal.invariant-loop-arg
invariant-loop-arg l = record {
  values : map (argument_by (slice_index l.elements) (λ (n : ℕ). slice_index_or l.values n (pos 0))) l.args ≡ l.out ++ map (argument_by (slice_index l.elements) (λ (n : ℕ). slice_index_or l.values n (pos 0))) (drop l.arg-index l.args);
  range : list_all in_state_range l.out ≡ true;
}
