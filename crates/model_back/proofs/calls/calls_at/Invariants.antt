use Rattle.std.proofs.Common.{◌≡◌, ◌++◌, ℕ, true, pos, map, drop, slice_index, slice_index_or}
use Rattle.std.specs.List.{list_all}
use Rattle.spec_core.specs.Fits.{in_state_range}
use Rattle.model_back.specs.Calls.{call_by}
use Rattle.spec_core.specs.declared.world.Call.{Call}
use Rattle.model_back.proofs.calls.calls_at.Given as goal

abbrev pub invariant-loop-call : goal.invariant-loop-call
invariant-loop-call l = record {
  calls : map (call_by (slice_index l.elements) (λ (n : ℕ). slice_index_or l.values n (pos 0))) l.calls ≡ l.out ++ map (call_by (slice_index l.elements) (λ (n : ℕ). slice_index_or l.values n (pos 0))) (drop l.call-index l.calls);
  range : list_all (λ (c : Call). list_all in_state_range c.args) l.out ≡ true;
}
