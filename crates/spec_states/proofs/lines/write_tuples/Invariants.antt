use Rattle.std.proofs.Common.{◌≡◌, ◌++◌, map}
use Rattle.std.specs.List.{flat_map}
use Rattle.spec_states.specs.StateText.{true_line}
use Rattle.spec_states.proofs.lines.write_tuples.Given as goal

abbrev pub invariant-loop-tuple : goal.invariant-loop-tuple
invariant-loop-tuple l = l.out.items ++ flat_map (true_line l.name) (map (λ k. k.items) l.tuple-iterator) ≡ l.initial.out.items ++ flat_map (true_line l.name) (map (λ k. k.items) l.tuples.keys)
