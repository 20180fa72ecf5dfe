use Rattle.std.proofs.Common.{◌≡◌, ◌++◌, map}
use Rattle.std.specs.List.{flat_map}
use Rattle.spec_states.specs.StateText.{count_line}
use Rattle.spec_states.proofs.lines.write_values.Given as goal

abbrev pub invariant-loop-key : goal.invariant-loop-key
invariant-loop-key l = l.out.items ++ flat_map (count_line l.name) (map (λ e. (e.0.items, e.1)) l.key-iterator) ≡ l.initial.out.items ++ flat_map (count_line l.name) (map (λ e. (e.0.items, e.1)) l.entries.entries)
