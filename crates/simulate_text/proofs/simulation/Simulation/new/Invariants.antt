use Rattle.std.proofs.Common.{◌≡◌, replicate}
use Rattle.simulate_text.proofs.simulation.Simulation.new.Given as goal

-- no grant and no event so far, for each of these replicas
abbrev pub invariant-loop-i : goal.invariant-loop-i
invariant-loop-i g l = (l.grants.items ≡ replicate l._i 0) × (l.unbroken.items ≡ replicate l._i 0)
