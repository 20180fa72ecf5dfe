use Rattle.std.proofs.Common.{◌≡◌, map}
use Rattle.spec_core.specs.World.{below}
use Rattle.sample_specs.specs.Sample.{relation_at as relation_of}
use Rattle.sample_specs.proofs.declarations.relations.Given as goal

abbrev pub invariant-loop-i : goal.invariant-loop-i
invariant-loop-i l = l.list ≡ map relation_of (below l.i)
