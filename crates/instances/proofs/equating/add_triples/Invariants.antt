use Rattle.std.proofs.Common.{◌≡◌, drop}
use Rattle.ground_groups.specs.Limited.{made_with}
use Rattle.std.specs.List.{flat_map}
use Rattle.ground_problem.specs.Equality.{three_agree}
use Rattle.instances.proofs.equating.add_triples.Given as goal

abbrev pub invariant-loop-place : goal.invariant-loop-place
invariant-loop-place l = made_with l.grounding (flat_map (three_agree l.a l.b) (drop l.place l.later)) ≡ made_with l.initial.grounding (flat_map (three_agree l.a l.b) l.later)
