use Rattle.std.proofs.Common.{◌≡◌, drop}
use Rattle.ground_problem.specs.Entry.{calls_ready}
use Rattle.ground_groups.specs.Limited.{made_with}
use Rattle.ground_groups.specs.Calls.{constants_in}
use Rattle.ground_groups.proofs.ready.add_ready.Given as goal

abbrev pub invariant-loop-place : goal.invariant-loop-place
invariant-loop-place l =
    made_with l.grounding (calls_ready l.spec (constants_in l.named) l.place (drop l.place l.ops) (drop l.place l.owns))
    ≡ made_with l.initial.grounding (calls_ready l.spec (constants_in l.named) 0 l.ops l.owns)
