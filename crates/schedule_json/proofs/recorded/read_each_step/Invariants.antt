use Rattle.std.proofs.Common.{◌≡◌, drop}
use Rattle.serde_json.specs.View.{items_view}
use Rattle.schedule_json.specs.Recorded.{steps_at}
use Rattle.schedule_json.proofs.Loops.{behind}
use Rattle.schedule_json.proofs.recorded.read_each_step.Given as goal

abbrev pub invariant-loop-place : goal.invariant-loop-place
invariant-loop-place l = steps_at 0 (items_view l.list) ≡ behind l.steps (steps_at l.place (items_view (drop l.place l.list)))
