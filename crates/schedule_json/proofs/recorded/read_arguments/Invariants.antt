use Rattle.std.proofs.Common.{◌≡◌, drop}
use Rattle.serde_json.specs.View.{items_view}
use Rattle.schedule_json.specs.Recorded.{wholes}
use Rattle.schedule_json.proofs.Loops.{found}
use Rattle.schedule_json.proofs.recorded.read_arguments.Given as goal

abbrev pub invariant-loop-value : goal.invariant-loop-value
invariant-loop-value l = wholes (items_view l.list) ≡ found l.arguments (wholes (items_view (drop l.value-index l.list)))
