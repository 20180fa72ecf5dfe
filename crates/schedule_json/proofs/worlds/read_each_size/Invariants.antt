use Rattle.std.proofs.Common.{◌≡◌, drop}
use Rattle.serde_json.specs.View.{view}
use Rattle.schedule_json.specs.Worlds.{sizes_at}
use Rattle.schedule_json.proofs.Loops.{behind}
use Rattle.schedule_json.proofs.worlds.read_each_size.Given as goal

abbrev pub invariant-loop-name : goal.invariant-loop-name
invariant-loop-name l = sizes_at l.names (view l.value) ≡ behind l.sizes (sizes_at (drop l.name-index l.names) (view l.value))
