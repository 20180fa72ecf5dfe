use Rattle.std.proofs.Common.{◌≡◌, drop}
use Rattle.serde_json.specs.View.{view}
use Rattle.schedule_json.specs.Worlds.{elements_at}
use Rattle.schedule_json.proofs.Loops.{behind}
use Rattle.schedule_json.proofs.worlds.read_each_element.Given as goal

abbrev pub invariant-loop-one : goal.invariant-loop-one
invariant-loop-one l = elements_at l.sizes l.consts (view l.value) ≡ behind l.elements (elements_at l.sizes (drop l.one-index l.consts) (view l.value))
