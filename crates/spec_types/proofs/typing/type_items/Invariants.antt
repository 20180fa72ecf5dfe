use Rattle.std.proofs.Common.{◌≡◌, drop, map}
use Rattle.spec_trees.specs.Form.{item_of}
use Rattle.typing_rules.specs.Items.{typed_items}
use Rattle.spec_types.specs.Views.{known_of}
use Rattle.spec_types.proofs.typing.type_items.Given as goal

-- the specification is that of what remains
abbrev pub invariant-loop-item : goal.invariant-loop-item
invariant-loop-item l = typed_items (known_of l.initial.known) (map item_of l.items) ≡ typed_items (known_of l.known) (map item_of (drop l.item-index l.items))
