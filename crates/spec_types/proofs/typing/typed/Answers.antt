use Rattle.std.proofs.Common.{◌≡◌, map, Ok, sym, ◌∙◌, ap}
use Rattle.spec_trees.specs.Form.{item_of, tree_of}
use Rattle.typing_rules.specs.Items.{typed_items, typing}
use Rattle.spec_types.specs.Views.{known_of}
use Rattle.spec_types.proofs.typing.typed.Goals as goal

pub finished-requires : goal.finished-requires
finished-requires c =
    let e : typing (tree_of c.args.tree.now) ≡ Ok c.type_items.new.known.draft =
    ap (λ k. typed_items k (map item_of c.args.tree.now.items)) (sym c.nothing_known-known.ensures)
    ∙ ap (λ xs. typed_items (known_of c.nothing_known-known.result) (map item_of xs)) (sym c.as_slice.ensures)
    ∙ c.in-Ok.ensures in
    c.law_typed_is_well_formed.ensures (tree_of c.args.tree.now) c.type_items.new.known.draft c.requires e
