use Rattle.std.proofs.Common.{◌≡◌, true, false, ◌++◌, ◌∷◌, [], map, refl, sym, ap, ◌∙◌}
use Rattle.std.proofs.lemmas.Result.{err_from_is_err_and}
use Rattle.std.proofs.lemmas.List.{map_push}
use Rattle.spec_trees.specs.Form.{item_of}
use Rattle.parser_combinators.specs.Words.{next, seen}
use Rattle.spec_reader.specs.Reading.{starts_item, item_at, items_at}
use Rattle.parser_combinators.proofs.Loop.{goes_on, ends, is_done}
use Rattle.spec_reader.proofs.Shrinking.{item_shrinks}
use Rattle.spec_reader.proofs.item.items.Goals as goal

pub returns-in_err-item : goal.returns-in_err-item
unfolding items_at
returns-in_err-item c =
    let p = err_from_is_err_and c.from_residual.result c.from_residual.ensures.1 in
    let so : starts_item (next (seen c.items.rest.now)) ≡ true = sym (ap starts_item c.next_kind.ensures) ∙ sym c.starts_item.ensures ∙ c.items-test.true in
    rw (p.1, p.2) (ends starts_item (item_at c.args.version c.args.depth) (item_shrinks c.args.version c.args.depth) refl c.in_err-item.field-0.0 (map item_of c.items.items) c.items.rest.now (items_at c.args.version c.args.depth c.args.tokens.now) so c.in_err-item.ensures c.items.invariant)

pub items-smaller : goal.items-smaller
items-smaller c = (item_shrinks c.args.version c.args.depth).at c.items.rest.now (item_of c.in_ok-item.item) c.in_ok-item.after.now c.in_ok-item.ensures

pub items-preserved : goal.items-preserved
unfolding items_at
items-preserved c =
    let so : starts_item (next (seen c.items.rest.now)) ≡ true = sym (ap starts_item c.next_kind.ensures) ∙ sym c.starts_item.ensures ∙ c.items-test.true in
    let pushed : map item_of c.push.new.self ≡ map item_of c.items.items ++ item_of c.in_ok-item.item ∷ [] = rw c.in_ok-push.ensures.ok (map_push item_of c.items.items c.in_ok-item.item) in
    rw pushed (goes_on starts_item (item_at c.args.version c.args.depth) (item_shrinks c.args.version c.args.depth) refl (map item_of c.items.items) c.items.rest.now (item_of c.in_ok-item.item) c.in_ok-item.after.now (items_at c.args.version c.args.depth c.args.tokens.now) so c.in_ok-item.ensures c.items.invariant)

pub returns : goal.returns
unfolding items_at
returns c =
    let off : starts_item (next (seen c.items.rest.now)) ≡ false = sym (ap starts_item c.next_kind.ensures) ∙ sym c.starts_item.ensures ∙ c.items-test.false in
    is_done starts_item (item_at c.args.version c.args.depth) (item_shrinks c.args.version c.args.depth) refl (map item_of c.items.items) c.items.rest.now (items_at c.args.version c.args.depth c.args.tokens.now) off c.items.invariant
