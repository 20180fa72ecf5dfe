use Rattle.std.proofs.Common.{◌∙◌, ap}
use Rattle.std.specs.Str.{bytes_eq}
use Rattle.spec_trees.specs.declared.tree.Mark.{Mark}
use Rattle.typing_rules.specs.Terms.{small}
use Rattle.spec_types.proofs.Lists.{found_first, found_behind, found_nowhere}
use Rattle.spec_types.proofs.rules.rule_place.Goals as goal

pub returns-in-Some : goal.returns-in-Some
returns-in-Some c = c.small.ensures ∙ ap small (found_first (λ (o : Mark). bytes_eq o.text c.args.name.now) c.args.left.now c.args.right.now c.in-Some.place c.in-Some.ensures)

pub returns-in-Some-mark_place : goal.returns-in-Some-mark_place
returns-in-Some-mark_place c = c.place_behind.ensures ∙ ap small (found_behind (λ (o : Mark). bytes_eq o.text c.args.name.now) c.args.left.now c.args.right.now c.in-Some-mark_place.place c.in-None.ensures c.in-Some-mark_place.ensures)

pub returns-in-None-mark_place : goal.returns-in-None-mark_place
returns-in-None-mark_place c = ap small (found_nowhere (λ (o : Mark). bytes_eq o.text c.args.name.now) c.args.left.now c.args.right.now c.in-None.ensures c.in-None-mark_place.ensures)
