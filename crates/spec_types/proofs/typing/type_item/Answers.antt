use Rattle.std.proofs.Common.{◌≡◌, List, map, sym, ◌∙◌, ap, subst}
use Rattle.spec_trees.specs.declared.tree.Item.{Item}
use Rattle.spec_trees.specs.declared.tree.Line.{Line}
use Rattle.spec_trees.specs.declared.tree.Param.{Param}
use Rattle.spec_trees.specs.Form.{ItemForm, invariant_form, operation_form, item_of, line_of, sentence_of}
use Rattle.typing_rules.specs.Items.{typed_item}
use Rattle.spec_types.specs.Refusals.{Makes}
use Rattle.spec_types.specs.Views.{known_of}
use Rattle.spec_types.proofs.typing.type_item.Goals as goal

pub returns-in-Invariant : goal.returns-in-Invariant
returns-in-Invariant c =
    let e : item_of c.args.item.now ≡ invariant_form c.in-Invariant.word c.in-Invariant.mark (sentence_of c.in-Invariant.sentence) = ap (λ (i : Item). item_of i) c.in-Invariant.is in
    subst (λ (i : ItemForm). Makes (typed_item (known_of c.args.known.now) i) (known_of c.type_invariant.new.known) c.type_invariant.result) (sym e) c.type_invariant.ensures

pub returns-in-Operation : goal.returns-in-Operation
returns-in-Operation c =
    let e : item_of c.args.item.now ≡ operation_form c.in-Operation.word c.in-Operation.mark c.in-Operation.params (map line_of c.in-Operation.lines) = ap (λ (i : Item). item_of i) c.in-Operation.is in
    let p = ap (λ (ps : List Param). operation_form c.in-Operation.word c.in-Operation.mark ps (map line_of c.as_slice-lines.result.now)) c.as_slice-params.ensures in
    let l = ap (λ (ls : List Line). operation_form c.in-Operation.word c.in-Operation.mark c.in-Operation.params (map line_of ls)) c.as_slice-lines.ensures in
    subst (λ (i : ItemForm). Makes (typed_item (known_of c.args.known.now) i) (known_of c.type_operation.new.known) c.type_operation.result) (p ∙ l ∙ sym e) c.type_operation.ensures
