use Rattle.std.proofs.Common.{◌≡◌, ℕ, ◌<◌, nat_lt, ◌++◌, ◌∷◌, [], get_or, length, sym, ◌∙◌, ap, arith}
use Rattle.std.proofs.lemmas.Bool.{ltb-true}
use Rattle.std.proofs.lemmas.Grind.{common_steps}
use Rattle.std.proofs.lemmas.List.FromFn.{map-range_with_len_more}
use Rattle.ground_problem.specs.Classes.{place_like}
use Rattle.model_back.specs.Equals.{alike_by, classes_by, element_by}
use Rattle.model_back.proofs.Scanning.{class_at, all_at}
use Rattle.model_back.proofs.values.all_elements.Goals as goal

pub loop-sort-preserved : goal.loop-sort-preserved
loop-sort-preserved c =
    let like = alike_by c.args.equals.now in
    let sorts = c.args.sorts.now in
    let n = c.loop-sort.sort-index in
    let s = get_or sorts n 0 in
    let lists = c.args.classes.now in
    let f = element_by like sorts in
    let below : s < length lists = ltb-true s (length lists) (all_at (λ (x : ℕ). nat_lt x (length lists)) sorts n c.requires.exist c.loop-sort-test.true) in
    let own : c.as_slice.result.now ≡ classes_by like sorts s = c.as_slice.ensures ∙ class_at (classes_by like sorts) lists c.index-classes-sort.result s c.requires.classes below c.index-classes-sort.is in
    let e : c.in_ok-element.field-0 ≡ f n = c.in_ok-element.ensures ∙ ap (λ k. place_like like k c.as_slice.result.now) c.loop-sort.invariant.constant ∙ ap (place_like like n) own in
    record {
      elements = c.in_ok-push.ensures.items ∙ ap (λ x. c.loop-sort.elements.items ++ x ∷ []) e ∙ ap (λ xs. xs ++ f n ∷ []) c.loop-sort.invariant.elements ∙ sym (map-range_with_len_more f 0 n n (omega arith));
      constant = grind (arith, common_steps);
    }
