use Rattle.std.proofs.Common.{◌++◌, ◌∷◌, [], sym, ◌∙◌, ap, arith}
use Rattle.std.proofs.lemmas.List.FromFn.{map-range_with_len_more}
use Rattle.model_back.specs.Equals.{alike_by, classes_by}
use Rattle.model_back.proofs.values.all_classes.Goals as goal

pub loop-sort-preserved : goal.loop-sort-preserved
loop-sort-preserved c =
    let f = classes_by (alike_by c.args.equals.now) c.args.sorts.now in
    c.in_ok-push.ensures.items ∙ ap (λ x. c.loop-sort.all.items ++ x ∷ []) c.in_ok-classes_of_sort.ensures ∙ ap (λ xs. xs ++ f c.loop-sort.sort ∷ []) c.loop-sort.invariant ∙ sym (map-range_with_len_more f 0 c.loop-sort.sort c.loop-sort.sort (omega arith))
