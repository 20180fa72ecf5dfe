use Rattle.std.proofs.Common.{◌++◌, ◌∷◌, [], slice_index, sym, ◌∙◌, ap, arith}
use Rattle.std.proofs.lemmas.List.FromFn.{map-range_with_len_more}
use Rattle.model_back.proofs.world.consts_of.Goals as goal

pub loop-c-preserved : goal.loop-c-preserved
loop-c-preserved c =
    let f = slice_index c.args.elements.now in
    c.in_ok-push.ensures.ok ∙ ap (λ x. c.loop-c.consts ++ x ∷ []) c.element_of.ensures ∙ ap (λ xs. xs ++ f c.loop-c.c ∷ []) c.loop-c.invariant ∙ sym (map-range_with_len_more f 0 c.loop-c.c c.loop-c.c (omega arith))
