use Rattle.std.proofs.Common.{◌∙◌, ap, refl, List, [], ◌∷◌, ◌++◌, cond}
use Rattle.std.specs.Prelude.{take}
use Rattle.token_rules.specs.declared.rivals.Rivalry.{Rivalry}
use Rattle.token_manager.specs.Index.{can_conflict, numbers_from}
use Rattle.token_manager.proofs.Counted.{upto_next, read_at}
use Rattle.token_manager.proofs.candidates.Candidates.catch_up.Goals as goal

pub loop-number-preserved : goal.loop-number-preserved
loop-number-preserved c =
    let is = c.loop-number.invariant in
    let lt = c.loop-number-test.true in
    let granted = c.args.granted.now in (
      upto_next granted c.loop-number.self.rivals c.loop-number.self.numbers c.note.new.numbers c.loop-number.number c.index-granted-number.result lt
          (read_at granted c.loop-number.number c.index-granted-number.result lt c.index-granted-number.is)
          (is.0.numbers ∙ ap (λ n. numbers_from c.loop-number.self.rivals 0 (take n granted)) is.1)
          (c.in_ok-note.ensures.ok ∙ ap (λ (l : List Rivalry). c.loop-number.self.numbers ++ cond (can_conflict l c.index-granted-number.result.call.op) (c.loop-number.number ∷ []) []) c.as_slice.ensures),
      refl,
      is.2,
    )
