use Rattle.std.proofs.Common.{sym, subst}
use Rattle.token_manager.specs.Index.{AreUpTo}
use Rattle.token_manager.proofs.Counted.{one_list_more}
use Rattle.token_manager.proofs.index.reach.Goals as goal

pub loop-alloc-preserved : goal.loop-alloc-preserved
loop-alloc-preserved c = λ granted are.
    subst (AreUpTo granted) (sym c.in_ok-push.ensures.items)
    (one_list_more granted c.loop-alloc.lists.items c.new.result (c.loop-alloc.invariant granted are) (c.new.ensures granted))

pub returns-in_err-push-clause-kept : goal.returns-in_err-push-clause-kept
returns-in_err-push-clause-kept c = λ granted are. subst (AreUpTo granted) (sym c.in_err-push.ensures.items) (c.loop-alloc.invariant granted are)
