use Rattle.std.proofs.Common.{sym, ◌∙◌, subst}
use Rattle.token_manager.specs.Index.{AreUpTo}
use Rattle.token_manager.proofs.Counted.{read_at, list_replaced, numbers_replaced, on_ok}
use Rattle.token_manager.proofs.index.GrantIndex.catch_up.Goals as goal

pub returns-in_err-reach-clause-index : goal.returns-in_err-reach-clause-index
returns-in_err-reach-clause-index c = c.reach.ensures.kept c.args.granted.now (subst (AreUpTo c.args.granted.now) (sym c.self.view_is) c.requires.index)

pub bring_up-requires : goal.bring_up-requires
bring_up-requires c =
    let are = c.reach.ensures.kept c.args.granted.now (subst (AreUpTo c.args.granted.now) (sym c.self.view_is) c.requires.index) in
    let lists = c.reach.new.lists.items in
    record { list = are c.args.op c.index_mut.result.now (read_at lists c.args.op c.index_mut.result.now c.in_ok-reach.ensures.reached c.index_mut.ensures.value) }

pub returns-clause-index : goal.returns-clause-index
returns-clause-index c =
    let are = c.reach.ensures.kept c.args.granted.now (subst (AreUpTo c.args.granted.now) (sym c.self.view_is) c.requires.index) in
    list_replaced c.args.granted.now c.reach.new.lists.items c.args.op c.bring_up.new.list are c.bring_up.ensures.list

pub returns-clause-numbers : goal.returns-clause-numbers
returns-clause-numbers c =
    on_ok c.bring_up.result (λ is. numbers_replaced c.reach.new.lists.items c.args.op c.bring_up.new.list c.in_ok-reach.ensures.reached ∙ is) c.bring_up.ensures.numbers
