use Rattle.std.proofs.Common.{sym, subst}
use Rattle.token_protocol.specs.declared.node.Heard.{Heard}
use Rattle.token_core.specs.Log.{lists_of}
use Rattle.token_core.specs.Left.{Left, IsAfterHeard}
use Rattle.token_core.proofs.replica.keep_heard.Goals as goal

pub returns-in-Void : goal.returns-in-Void
returns-in-Void c =
    let left : Left = record { did = c.keep_void.result; lists = lists_of c.keep_void.new.log; taken = c.args.taken.now.items } in
    subst (λ (h : Heard). IsAfterHeard (lists_of c.args.log.now) c.args.taken.now.items c.args.id c.args.event h left) (sym c.in-Void.is) (c.keep_void.ensures c.args.taken.now.items)
