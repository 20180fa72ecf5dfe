use Rattle.std.proofs.Common.{sym, ◌∙◌, ap}
use Rattle.token_core.specs.Log.{lists_of}
use Rattle.token_core.specs.Left.{after_begun}
use Rattle.token_core.proofs.replica.keep_begun.Goals as goal

pub returns-in-Void : goal.returns-in-Void
returns-in-Void c =
    c.keep_void.ensures c.args.taken.now.items ∙ ap (after_begun (lists_of c.args.log.now) c.args.taken.now.items c.args.event) (sym c.in-Void.is)
