use Rattle.std.proofs.Common.{sym, ◌∙◌}
use Rattle.token_rules.proofs.Tokens.{no_conflict}
use Rattle.token_manager.proofs.manager.NewCall.conflicts_with.Goals as goal

pub returns-then-not-may_conflict : goal.returns-then-not-may_conflict
returns-then-not-may_conflict c =
    let new = c.args.self.now in
    sym (no_conflict new.spec.now new.world.now c.args.granted.now new.call.now new.rivals.now new.rivals_are (sym c.may_conflict.ensures ∙ c.if-not-may_conflict.true))
