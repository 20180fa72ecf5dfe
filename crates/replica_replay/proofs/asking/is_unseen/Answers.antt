use Rattle.std.proofs.Common.{Bool, not, ◌&&◌, sym, ◌∙◌, ap}
use Rattle.token_rules.proofs.Tokens.{no_conflict}
use Rattle.replica_replay.proofs.asking.is_unseen.Goals as goal

pub returns-then-not-may_conflict : goal.returns-then-not-may_conflict
returns-then-not-may_conflict c =
    let none = no_conflict c.args.spec.now c.args.world.now c.args.other.now c.args.call.now c.args.rivals.now c.requires (sym c.may_conflict.ensures ∙ c.if-not-may_conflict.true) in
    ap (λ (b : Bool). b && not c.args.is_taken) (sym none)
