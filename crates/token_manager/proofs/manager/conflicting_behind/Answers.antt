use Rattle.std.proofs.Common.{sym, ◌∙◌, ap}
use Rattle.std.proofs.lemmas.Option.{slice_get_within}
use Rattle.token_protocol.specs.declared.granted.Granted.{Granted}
use Rattle.token_manager.proofs.Granting.{named_by_tokens}
use Rattle.token_manager.proofs.manager.conflicting_behind.Goals as goal

pub bounds-granted-number : goal.bounds-granted-number
bounds-granted-number c = slice_get_within c.args.granted.now c.args.number c.requires.alike.0 c.requires.alike.1

pub returns : goal.returns
returns c =
    c.in_ok-add_from.ensures
    ∙ named_by_tokens c.args.new.now.spec.now c.args.new.now.world.now c.args.new.now.call.now c.args.granted.now c.args.number c.index-granted-number.result c.in_ok-ids.ids c.requires.kept c.requires.alike
    c.index-granted-number.is (c.in_ok-ids.ensures ∙ ap (λ (g : Granted). g.after) (sym c.index-granted-number.is))
