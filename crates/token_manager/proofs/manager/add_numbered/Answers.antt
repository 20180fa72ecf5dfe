use Rattle.std.proofs.Common.{◌++◌, sym, ◌∙◌, ap}
use Rattle.std.proofs.lemmas.List.{append-nil}
use Rattle.token_manager.specs.Named.{id_if}
use Rattle.token_manager.proofs.manager.add_numbered.Goals as goal

pub returns-in-None : goal.returns-in-None
returns-in-None c = sym (append-nil c.args.ids.now) ∙ ap (λ o. c.args.ids.now ++ id_if c.args.new.now.spec.now c.args.new.now.world.now c.args.new.now.call.now o) c.in-None.ensures
