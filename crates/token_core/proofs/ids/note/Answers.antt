use Rattle.token_core.proofs.Noting.{noted}
use Rattle.token_core.proofs.ids.note.Goals as goal

pub returns : goal.returns
returns c = λ other. noted c.args.members.now c.insert.new.self c.args.id c.insert.result (c.insert.ensures.succeeds c.requires) c.insert.ensures.updates other
