use Rattle.items.proofs.Joining.{added}
use Rattle.items.proofs.shared_list.SharedList.add.Goals as goal

pub returns-clause-ok : goal.returns-clause-ok
returns-clause-ok g c =
    added c.push.result c.self.inside.blocks.items c.self.inside.rest c.push.new.self c.args.self.now c.args.item c.self.view_is c.push.ensures.ok
