use Rattle.token_core.proofs.First.{net_first}
use Rattle.token_core.proofs.net.Net.new.Goals as goal

pub invariant_of-result : goal.invariant_of-result
invariant_of-result g c =
    net_first (g.R.Runner.specification c.args.runner) (g.R.Runner.setting c.args.runner) c.args.replicas c.in_ok-replicas.replicas.items c.new.result c.new-2.result c.in_ok-replicas.ensures c.new.ensures c.new-2.ensures
